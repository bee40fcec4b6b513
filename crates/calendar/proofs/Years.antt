-- Laws of the Gregorian rules: how long years and months are together, and that they come again after 400 years.
-- Assumes nothing.
use mathlib.Core.Path.{◌≡◌, refl, sym, ap, ◌∙◌, fun_ext}
use mathlib.Core.Bool.{Bool, true, false, cond}
use Prim.Native.Nat.{ℕ, zero, suc, ◌+◌, ◌-◌, ◌*◌, ◌/◌, ◌%◌, ◌≤◌, ◌<◌}
use native.Mathlib.Omega.{arith}
use lib.Dec.{ltb, ltb→lt}
use lib.ListN.{get_or}
use Rattle.calendar.specs.Gregorian.{leap, year_days, month_table, month_length, month_days}
use Rattle.calendar.specs.Walk.{span, walk}
use Rattle.calendar.specs.Dates.{calendar_days}
use Rattle.calendar.proofs.Tests.{at_each}
use Rattle.calendar.proofs.Spans.{Falls, Going, going-ends, span_none, span-append, span-mono, span-turn}

-- the cycle: 400 years are 146,097 days
first-cycle : span year_days 0 400 ≡ 146097
unfolding span year_days leap
first-cycle = refl

-- and after it the years come again
pub leap-period : (y : ℕ) → leap (y + 400) ≡ leap y
unfolding leap
leap-period y =
    let a : (y + 400) % 4 ≡ y % 4 = omega arith in
    let b : (y + 400) % 100 ≡ y % 100 = omega arith in
    let c : (y + 400) % 400 ≡ y % 400 = omega arith in
    rw (a, b, c)

pub year_days-period : (y : ℕ) → year_days (y + 400) ≡ year_days y
unfolding year_days
year_days-period y = rw (leap-period y)

pub month_days-period : (y m : ℕ) → month_days (y + 400) m ≡ month_days y m
unfolding month_days
month_days-period y m = rw (leap-period y)

-- so it is a cycle from any year on
pub cycle-days : (y : ℕ) → span year_days y 400 ≡ 146097
cycle-days zero = first-cycle
cycle-days (suc y) = span-turn year_days y 400 (year_days-period y) ∙ cycle-days y

pub cycles-days : (y q : ℕ) → span year_days y (q * 400) ≡ q * 146097
cycles-days y zero = span_none year_days y
cycles-days y (suc q) =
    let e : suc q * 400 ≡ 400 + q * 400 = omega arith in
    ap (span year_days y) e ∙ span-append year_days y 400 (q * 400)
    ∙ omega (arith, cycle-days y, cycles-days (y + 400) q)

pub calendar-days : span year_days 1970 8030 ≡ calendar_days
unfolding span year_days leap
calendar-days = refl

-- the days from 1970 on, after whole cycles
pub after-cycles : (q : ℕ) → span year_days 1970 (1970 + q * 400 - 1970) ≡ q * 146097
after-cycles q = let e : 1970 + q * 400 - 1970 ≡ q * 400 = omega arith in rw e (cycles-days 1970 q)

-- years of the calendar have no more days together than it has
pub years-small : (n : ℕ) → n ≤ 8030 → span year_days 1970 n ≤ calendar_days
years-small n h = rw calendar-days at (span-mono year_days 1970 h)

-- a day of the calendar is on the walk over its years after the whole cycles before it
pub years-going : (day : ℕ) → day < calendar_days → Going year_days 1970 8030 day (1970 + day / 146097 * 400) (day % 146097)
years-going day h =
    record { from = omega arith; sum = omega (arith, after-cycles (day / 146097)); within = rw calendar-days h }

length-small : ℕ → Bool
unfolding month_table
length-small k = ltb (get_or month_table k 0) 32

pub lengths-small : (k : ℕ) → k < 12 → get_or month_table k 0 < 32
unfolding length-small
lengths-small k h = ltb→lt _ _ (at_each length-small 12 tt k h)

-- the twelve months are the year, leap or not
pub month_length-days : (b : Bool) → span (month_length b) 1 12 ≡ cond b 366 365
unfolding span month_length month_table
month_length-days true = refl
month_length-days false = refl

pub months-days : (y : ℕ) → span (month_days y) 1 12 ≡ year_days y
unfolding month_days year_days
months-days y = month_length-days (leap y)

pub months-going : (y day : ℕ) → day < year_days y → Going (month_days y) 1 12 day 1 day
months-going y day h =
    record { from = omega arith; sum = omega (arith, span_none (month_days y) 1); within = rw (months-days y) h }

-- 146,097 days later the year is 400 more
pub years-shift : {day at rest : ℕ} → Falls year_days 1970 8030 day (record { at = at; rest = rest })
    → day + 146097 < calendar_days → walk year_days 1970 8030 (day + 146097) ≡ record { at = at + 400; rest = rest }
years-shift {day} {at} {rest} f h =
    let a : at + 400 - 1970 ≡ at - 1970 + 400 = omega (arith, f.from) in
    let g : Going year_days 1970 8030 (day + 146097) (at + 400) rest =
    record {
      from = omega (arith, f.from);
      sum = rw a (omega (arith, f.sum, span-append year_days 1970 (at - 1970) 400, cycle-days (1970 + (at - 1970))));
      within = rw calendar-days h;
    }
    in
    sym (going-ends year_days g (sym (year_days-period at)) f.inside)

-- and the months are as long
pub months-shift : (y day : ℕ) → walk (month_days (y + 400)) 1 12 day ≡ walk (month_days y) 1 12 day
months-shift y day = ap (λ (f : ℕ → ℕ). walk f 1 12 day) (fun_ext (month_days-period y))
