-- How soon a date comes: in years that recur, a date is the year's first day and a constant.
-- Assumes nothing.
use mathlib.Core.Path.{◌≡◌, ap, fun_ext}
use mathlib.Core.Bool.{Bool, true, false, cond, ◌&&◌}
use Prim.Native.Nat.{ℕ, ◌+◌, ◌-◌, ◌≤◌, ◌<◌}
use native.Mathlib.Nat.{lt_of_not-le}
use native.Mathlib.Decide.{dec_le}
use native.Mathlib.Omega.{arith}
use lib.Dec.{T, leb, leb→le}
use mir.Facts.{and_yes}
use Rattle.calendar.specs.Gregorian.{leap, month_table, month_length, month_days}
use Rattle.calendar.specs.Walk.{span}
use Rattle.calendar.specs.Dates.{calendar_days, weekday_of, days_before}
use Rattle.calendar.proofs.Tests.{at_each}
use Rattle.calendar.proofs.Spans.{span-next, span-mono}
use Rattle.calendar.proofs.Theorems.{OnCalendar, calendar-days, start_at, start-at}
use Rattle.calendar.proofs.Years.{month_length-days}
use Rattle.calendar.proofs.YearStarts.{start-mono}
use Rattle.calendar.proofs.Dates.{year-number, month-is}
use Rattle.calendar.proofs.Minutes.{midnight-month, midnight-day, midnight-weekday}
use Rattle.schedule.specs.declared.Schedule.{Schedule}
use Rattle.schedule.specs.Match.{matches_day, matches_on}
use Rattle.schedule.proofs.LeapYears.{first_days, Recurs}

-- a day that is c days into its year comes in every g days
pub window : {q : ℕ → Bool} {g : ℕ} → Recurs q g → (c x : ℕ) → c ≤ 365 → x ≤ calendar_days
    → (j : ℕ) × T (q j) × (x ≤ start_at j + c) × (start_at j + c < x + g)
window {q} {g} r c x h k = elim (dec_le x c) [ yes l ↦ early l | no l ↦ late (lt_of_not-le l) ]
  where
    early : x ≤ c → (j : ℕ) × T (q j) × (x ≤ start_at j + c) × (start_at j + c < x + g)
    early l = let (j, t, b) = r.first in (j, t, omega arith, omega (arith, r.sooner))

    late : c < x → (j : ℕ) × T (q j) × (x ≤ start_at j + c) × (start_at j + c < x + g)
    late l =
        let (n, a, b) = year-number (x - 1 - c) (omega arith) in
        let (j, u, t, v) = r.next n in
        let m : start_at (n + 1) ≤ start_at j = start-mono (omega arith) in
        (j, t, omega arith, omega arith)

-- a month has seven days at least, most in a leap year, and never more than 31
lengths-right : ℕ → Bool
lengths-right k =
    let m = k + 1 in
    leb 7 (month_length false m) && (leb (month_length false m) (month_length true m) && leb (month_length true m) 31)

lengths : (k : ℕ) → k < 12
    → let m = k + 1 in (7 ≤ month_length false m) × (month_length false m ≤ month_length true m) × (month_length true m ≤ 31)
unfolding lengths-right month_length month_table
lengths k h =
    let t = at_each lengths-right 12 tt k h in
    let p = and_yes (leb 7 (month_length false (k + 1))) _ t in
    let q = and_yes (leb (month_length false (k + 1)) (month_length true (k + 1))) _ p.1 in
    (leb→le _ _ p.0, leb→le _ _ q.0, leb→le _ _ q.1)

pub month-lengths : (m : ℕ) → 1 ≤ m → m ≤ 12
    → (7 ≤ month_length false m) × (month_length false m ≤ month_length true m) × (month_length true m ≤ 31)
month-lengths m h k = let e : m - 1 + 1 ≡ m = omega arith in rw e at (lengths (m - 1) (omega arith))

pub longest : (year m : ℕ) → 1 ≤ m → m ≤ 12 → month_days year m ≤ month_length true m
unfolding month_days
longest year m h k = go (leap year)
  where
    go : (b : Bool) → month_length b m ≤ month_length true m
    go true = omega arith
    go false = (month-lengths m h k).1

-- what is no month has no days, so none has more than 31
pub month-days-small : (year m : ℕ) → month_days year m ≤ 31
month-days-small year m = elim (dec_le (month_days year m) 0) [ yes h ↦ omega arith | no h ↦ some (month-is year m (lt_of_not-le h)) ]
  where
    some : (1 ≤ m) × (m ≤ 12) → month_days year m ≤ 31
    some (h, k) = omega (arith, longest year m h k, month-lengths m h k)

-- how far into its year a date is, given whether the year is leap
unfoldable pub into : Bool → ℕ → ℕ → ℕ
into b m d = span (month_length b) 1 (m - 1) + (d - 1)

-- a day d of month m, in years that are leap or not
pub record Is (b : Bool) (m d : ℕ) : Type 0 where
  pub month_from : 1 ≤ m
  pub month_to : m ≤ 12
  pub day_from : 1 ≤ d
  pub day_to : d ≤ month_length b m

year-small : (b : Bool) → cond b 366 365 ≤ 366
year-small true = omega arith
year-small false = omega arith

pub into-small : {b : Bool} {m d : ℕ} → Is b m d → into b m d ≤ 365
unfolding into
into-small {b} {m} {d} i =
    let e : m + 1 - 1 ≡ m = omega arith in
    omega (
      arith,
      i.day_from,
      i.day_to,
      span-next (month_length b) 1 m i.month_from,
      ap (span (month_length b) 1) e,
      span-mono (month_length b) 1 i.month_to,
      month_length-days b,
      year-small b,
    )

module _ {b : Bool} {j m d : ℕ} (lb : leap (1970 + j) ≡ b) (hj : j < 8030) (i : Is b m d) where
  months-are : (k : ℕ) → month_days (1970 + j) k ≡ month_length b k
  unfolding month_days
  months-are k = rw lb

  on : OnCalendar (1970 + j) m d 0 0
  on =
      record {
        year_from = omega arith;
        year_to = omega arith;
        month_from = i.month_from;
        month_to = i.month_to;
        day_from = i.day_from;
        day_to = rw (months-are m) i.day_to;
        hour_to = omega arith;
        minute_to = omega arith;
      }

  day-is : start_at j + into b m d ≡ days_before (1970 + j) m d
  unfolding into days_before
  day-is =
      let e : 1970 + j - 1970 ≡ j = omega arith in
      rw (e, start-at j, fun_ext months-are) (omega arith)

  -- what matches on that day
  pub date-matches : (s : Schedule) → matches_on s (start_at j + into b m d) ≡ matches_day s m d (weekday_of (start_at j + into b m d))
  unfolding matches_on
  date-matches s =
      rw (midnight-weekday (start_at j + into b m d)) (rw day-is (rw (midnight-month on, midnight-day on)))

before-end : (j : ℕ) → start_at j < calendar_days → j < 8030
before-end j h = elim (dec_le 8030 j) [ yes l ↦ absurd (past l) | no l ↦ lt_of_not-le l ]
  where
    past : 8030 ≤ j → ⊥
    past l = omega (arith, start-mono l, start-at 8030, calendar-days)

-- A date comes in every g days, in years that pass q.
pub record Comes (q : ℕ → Bool) (b : Bool) (m d x g : ℕ) : Type 0 where
  pub year : ℕ
  pub passes : T (q year)
  pub low : x ≤ start_at year + into b m d
  pub high : start_at year + into b m d < x + g
  pub leaps : leap (1970 + year) ≡ b
  pub before : year < 8030

pub date-comes : {q : ℕ → Bool} {g : ℕ} {b : Bool} {m d : ℕ} → Recurs q g → ((j : ℕ) → T (q j) → leap (1970 + j) ≡ b) → Is b m d
    → (x : ℕ) → x + g ≤ calendar_days → Comes q b m d x g
date-comes {q} {g} {b} {m} {d} r leaps i x h =
    let (j, t, u, v) = window r (into b m d) x (into-small i) (omega arith) in
    record { year = j; passes = t; low = u; high = v; leaps = leaps j t; before = before-end j (omega arith) }

-- and in the calendar's first days
pub date-comes-first : {q : ℕ → Bool} {g : ℕ} {b : Bool} {m d : ℕ} → Recurs q g → ((j : ℕ) → T (q j) → leap (1970 + j) ≡ b) → Is b m d
    → Comes q b m d 0 first_days
date-comes-first r leaps i =
    let (j, t, h) = r.first in
    let c = into-small i in
    record { year = j; passes = t; low = omega arith; high = omega arith; leaps = leaps j t; before = before-end j (omega arith) }
