-- Laws of dates: where the days of the calendar fall, and the days before a date.
-- Assumes nothing.
use mathlib.Core.Path.{◌≡◌, refl}
use mathlib.Core.Bool.{Bool, true, false, cond, ◌&&◌}
use mathlib.Core.List.{List, [], ◌∷◌}
use Prim.Native.Nat.{ℕ, ◌+◌, ◌-◌, ◌≤◌, ◌<◌}
use native.Mathlib.Omega.{arith}
use lib.Dec.{T, leb, ltb, eqb, eqb→eq, ltb→lt}
use lib.ListN.{get_or}
use borrow.Author.Tests.{leb-true, ltb-true, le-leb, lt-ltb}
use Rattle.calendar.specs.Gregorian.{leap, year_days, month_table, month_length, month_days}
use Rattle.calendar.specs.Walk.{span}
use Rattle.calendar.specs.Dates.{calendar_days, year_of, month_of, exists, days_before}
use Rattle.calendar.proofs.Tests.{and-true, every, at_each}
use Rattle.calendar.proofs.Spans.{Falls, span-next, falls-within, walk-falls}
use Rattle.calendar.proofs.YearStarts.{start_at, start-at}
use Rattle.calendar.proofs.Years.{calendar-days, months-days}

-- ---- where a day falls

pub year-falls : (day : ℕ) → day < calendar_days → Falls year_days 1970 8030 day (year_of day)
unfolding year_of
year-falls day h = walk-falls year_days 1970 8030 day (rw calendar-days h)

-- the year of a day, as the years from 1970 on
pub year-number : (day : ℕ) → day < calendar_days → (n : ℕ) × (start_at n ≤ day) × (day < start_at (n + 1))
year-number day h =
    let f = year-falls day h in
    let n = (year_of day).at - 1970 in
    let e : (year_of day).at + 1 - 1970 ≡ n + 1 = omega (arith, f.from) in (
      n,
      rw (start-at n) (omega (arith, f.sum)),
      rw (start-at (n + 1), ← e) (omega (arith, f.sum, f.inside, span-next year_days 1970 (year_of day).at f.from)),
    )

pub month-falls : (year day : ℕ) → day < year_days year → Falls (month_days year) 1 12 day (month_of year day)
unfolding month_of
month-falls year day h = walk-falls (month_days year) 1 12 day (rw (months-days year) h)

-- ---- the days before a month, by the table of them in a year that isn't leap

unfoldable pub month_starts : List ℕ
month_starts = 0 ∷ 31 ∷ 59 ∷ 90 ∷ 120 ∷ 151 ∷ 181 ∷ 212 ∷ 243 ∷ 273 ∷ 304 ∷ 334 ∷ []

unfoldable pub start_of : Bool → ℕ → ℕ
unfolding month_starts
start_of b m = cond (b && ltb 2 m) (get_or month_starts (m - 1) 0 + 1) (get_or month_starts (m - 1) 0)

start_small : ℕ → Bool
unfolding month_starts
start_small k = ltb (get_or month_starts k 0) 335

pub starts-small : (k : ℕ) → k < 12 → get_or month_starts k 0 < 335
unfolding start_small
starts-small k h = ltb→lt _ _ (at_each start_small 12 tt k h)

start_right : Bool → ℕ → Bool
start_right b m = eqb (start_of b m) (span (month_length b) 1 (m - 1))

starts-right : (b : Bool) → T (every (start_right b) 13)
unfolding start_right start_of span month_length month_table
starts-right true = tt
starts-right false = tt

pub month-start : (year m : ℕ) → m < 13 → start_of (leap year) m ≡ span (month_days year) 1 (m - 1)
unfolding month_days start_right
month-start year m h = eqb→eq _ _ (at_each (start_right (leap year)) 13 (starts-right (leap year)) m h)

-- ---- which dates are on the calendar

pub record OnCalendar (year month day hour minute : ℕ) : Type 0 where
  pub year_from : 1970 ≤ year
  pub year_to : year ≤ 9999
  pub month_from : 1 ≤ month
  pub month_to : month ≤ 12
  pub day_from : 1 ≤ day
  pub day_to : day ≤ month_days year month
  pub hour_to : hour < 24
  pub minute_to : minute < 60

-- only the numbers 1 to 12 have days as months
pub month-is : (year m : ℕ) → 0 < month_days year m → (1 ≤ m) × (m ≤ 12)
unfolding month_days month_length
month-is year m = go (leb 1 m) (leb m 12) refl refl
  where
    go : (a b : Bool) → leb 1 m ≡ a → leb m 12 ≡ b
        → 0 < cond (a && b) (cond (leap year && eqb m 2) 29 (get_or month_table (m - 1) 0)) 0 → (1 ≤ m) × (m ≤ 12)
    go true true p q h = (leb-true 1 m p, leb-true m 12 q)
    go true false p q h = absurd (omega arith)
    go false b p q h = absurd (omega arith)

pub on-calendar : {year month day hour minute : ℕ}
    → (exists year month day hour minute && leb 1970 year && leb year 9999) ≡ true → OnCalendar year month day hour minute
unfolding exists
on-calendar {year} {month} {day} {hour} {minute} e =
    let (e1, year_to) = and-true _ _ e in
    let (e2, year_from) = and-true _ _ e1 in
    let (e3, minute_to) = and-true _ _ e2 in
    let (e4, hour_to) = and-true _ _ e3 in
    let (day_from, day_to) = and-true _ _ e4 in
    let f = leb-true 1 day day_from in
    let t = leb-true day (month_days year month) day_to in
    let m = month-is year month (omega arith) in
    record {
      year_from = leb-true _ _ year_from;
      year_to = leb-true _ _ year_to;
      month_from = m.0;
      month_to = m.1;
      day_from = f;
      day_to = t;
      hour_to = ltb-true _ _ hour_to;
      minute_to = ltb-true _ _ minute_to;
    }

module _ {year month day hour minute : ℕ} (o : OnCalendar year month day hour minute) where
  pub exists-on : exists year month day hour minute ≡ true
  unfolding exists
  exists-on = rw (le-leb _ _ o.day_from, le-leb _ _ o.day_to, lt-ltb _ _ o.hour_to, lt-ltb _ _ o.minute_to)

  pub calendar-on : (exists year month day hour minute && leb 1970 year && leb year 9999) ≡ true
  calendar-on = rw (exists-on, le-leb _ _ o.year_from, le-leb _ _ o.year_to)

  -- where a date's days fall
  pub date-in-month : Falls (month_days year) 1 12 (span (month_days year) 1 (month - 1) + (day - 1)) (record { at = month; rest = day - 1 })
  date-in-month =
      record {
        from = o.month_from;
        before = omega (arith, o.month_to);
        inside = omega (arith, o.day_from, o.day_to);
        sum = refl;
      }

  pub date-in-year : Falls year_days 1970 8030 (days_before year month day)
      (record { at = year; rest = span (month_days year) 1 (month - 1) + (day - 1) })
  unfolding days_before
  date-in-year =
      record {
        from = o.year_from;
        before = omega (arith, o.year_to);
        inside = rw (months-days year) at (falls-within (month_days year) date-in-month);
        sum = omega arith;
      }

  pub days_before-small : days_before year month day < calendar_days
  days_before-small = rw calendar-days at (falls-within year_days date-in-year)
