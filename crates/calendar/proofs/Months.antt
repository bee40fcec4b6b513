-- Laws of months counted through the years: month number c is month c % 12 + 1 of the year c / 12.
-- Assumes nothing.
use mathlib.Core.Path.{◌≡◌, ◌∙◌}
use Prim.Native.Nat.{ℕ, zero, suc, ◌+◌, ◌-◌, ◌*◌, ◌/◌, ◌%◌, ◌≤◌, ◌<◌}
use native.Mathlib.Nat.{lt_of_not-le}
use native.Mathlib.Decide.{dec_le}
use native.Mathlib.Omega.{arith}
use Rattle.calendar.specs.Gregorian.{year_days, month_days}
use Rattle.calendar.specs.Dates.{calendar_days, date_at, days_before}
use Rattle.calendar.proofs.Spans.{span_none, span-next}
use Rattle.calendar.proofs.Years.{calendar-days, months-days}
use Rattle.calendar.proofs.Dates.{OnCalendar}
use Rattle.calendar.proofs.Minutes.{date_at-on, days_before-date_at, midnight-month, midnight-day}

-- how long month number c is, and its first day, counted from 1970-01-01
unfoldable pub length_of : ℕ → ℕ
length_of c = month_days (c / 12) (c % 12 + 1)

unfoldable pub first_of : ℕ → ℕ
first_of c = days_before (c / 12) (c % 12 + 1) 1

-- the next month begins where this one ends
pub month-next : (c : ℕ) → 23640 ≤ c → first_of (c + 1) ≡ first_of c + length_of c
unfolding first_of length_of days_before
month-next c h = elim (dec_le 11 (c % 12)) [ yes k ↦ december (omega arith) | no k ↦ other (lt_of_not-le k) ]
  where
    december : c % 12 ≡ 11 → first_of (c + 1) ≡ first_of c + length_of c
    december e =
        let a : (c + 1) / 12 ≡ c / 12 + 1 = omega arith in
        let b : (c + 1) % 12 ≡ 0 = omega arith in
        rw (a, b, e)
        (omega (
          arith,
          span-next year_days 1970 (c / 12) (omega arith),
          span_none (month_days (c / 12 + 1)) 1,
          span-next (month_days (c / 12)) 1 12 (omega arith),
          months-days (c / 12),
        ))

    other : c % 12 < 11 → first_of (c + 1) ≡ first_of c + length_of c
    other l =
        let a : (c + 1) / 12 ≡ c / 12 = omega arith in
        let b : (c + 1) % 12 ≡ c % 12 + 1 = omega arith in
        rw (a, b) (omega (arith, span-next (month_days (c / 12)) 1 (c % 12 + 1) (omega arith)))

pub month-mono : (c n : ℕ) → 23640 ≤ c → first_of c ≤ first_of (c + n)
month-mono c zero h = let e : c + 0 ≡ c = omega arith in rw e (omega arith)
month-mono c (suc n) h =
    let e : c + suc n ≡ c + n + 1 = omega arith in
    rw e (omega (arith, month-mono c n h, month-next (c + n) (omega arith)))

-- the calendar's months end with its days
pub months-end : first_of 120000 ≡ calendar_days
unfolding first_of days_before
months-end = omega (arith, calendar-days, span_none (month_days 10000) 1)

-- the date of a day of a month
module _ (c j : ℕ) (h : 23640 ≤ c) (k : c < 120000) (l : j < length_of c) where
  on : OnCalendar (c / 12) (c % 12 + 1) (j + 1) 0 0
  unfolding length_of
  on =
      record {
        year_from = omega arith;
        year_to = omega arith;
        month_from = omega arith;
        month_to = omega arith;
        day_from = omega arith;
        day_to = omega arith;
        hour_to = omega arith;
        minute_to = omega arith;
      }

  day-of : first_of c + j ≡ days_before (c / 12) (c % 12 + 1) (j + 1)
  unfolding first_of days_before
  day-of = omega arith

  pub day-month : (date_at ((first_of c + j) * 1440)).month ≡ c % 12 + 1
  day-month = rw day-of (midnight-month on)

  pub day-day : (date_at ((first_of c + j) * 1440)).day ≡ j + 1
  day-day = rw day-of (midnight-day on)

-- the month of a day, by the date of its midnight
pub record InMonth (day c j : ℕ) : Type 0 where
  pub from : 23640 ≤ c
  pub before : c < 120000
  pub inside : j < length_of c
  pub sum : first_of c + j ≡ day

days_before-first : (year month day : ℕ) → days_before year month 1 + (day - 1) ≡ days_before year month day
unfolding days_before
days_before-first year month day = omega arith

pub day-in-month : (day : ℕ) → day < calendar_days
    → let d = date_at (day * 1440) in InMonth day (d.year * 12 + (d.month - 1)) (d.day - 1)
unfolding length_of first_of
day-in-month day h =
    let m = day * 1440 in
    let o = date_at-on m (omega arith) in
    let c = (date_at m).year * 12 + ((date_at m).month - 1) in
    let y : c / 12 ≡ (date_at m).year = omega (arith, o.month_from, o.month_to) in
    let r : c % 12 + 1 ≡ (date_at m).month = omega (arith, o.month_from, o.month_to) in
    record {
      from = omega (arith, o.year_from);
      before = omega (arith, o.year_to, o.month_to);
      inside = rw (y, r) (omega (arith, o.day_from, o.day_to));
      sum = rw (y, r) (days_before-first (date_at m).year (date_at m).month (date_at m).day ∙ days_before-date_at m (omega arith) ∙ omega arith);
    }
