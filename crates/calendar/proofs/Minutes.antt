-- Laws of minutes: the date of a minute and the minute of a date, taken together.
-- Assumes nothing.
use mathlib.Core.Path.{◌≡◌, ap}
use mathlib.Core.Logic.{inl, inr}
use mathlib.Core.List.{List, [], ◌∷◌}
use Prim.Native.Nat.{ℕ, ◌+◌, ◌-◌, ◌*◌, ◌/◌, ◌%◌, ◌≤◌, ◌<◌}
use native.Mathlib.Omega.{arith}
use lib.ListN.{get_or}
use borrow.Author.Tests.{le-leb, lt-leb}
use Rattle.std.specs.Prelude.{Ok, Err}
use Rattle.calendar.specs.Gregorian.{year_days, month_days}
use Rattle.calendar.specs.Refusals.{not_on_calendar}
use Rattle.calendar.specs.Dates.{calendar_days, last_minute, weekday_of, year_of, month_of}
use Rattle.calendar.specs.Dates.{date_at, date_of, days_before, minute_at}
use Rattle.calendar.specs.Order.{parts, Earlier}
use Rattle.calendar.proofs.Spans.{Falls, falls-walk, falls-order}
use Rattle.calendar.proofs.Dates.{OnCalendar, year-falls, month-falls, date-in-month, date-in-year, days_before-small}

-- ---- from a minute to its date

-- the date of a minute of the calendar is on the calendar
pub date_at-on : (m : ℕ) → m ≤ last_minute
    → let d = date_at m in OnCalendar d.year d.month d.day d.hour d.minute
unfolding date_at
date_at-on m h =
    let f = year-falls (m / 1440) (omega arith) in
    let g = month-falls (year_of (m / 1440)).at (year_of (m / 1440)).rest f.inside in
    record {
      year_from = f.from;
      year_to = omega (arith, f.before);
      month_from = g.from;
      month_to = omega (arith, g.before);
      day_from = omega arith;
      day_to = omega (arith, g.inside);
      hour_to = omega arith;
      minute_to = omega arith;
    }

pub days_before-date_at : (m : ℕ) → m ≤ last_minute
    → let d = date_at m in days_before d.year d.month d.day ≡ m / 1440
unfolding date_at days_before
days_before-date_at m h =
    let f = year-falls (m / 1440) (omega arith) in
    let g = month-falls (year_of (m / 1440)).at (year_of (m / 1440)).rest f.inside in
    omega (arith, f.sum, g.sum)

time-of-day : (m : ℕ) → m % 1440 / 60 * 60 + m % 60 ≡ m % 1440
time-of-day m = omega arith

pub minute_at-date_at : (m : ℕ) → m ≤ last_minute
    → let d = date_at m in minute_at d.year d.month d.day d.hour d.minute ≡ m
unfolding minute_at date_at
minute_at-date_at m h = omega (arith, days_before-date_at m h, time-of-day m)

-- the date of a minute of the calendar is no refusal
pub date_of-on : (m : ℕ) → m ≤ last_minute → date_of m ≡ Ok (date_at m)
unfolding date_of
date_of-on m h = rw (le-leb m last_minute h)

-- and past the calendar there is no date
pub date_of-off : (m : ℕ) → last_minute < m → Err not_on_calendar ≡ date_of m
unfolding date_of
date_of-off m h = rw (lt-leb m last_minute h)

-- ---- from a date to its minute

module _ {year month day hour minute : ℕ} (o : OnCalendar year month day hour minute) where
  pub minute_at-on : minute_at year month day hour minute ≤ last_minute
  unfolding minute_at
  minute_at-on = omega (arith, days_before-small o, o.hour_to, o.minute_to)

  minute_at-day : minute_at year month day hour minute / 1440 ≡ days_before year month day
  unfolding minute_at
  minute_at-day = omega (arith, o.hour_to, o.minute_to)

  minute_at-hour : minute_at year month day hour minute % 1440 / 60 ≡ hour
  unfolding minute_at
  minute_at-hour = omega (arith, o.hour_to, o.minute_to)

  minute_at-minute : minute_at year month day hour minute % 60 ≡ minute
  unfolding minute_at
  minute_at-minute = omega (arith, o.minute_to)

  pub parts-minute_at : parts (date_at (minute_at year month day hour minute)) ≡ year ∷ month ∷ day ∷ hour ∷ minute ∷ []
  unfolding parts date_at year_of month_of
  parts-minute_at =
      let d : day - 1 + 1 ≡ day = omega (arith, o.day_from) in
      rw (
        minute_at-day,
        minute_at-hour,
        minute_at-minute,
        falls-walk year_days 1970 8030 _ _ (date-in-year o),
        falls-walk (month_days year) 1 12 _ _ (date-in-month o),
        d,
      )

-- the date of a day's midnight
module _ {year month day : ℕ} (o : OnCalendar year month day 0 0) where
  midnight-parts : parts (date_at (days_before year month day * 1440)) ≡ year ∷ month ∷ day ∷ 0 ∷ 0 ∷ []
  unfolding minute_at
  midnight-parts =
      let e : days_before year month day * 1440 ≡ days_before year month day * 1440 + 0 * 60 + 0 = omega arith in
      rw e (parts-minute_at o)

  pub midnight-month : (date_at (days_before year month day * 1440)).month ≡ month
  unfolding parts
  midnight-month = ap (λ (l : List ℕ). get_or l 1 0) midnight-parts

  pub midnight-day : (date_at (days_before year month day * 1440)).day ≡ day
  unfolding parts
  midnight-day = ap (λ (l : List ℕ). get_or l 2 0) midnight-parts

pub midnight-weekday : (day : ℕ) → (date_at (day * 1440)).weekday ≡ weekday_of day
unfolding date_at
midnight-weekday day = let e : day * 1440 / 1440 ≡ day = omega arith in rw e

-- ---- from one day to another

-- a later day is later by its year, its month or its day of the month, whatever the times of day are
pub later-day : (a b : ℕ) → a < b → b < calendar_days → (s t : List ℕ)
    → let y = year_of a in let z = year_of b in
    let m = month_of y.at y.rest in let n = month_of z.at z.rest in
    Earlier (y.at ∷ m.at ∷ (m.rest + 1) ∷ s) (z.at ∷ n.at ∷ (n.rest + 1) ∷ t)
unfolding Earlier
later-day a b h k s t = elim (falls-order year_days f g h) [ inl l ↦ inl l | inr e ↦ inr (e.0, months e.0 e.1) ]
  where
    f : Falls year_days 1970 8030 a (year_of a)
    f = year-falls a (omega arith)

    g : Falls year_days 1970 8030 b (year_of b)
    g = year-falls b k

    months : (year_of a).at ≡ (year_of b).at → (year_of a).rest < (year_of b).rest
        → Earlier
        ((month_of (year_of a).at (year_of a).rest).at ∷ ((month_of (year_of a).at (year_of a).rest).rest + 1) ∷ s)
        ((month_of (year_of b).at (year_of b).rest).at ∷ ((month_of (year_of b).at (year_of b).rest).rest + 1) ∷ t)
    months e r =
        rw e
        (elim
        (falls-order (month_days (year_of b).at)
        (month-falls (year_of b).at (year_of a).rest (omega (arith, g.inside)))
        (month-falls (year_of b).at (year_of b).rest g.inside)
        r) [
          | inl l ↦ inl l
          | inr q ↦ inr (q.0, inl (omega (arith, q.1)))
        ])

pub weekday-cycle : (day : ℕ) → weekday_of (day + 146097) ≡ weekday_of day
unfolding weekday_of
weekday-cycle day = omega arith
