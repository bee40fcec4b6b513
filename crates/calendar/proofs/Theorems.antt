-- What holds of the calendar's definitions. Each theorem is stated by itself; the functions' contracts don't cite them.
--   minute-date-minute, date-minute-date: from a minute to its date and back, and from a date to its minute and back
--   has-minute, accepted: which dates have a minute, and are accepted
--   date_of-on, date_of-off, date_at-on: a minute of the calendar has its date, which is on the calendar, and any other has none
--   later-dates: later minutes have later dates
--   weekday-next, weekday-week: weekdays follow one another
--   parts_within: how large the parts of a date are
--   cycle: after 400 years all is the same but the year; leap-period, cycle-days: so are leap years, and the days in any 400 years are as many
--   calendar-days, start-at: how many days the calendar has, and how many are before a year, in closed form
--   direct-is-walk: the date worked out directly is the one that the walk comes to
--   LeapRule: which years are leap, in plain numbers: leap-exact, leap-days, plain-days
-- Assumes nothing.
use mathlib.Core.Path.{◌≡◌, refl, subst}
use mathlib.Core.Bool.{Bool, true, false, cond, ◌&&◌, false≢true}
use mathlib.Core.Logic.{◌↔◌, inl, inr}
use mathlib.Core.List.{List, [], ◌∷◌}
use Prim.Native.Nat.{ℕ, ◌+◌, ◌*◌, ◌/◌, ◌%◌, ◌≤◌, ◌<◌}
use native.Mathlib.Nat.{lt_of_not-le}
use native.Mathlib.Decide.{dec_le}
use native.Mathlib.Omega.{arith}
use lib.Dec.{T, leb, leb→le}
use lib.ListN.{get_or}
use borrow.Author.Tests.{le-leb}
use Rattle.std.specs.Prelude.{Result, Ok, Err, IsOk}
use Rattle.refusal.specs.declared.Refusal.{Refusal}
use Rattle.calendar.specs.Refusals.{not_on_calendar}
use Rattle.calendar.specs.Gregorian.{leap, month_table, month_length, month_days}
use Rattle.calendar.specs.Dates.{first_year, last_year, last_minute, cycle_minutes, weekday_of, year_of, month_of, date_at, exists, minute_at, minute_of}
use Rattle.calendar.specs.Order.{parts, Earlier}
use Rattle.calendar.proofs.Tests.{at_each}
use Rattle.calendar.proofs.Years.{years-shift, months-shift}
pub use Rattle.calendar.proofs.Years.{calendar-days, leap-period, cycle-days}
unfoldable pub use Rattle.calendar.proofs.YearStarts.{start_at}
pub use Rattle.calendar.proofs.YearStarts.{start-at}
pub use Rattle.calendar.proofs.Minutes.{date_at-on, date_of-on, date_of-off}
use Rattle.calendar.proofs.Minutes.{minute_at-date_at, minute_at-on, parts-minute_at, later-day, weekday-cycle}
pub use Rattle.calendar.proofs.Dates.{OnCalendar}
use Rattle.calendar.proofs.Dates.{on-calendar, exists-on, calendar-on, year-falls}
unfoldable pub use Rattle.calendar.proofs.DirectDates.{direct_at}
pub use Rattle.calendar.proofs.DirectDates.{direct-is-walk}

-- ---- from a minute to its date and back

-- minute to date to minute
pub minute-date-minute : (m : ℕ) → m ≤ last_minute
    → let d = date_at m in minute_of d.year d.month d.day d.hour d.minute ≡ Ok m
unfolding minute_of
minute-date-minute m h = rw (calendar-on (date_at-on m h), minute_at-date_at m h)

-- ---- from a date to its minute and back

-- date to minute to date: an accepted date has a minute of the calendar, whose date it is
pub date-minute-date : (year month day hour minute m : ℕ) → minute_of year month day hour minute ≡ Ok m
    → (m ≤ last_minute) × (parts (date_at m) ≡ year ∷ month ∷ day ∷ hour ∷ minute ∷ [])
unfolding minute_of
date-minute-date year month day hour minute m = go (exists year month day hour minute && leb 1970 year && leb year 9999) refl
  where
    go : (b : Bool) → (exists year month day hour minute && leb 1970 year && leb year 9999) ≡ b
        → cond b (Ok (minute_at year month day hour minute)) (Err not_on_calendar) ≡ Ok m
        → (m ≤ last_minute) × (parts (date_at m) ≡ year ∷ month ∷ day ∷ hour ∷ minute ∷ [])
    go true e z =
        let o = on-calendar {year = year} {month = month} {day = day} {hour = hour} {minute = minute} e in
        let same : m ≡ minute_at year month day hour minute = cc in
        rw same (minute_at-on o, parts-minute_at o)
    go false e z = absurd (let q : ◌≡◌ {A = ℕ} 0 1 = cc in omega arith)

-- A date has a minute exactly where it exists and its year is 1970 to 9999: some minute of the calendar has that date.
pub has-minute : (year month day hour minute : ℕ)
    → ((m : ℕ) × (m ≤ last_minute) × (parts (date_at m) ≡ year ∷ month ∷ day ∷ hour ∷ minute ∷ []))
    ↔ ((exists year month day hour minute ≡ true) × (first_year ≤ year) × (year ≤ last_year))
unfolding parts
has-minute year month day hour minute = (only, all)
  where
    only : (m : ℕ) × (m ≤ last_minute) × (parts (date_at m) ≡ year ∷ month ∷ day ∷ hour ∷ minute ∷ [])
        → (exists year month day hour minute ≡ true) × (first_year ≤ year) × (year ≤ last_year)
    only (m, h, e) =
        let o : OnCalendar year month day hour minute =
        subst (λ (l : List ℕ). OnCalendar (get_or l 0 0) (get_or l 1 0) (get_or l 2 0) (get_or l 3 0) (get_or l 4 0)) e (date_at-on m h)
        in
        (exists-on o, o.year_from, o.year_to)

    all : (exists year month day hour minute ≡ true) × (first_year ≤ year) × (year ≤ last_year)
        → (m : ℕ) × (m ≤ last_minute) × (parts (date_at m) ≡ year ∷ month ∷ day ∷ hour ∷ minute ∷ [])
    all (e, a, b) =
        let o = on-calendar {year = year} {month = month} {day = day} {hour = hour} {minute = minute} (rw (e, le-leb _ _ a, le-leb _ _ b)) in
        (minute_at year month day hour minute, minute_at-on o, parts-minute_at o)

-- a date is accepted exactly where it exists and its year is 1970 to 9999
pub accepted : (year month day hour minute : ℕ)
    → IsOk (minute_of year month day hour minute)
    ↔ ((exists year month day hour minute ≡ true) × (first_year ≤ year) × (year ≤ last_year))
unfolding minute_of
accepted year month day hour minute = (only (minute_of year month day hour minute) refl, all)
  where
    only : (a : Result ℕ Refusal) → minute_of year month day hour minute ≡ a → IsOk a → (exists year month day hour minute ≡ true) × (first_year ≤ year) × (year ≤ last_year)
    only (Ok m) e z =
        let p = date-minute-date year month day hour minute m e in
        (has-minute year month day hour minute).0 (m, p.0, p.1)
    only (Err refusal) e z = absurd (false≢true z)

    all : (exists year month day hour minute ≡ true) × (first_year ≤ year) × (year ≤ last_year) → IsOk (minute_of year month day hour minute)
    all (e, a, b) = rw (e, le-leb _ _ a, le-leb _ _ b)

-- ---- order

-- later minutes have later dates
pub later-dates : (m n : ℕ) → m < n → n ≤ last_minute → Earlier (parts (date_at m)) (parts (date_at n))
unfolding Earlier parts date_at
later-dates m n h k =
    elim (dec_le (n / 1440) (m / 1440)) [
      | yes l ↦ same-day l
      | no l ↦ later-day (m / 1440) (n / 1440) (lt_of_not-le l) (omega arith) (time m) (time n)
    ]
  where
    time : ℕ → List ℕ
    time x = (x % 1440 / 60) ∷ (x % 60) ∷ []

    same-day : n / 1440 ≤ m / 1440 → Earlier (parts (date_at m)) (parts (date_at n))
    same-day l =
        let e : n / 1440 ≡ m / 1440 = omega arith in
        rw e
        (inr (
          refl,
          inr (
            refl,
            inr (
              refl,
              elim (dec_le (n % 1440 / 60) (m % 1440 / 60)) [
                | yes q ↦ inr (omega arith, inl (omega arith))
                | no q ↦ inl (lt_of_not-le q)
              ],
            ),
          ),
        ))

-- ---- weekdays

-- the next day has the next weekday, and Sunday follows Saturday
pub weekday-next : (m : ℕ) → (date_at (m + 1440)).weekday ≡ ((date_at m).weekday + 1) % 7
unfolding date_at weekday_of
weekday-next m = omega arith

pub weekday-week : (m : ℕ) → (date_at (m + 7 * 1440)).weekday ≡ (date_at m).weekday
unfolding date_at weekday_of
weekday-week m = omega arith

-- ---- the parts of a date

short : (b : Bool) (m : ℕ) → m < 13 → T (leb (month_length b m) 31)
unfolding month_length month_table
short true = at_each (λ m. leb (month_length true m) 31) 13 tt
short false = at_each (λ m. leb (month_length false m) 31) 13 tt

weekday : (m : ℕ) → (date_at m).weekday < 7
unfolding date_at weekday_of
weekday m = omega arith

pub parts_within : (m : ℕ) → m ≤ last_minute
    → let d = date_at m in (d.year ≤ last_year) × (d.month ≤ 12) × (d.day ≤ 31) × (d.hour < 24) × (d.minute < 60) × (d.weekday < 7)
unfolding month_days
parts_within m h =
    let d = date_at m in
    let o = date_at-on m h in
    let days = leb→le (month_days d.year d.month) 31 (short (leap d.year) d.month (omega (arith, o.month_to))) in
    (o.year_to, o.month_to, omega (arith, o.day_to, days), o.hour_to, o.minute_to, weekday m)

-- ---- the cycle of 400 years

-- 210,379,680 minutes later all is the same but the year, which is 400 more
pub cycle : (m : ℕ) → m + cycle_minutes ≤ last_minute
    → let d = date_at m in
    date_at (m + cycle_minutes)
    ≡ record { year = d.year + 400; month = d.month; day = d.day; hour = d.hour; minute = d.minute; weekday = d.weekday }
unfolding date_at year_of month_of
cycle m h =
    let f = year-falls (m / 1440) (omega arith) in
    let a : (m + cycle_minutes) / 1440 ≡ m / 1440 + 146097 = omega arith in
    let b : (m + cycle_minutes) % 1440 ≡ m % 1440 = omega arith in
    let c : (m + cycle_minutes) % 60 ≡ m % 60 = omega arith in
    rw (a, b, c, weekday-cycle (m / 1440), years-shift f (omega arith), months-shift (year_of (m / 1440)).at (year_of (m / 1440)).rest)
