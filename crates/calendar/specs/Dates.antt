-- The date of a minute (G6), and the minute of a date (G8). The calendar goes from 1970-01-01 00:00, minute 0, to 9999-12-31 23:59 (G5).
-- Assumes nothing.
use Rattle.std.specs.Prelude.{ℕ, ◌+◌, ◌-◌, ◌*◌, ◌/◌, ◌%◌, Bool, cond, ◌&&◌, leb, ltb, Result, Ok, Err}
use Rattle.refusal.specs.declared.Refusal.{Refusal}
use Rattle.calendar.specs.declared.walk.Place.{Place}
use Rattle.calendar.specs.declared.Date.{Date}
use Rattle.calendar.specs.Refusals.{not_on_calendar}
use Rattle.calendar.specs.Gregorian.{year_days, month_days}
use Rattle.calendar.specs.Walk.{span, walk}

-- G8: the first year of the calendar
abbrev pub first_year : ℕ
first_year = 1970

-- G8: the last year of the calendar
abbrev pub last_year : ℕ
last_year = 9999

-- G5: 9999-12-31 23:59
abbrev pub last_minute : ℕ
last_minute = 4223371679

-- G5: the days of the calendar
abbrev pub calendar_days : ℕ
calendar_days = 2932897

-- G9: 146,097 days
abbrev pub cycle_minutes : ℕ
cycle_minutes = 210379680

-- ---- from a minute to its date

-- G4: the weekday of a day, counted from 1970-01-01, a Thursday
unfoldable pub weekday_of : ℕ → ℕ
weekday_of day = (day + 4) % 7

-- G6: the year of a day, and the day of that year, found year by year from 1970 on
unfoldable pub year_of : ℕ → Place
year_of day = walk year_days first_year (last_year - first_year + 1) day

-- G6: the month of a day of a year, and the day of that month, found month by month
unfoldable pub month_of : ℕ → ℕ → Place
month_of year day = walk (month_days year) 1 12 day

-- G1, G6: the date of a minute of the calendar
unfoldable pub date_at : ℕ → Date
date_at m =
    let y = year_of (m / 1440) in
    let d = month_of y.at y.rest in
    record { year = y.at; month = d.at; day = d.rest + 1; hour = m % 1440 / 60; minute = m % 60; weekday = weekday_of (m / 1440) }

-- G5, R14: the date of any number as a minute
unfoldable pub date_of : ℕ → Result Date Refusal
date_of m = cond (leb m last_minute) (Ok (date_at m)) (Err not_on_calendar)

-- ---- from a date to its minute

-- G7: whether a date exists, in any year. A number that is no month has no days, so no date either.
unfoldable pub exists : ℕ → ℕ → ℕ → ℕ → ℕ → Bool
exists year month day hour minute = leb 1 day && leb day (month_days year month) && ltb hour 24 && ltb minute 60

-- G8: the days from 1970-01-01 to a date
unfoldable pub days_before : ℕ → ℕ → ℕ → ℕ
days_before year month day = span year_days first_year (year - first_year) + span (month_days year) 1 (month - 1) + (day - 1)

-- The first day of month number c, which is month c % 12 + 1 of the year c / 12; if it isn't on the calendar, the day after the last. Only
-- contracts of inner functions cite it.
unfoldable pub month_start : ℕ → ℕ
month_start c = cond (leb first_year (c / 12) && leb (c / 12) last_year) (days_before (c / 12) (c % 12 + 1) 1) calendar_days

-- G1, G8: the minute of a date that has one
unfoldable pub minute_at : ℕ → ℕ → ℕ → ℕ → ℕ → ℕ
minute_at year month day hour minute = days_before year month day * 1440 + hour * 60 + minute

-- G8, R14: the minute of any numbers as a date
unfoldable pub minute_of : ℕ → ℕ → ℕ → ℕ → ℕ → Result ℕ Refusal
minute_of year month day hour minute =
    cond (exists year month day hour minute && leb first_year year && leb year last_year)
    (Ok (minute_at year month day hour minute))
    (Err not_on_calendar)
