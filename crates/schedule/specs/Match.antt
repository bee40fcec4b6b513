-- Which dates and minutes a schedule matches (M1, M2).
-- Assumes nothing.
use Rattle.std.specs.Prelude.{ℕ, ◌*◌, ◌/◌, ◌%◌, Bool, cond, ◌&&◌, ◌||◌, leb}
use Rattle.calendar.specs.declared.Date.{Date}
use Rattle.calendar.specs.Dates.{last_minute, date_at}
use Rattle.schedule.specs.declared.Schedule.{Schedule}
use Rattle.octets.specs.Sets.{has_bit}

-- M2: one of the two day fields has its star flag
unfoldable pub both_must : Schedule → Bool
both_must s = s.stars.days || s.stars.weekdays

-- M2: both must match, or either may
unfoldable pub by_day_rule : Schedule → Bool → Bool → Bool
by_day_rule s day weekday = cond (both_must s) (day && weekday) (day || weekday)

-- M1, M2: the month, and the day
unfoldable pub matches_day : Schedule → ℕ → ℕ → ℕ → Bool
matches_day s month day weekday = has_bit s.months month && by_day_rule s (has_bit s.days day) (has_bit s.weekdays weekday)

-- M1: hour and minute
unfoldable pub matches_time : Schedule → ℕ → ℕ → Bool
matches_time s hour minute = has_bit s.hours hour && has_bit s.minutes minute

-- M1: a date
unfoldable pub matches_date : Schedule → Date → Bool
matches_date s d = matches_day s d.month d.day d.weekday && matches_time s d.hour d.minute

-- M1: a minute of the calendar, by its date
unfoldable pub matches : Schedule → ℕ → Bool
matches s m = matches_date s (date_at m)

-- M5: a minute off the calendar is never due
unfoldable pub is_due : Schedule → ℕ → Bool
is_due s m = leb m last_minute && matches s m

-- M1: the two parts of a minute by themselves: a day, counted from 1970-01-01 ..
unfoldable pub matches_on : Schedule → ℕ → Bool
matches_on s day = let d = date_at (day * 1440) in matches_day s d.month d.day d.weekday

-- M1: .. and a minute of the day
unfoldable pub matches_at : Schedule → ℕ → Bool
matches_at s t = matches_time s (t / 60) (t % 60)
