-- Days as the search for a firing goes by them: a day within its month, and which days there can be at all. Only contracts of inner
-- functions cite these; what a reader must believe is in Match, Search and Next.
-- Assumes nothing.
use Rattle.std.specs.Prelude.{◌≡◌, ℕ, ◌+◌, ◌-◌, ◌*◌, ◌/◌, ◌%◌, ◌^◌, ◌≤◌, ◌<◌, Bool, false, cond, ◌&&◌, ◌||◌, ltb}
use Rattle.std.specs.Int.Bits.{bit_and, bit_or}
use Rattle.calendar.specs.Gregorian.{month_days}
use Rattle.calendar.specs.Dates.{weekday_of}
use Rattle.schedule.specs.declared.Schedule.{Schedule}
use Rattle.octets.specs.Sets.{has_bit}
use Rattle.schedule.specs.Match.{both_must, matches_day}
use Rattle.schedule.specs.Search.{from}

-- a day, counted from 1970-01-01, of a month whose first day is `first`
unfoldable pub matches_in_month : Schedule → ℕ → ℕ → ℕ → Bool
matches_in_month s month first day = matches_day s month (day - first + 1) (weekday_of day)

-- the weekdays' set week by week, six times: bit n has the weekday that comes n days after a Sunday
unfoldable pub weekly : ℕ → ℕ
weekly set = bit_and set 127 * 34630287489

-- the days of a month that begins on a weekday, whatever the month: bit n has day n
unfoldable pub month_set : Schedule → ℕ → ℕ
month_set s weekday =
    let by-weekday = weekly s.weekdays / 2 ^ weekday * 2 in
    cond (both_must s) (bit_and s.days by-weekday) (bit_or s.days by-weekday)

-- r is the next month after month number c that is in the set, or the calendar's end: no month between them is. Month c is month c % 12 + 1 of
-- the year c / 12.
pub record MonthAfter (s : Schedule) (c r : ℕ) : Type 0 where
  pub later : c < r
  pub within : r ≤ 120000
  pub none : (i : ℕ) → c < i → i < r → has_bit s.months (i % 12 + 1) ≡ false

-- a month of the set that has a day of the set, in a leap year as 2000
unfoldable pub has_date : Schedule → ℕ → Bool
has_date s month =
    let end = month_days 2000 month + 1 in
    has_bit s.months month && ltb (from (has_bit s.days) end 1) end

-- Every date falls on every weekday within the cycle, so a day matches at some time if there are a date and a weekday to
-- match, or one of the two where either may match and there is a month.
unfoldable pub some_day : Schedule → Bool
some_day s =
    let month = ltb (from (has_bit s.months) 13 1) 13 in
    let weekday = ltb (from (has_bit s.weekdays) 7 0) 7 in
    let date = ltb (from (has_date s) 13 1) 13 in
    cond (both_must s) (weekday && date) (month && (weekday || date))
