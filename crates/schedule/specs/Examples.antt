-- Schedules, as the reader gives them, and what they match.
-- Assumes nothing.
use Rattle.std.specs.Prelude.{◌≡◌, refl, Bool, true, false, List, [], ◌∷◌, ℕ, map}
use Rattle.refusal.specs.Numbers.{number_of}
use Rattle.octets.specs.Rows.{Hold}
use Rattle.octets.specs.Sets.{set_of, up_to}
use Rattle.schedule.specs.declared.Stars.{Stars}
use Rattle.schedule.specs.declared.Schedule.{Schedule}
use Rattle.schedule.specs.Refusals.{never_fires, past_the_end}
use Rattle.schedule.specs.Match.{matches}
use Rattle.schedule.specs.Computing.{firing}

-- the values of the five fields in their order, and which of them begin with `*`
abbrev fields : List ℕ → List ℕ → List ℕ → List ℕ → List ℕ → Stars → Schedule
fields minutes hours days months weekdays stars =
    record {
      minutes = set_of minutes;
      hours = set_of hours;
      days = set_of days;
      months = set_of months;
      weekdays = set_of weekdays;
      stars = stars;
    }

-- minutes and hours, which these schedules have as numbers, don't
abbrev stars_at : Bool → Bool → Bool → Stars
stars_at days months weekdays = record { minutes = false; hours = false; days = days; months = months; weekdays = weekdays }

-- `0 0 29 2 *`
unfoldable pub leap_day : Schedule
leap_day = fields (0 ∷ []) (0 ∷ []) (29 ∷ []) (2 ∷ []) (up_to 0 6) (stars_at false false true)

-- `30 4 1,15 * 5`: the 1st, the 15th and each Friday
unfoldable pub fridays : Schedule
fridays = fields (30 ∷ []) (4 ∷ []) (1 ∷ 15 ∷ []) (up_to 1 12) (5 ∷ []) (stars_at false true false)

-- `0 0 30 2 *`
unfoldable pub february30 : Schedule
february30 = fields (0 ∷ []) (0 ∷ []) (30 ∷ []) (2 ∷ []) (up_to 0 6) (stars_at false false true)

-- `0 0 30 2 1`: the Mondays of February
unfoldable pub mondays30 : Schedule
mondays30 = fields (0 ∷ []) (0 ∷ []) (30 ∷ []) (2 ∷ []) (1 ∷ []) (stars_at false false false)

-- `0 0 31 12 *`
unfoldable pub last_day : Schedule
last_day = fields (0 ∷ []) (0 ∷ []) (31 ∷ []) (12 ∷ []) (up_to 0 6) (stars_at false false true)

-- `0 0 * * 1`: Mondays, and no other day
unfoldable pub mondays : Schedule
mondays = fields (0 ∷ []) (0 ∷ []) (up_to 1 31) (up_to 1 12) (1 ∷ []) (stars_at true true false)

-- `0 0 */2 * 1`: Mondays on odd days
unfoldable pub odd_mondays : Schedule
odd_mondays = fields (0 ∷ []) (0 ∷ []) (1 ∷ 3 ∷ 5 ∷ 7 ∷ 9 ∷ 11 ∷ 13 ∷ 15 ∷ 17 ∷ 19 ∷ 21 ∷ 23 ∷ 25 ∷ 27 ∷ 29 ∷ 31 ∷ []) (up_to 1 12) (1 ∷ []) (stars_at true true false)

-- `0 0 29 2 */7`: 29 February on a Sunday
unfoldable pub leap_sundays : Schedule
leap_sundays = fields (0 ∷ []) (0 ∷ []) (29 ∷ []) (2 ∷ []) (0 ∷ []) (stars_at false false true)

-- `0 18 * * *`
unfoldable pub evenings : Schedule
evenings = fields (0 ∷ []) (18 ∷ []) (up_to 1 31) (up_to 1 12) (up_to 0 6) (stars_at true true true)

-- `* * * * *`
unfoldable pub every_minute : Schedule
every_minute =
    fields (up_to 0 59) (up_to 0 23) (up_to 1 31) (up_to 1 12) (up_to 0 6)
    (record { minutes = true; hours = true; days = true; months = true; weekdays = true })

-- all of them, to be computed
unfoldable pub schedules : Unit {0}
unfolding firing leap_day fridays february30 mondays30 last_day mondays odd_mondays leap_sundays evenings every_minute
schedules = tt

-- `0 0 */2 * */3`
abbrev odd_thirds : Schedule
odd_thirds =
    fields (0 ∷ []) (0 ∷ []) (1 ∷ 3 ∷ 5 ∷ 7 ∷ 9 ∷ 11 ∷ 13 ∷ 15 ∷ 17 ∷ 19 ∷ 21 ∷ 23 ∷ 25 ∷ 27 ∷ 29 ∷ 31 ∷ []) (up_to 1 12) (0 ∷ 3 ∷ 6 ∷ [])
    (stars_at true true true)

-- `0 0 1-31 * 1` and `0 0 1 * 0-6`
abbrev numbered_days : Schedule
numbered_days = fields (0 ∷ []) (0 ∷ []) (up_to 1 31) (up_to 1 12) (1 ∷ []) (stars_at false true false)

abbrev numbered_weekdays : Schedule
numbered_weekdays = fields (0 ∷ []) (0 ∷ []) (1 ∷ []) (up_to 1 12) (up_to 0 6) (stars_at false true false)

-- `0 0 1 * *`, where the weekdays and the months begin with a star, and `0 0 * 2 1`, where the days do and the months don't
abbrev first_days : Schedule
first_days = fields (0 ∷ []) (0 ∷ []) (1 ∷ []) (up_to 1 12) (up_to 0 6) (stars_at false true true)

abbrev february_mondays : Schedule
february_mondays = fields (0 ∷ []) (0 ∷ []) (up_to 1 31) (2 ∷ []) (1 ∷ []) (stars_at true false false)

-- which minutes match
abbrev matched : Schedule × ℕ → Bool
matched (s, m) = matches s m

matching : Hold matched
    -- 1970-01-01 04:30 is the 1st and no Friday; 1970-01-02 04:30 a Friday; 1970-01-03 04:30 neither
    (((fridays, 270), true)
    ∷ ((fridays, 1710), true)
    ∷ ((fridays, 3150), false)
    -- 2096-02-29 00:00, and a day and a minute later
    ∷ ((leap_day, 66355200), true)
    ∷ ((leap_day, 66356640), false)
    ∷ ((leap_day, 66355201), false)
    -- 1970-01-01 is a Thursday, 1970-01-05 a Monday
    ∷ ((mondays, 0), false)
    ∷ ((mondays, 5760), true)
    -- 1970-01-05 is a Monday in January, 1970-02-02 one in February
    ∷ ((mondays30, 5760), false)
    ∷ ((mondays30, 46080), true)
    -- 1970-01-01 is an odd day and no Monday, 1970-01-05 an odd Monday, 1970-01-12 an even one
    ∷ ((odd_mondays, 0), false)
    ∷ ((odd_mondays, 5760), true)
    ∷ ((odd_mondays, 15840), false)
    -- 2088-02-29 is a Sunday, 2092-02-29 a Friday
    ∷ ((leap_sundays, 62147520), true)
    ∷ ((leap_sundays, 64251360), false)
    -- both day fields begin with a star: 1970-01-01 is odd and a Thursday, 1970-01-03 odd and a Saturday, 1970-01-04 even and a Sunday
    ∷ ((odd_thirds, 0), false)
    ∷ ((odd_thirds, 2880), true)
    ∷ ((odd_thirds, 4320), false)
    -- a day field that has every value and doesn't begin with a star: either may match, so that every day does
    ∷ ((numbered_days, 0), true)
    ∷ ((numbered_weekdays, 1440), true)
    -- one star among the day fields is enough, whether the months have one or not: 1970-01-01 and 1970-01-02; 1970-02-01, a Sunday, and 1970-02-02
    ∷ ((first_days, 0), true)
    ∷ ((first_days, 1440), false)
    ∷ ((february_mondays, 44640), false)
    ∷ ((february_mondays, 46080), true)
    ∷ [])
unfolding schedules
matching = refl

-- bits of no value match nothing: minute 60, hour 24, day 0, month 0 and 13, weekday 7; 1970-01-04 is a Sunday
abbrev stray_bits : List ℕ → List ℕ → List ℕ → List ℕ → List ℕ → Schedule
stray_bits minutes hours days months weekdays = fields minutes hours days months weekdays (stars_at true true true)

strays : Hold matched
    (((stray_bits (60 ∷ []) (0 ∷ []) (up_to 1 31) (up_to 1 12) (up_to 0 6), 4320), false)
    ∷ ((stray_bits (60 ∷ []) (0 ∷ []) (up_to 1 31) (up_to 1 12) (up_to 0 6), 4380), false)
    ∷ ((stray_bits (0 ∷ []) (24 ∷ []) (up_to 1 31) (up_to 1 12) (up_to 0 6), 4320), false)
    ∷ ((stray_bits (0 ∷ []) (0 ∷ []) (0 ∷ []) (up_to 1 12) (up_to 0 6), 4320), false)
    ∷ ((stray_bits (0 ∷ []) (0 ∷ []) (up_to 1 31) (0 ∷ 13 ∷ []) (up_to 0 6), 4320), false)
    ∷ ((stray_bits (0 ∷ []) (0 ∷ []) (up_to 1 31) (up_to 1 12) (7 ∷ []), 4320), false)
    ∷ ((stray_bits (0 ∷ []) (0 ∷ []) (up_to 1 31) (up_to 1 12) (up_to 0 6), 4320), true)
    ∷ [])
unfolding schedules
strays = refl

-- ---- the refusals of a next firing

refusals : map number_of (never_fires ∷ past_the_end ∷ []) ≡ 16 ∷ 17 ∷ []
unfolding number_of
refusals = refl
