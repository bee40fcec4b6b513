-- Local minutes at the ends of the calendar, at -12:00, in UTC and at +14:00, and what is due there.
-- Assumes nothing.
use Rattle.std.specs.Prelude.{refl, Bool, true, false, List, [], ◌∷◌, ℕ, ℤ, pos, negsuc}
use Rattle.octets.specs.Rows.{Hold}
use Rattle.schedule.specs.declared.Schedule.{Schedule}
use Rattle.schedule.specs.declared.local.LocalMinute.{LocalMinute}
use Rattle.schedule.specs.declared.local.LocalMinute.TheVariants.{Before, At, After}
use Rattle.schedule.specs.Local.{biased_offset, local_of, matches_in, gap_in, local_date, matches_local}
use Rattle.schedule.specs.Examples.{mondays, every_minute, schedules}

-- -12:00, a minute behind UTC, UTC, and +14:00; `negsuc n` is -(n + 1)
offsets : Hold biased_offset ((negsuc 719, 0) ∷ (negsuc 0, 719) ∷ (pos 0, 720) ∷ (pos 840, 1560) ∷ [])
offsets = refl

-- an offset and a UTC minute
abbrev place : ℤ × ℕ → LocalMinute
place (z, m) = local_of (biased_offset z) m

places : Hold place
    (((negsuc 719, 0), Before)
    ∷ ((negsuc 719, 719), Before)
    ∷ ((negsuc 719, 720), At 0)
    ∷ ((negsuc 719, 4223371679), At 4223370959)
    ∷ ((pos 0, 0), At 0)
    ∷ ((pos 0, 4223371679), At 4223371679)
    ∷ ((pos 840, 0), At 840)
    ∷ ((pos 840, 4223370839), At 4223371679)
    ∷ ((pos 840, 4223370840), After)
    ∷ ((pos 840, 4223371679), After)
    -- -03:30 and +05:45
    ∷ ((negsuc 209, 209), Before)
    ∷ ((negsuc 209, 210), At 0)
    ∷ ((pos 345, 4223371334), At 4223371679)
    ∷ ((pos 345, 4223371335), After)
    ∷ [])
unfolding schedules
places = refl

-- "where t falls before 1970 locally, 720 minutes are added": 21,036,960 and 720, up to the last such minute
abbrev gap_from : ℤ × ℕ → ℕ
gap_from (z, t) = gap_in (biased_offset z) t

gaps : Hold gap_from
    (((negsuc 719, 719), 21037680)
    ∷ ((negsuc 719, 720), 21036960)
    ∷ ((negsuc 209, 209), 21037680)
    ∷ ((negsuc 209, 210), 21036960)
    ∷ ((pos 0, 0), 21036960)
    ∷ [])
gaps = refl

-- an entry is due by its local minute, and not while that is off the calendar
abbrev due : Schedule × ℤ × ℕ → Bool
due (s, z, m) = matches_in s (biased_offset z) m

-- and the same by the local date
abbrev due_by_date : Schedule × ℤ × ℕ → Bool
due_by_date (s, z, m) = matches_local s (local_date (biased_offset z) m)

abbrev rows : List ((Schedule × ℤ × ℕ) × Bool)
rows =
    ((every_minute, negsuc 719, 719), false)
    ∷ ((every_minute, negsuc 719, 720), true)
    ∷ ((every_minute, pos 840, 0), true)
    ∷ ((every_minute, pos 840, 4223370839), true)
    ∷ ((every_minute, pos 840, 4223370840), false)
    -- Monday, 1970-01-05 00:00, which is minute 5760 in UTC, comes 840 minutes sooner at +14:00 and 720 later at -12:00
    ∷ ((mondays, pos 840, 4920), true)
    ∷ ((mondays, pos 840, 5760), false)
    ∷ ((mondays, pos 0, 5760), true)
    ∷ ((mondays, negsuc 719, 5760), false)
    ∷ ((mondays, negsuc 719, 6480), true)
    ∷ ((mondays, pos 345, 5415), true)
    ∷ ((mondays, negsuc 209, 5970), true)
    ∷ []

matching : Hold due rows
unfolding schedules
matching = refl

by-date : Hold due_by_date rows
unfolding schedules
by-date = refl
