-- Matching and next firing under an offset from UTC (O4, O5, M3, N1). In definitions an offset is the number `biased_offset` of it, `max_west` more, so
-- that none is below zero.
-- Assumes nothing.
use Rattle.std.specs.Prelude.{ℕ, ◌+◌, ◌-◌, ◌≤◌, ◌<◌, Bool, false, cond, leb, ltb, ℤ, pos, negsuc, Result, Ok, Err, Option, Some, None}
use Rattle.refusal.specs.declared.Refusal.{Refusal}
use Rattle.calendar.specs.Dates.{last_minute, date_at}
use Rattle.schedule.specs.declared.Schedule.{Schedule}
use Rattle.schedule.specs.declared.local.LocalMinute.{LocalMinute}
use Rattle.schedule.specs.declared.local.LocalMinute.TheVariants.{Before, At, After}
use Rattle.schedule.specs.Match.{matches_date, matches}
use Rattle.schedule.specs.Search.{from}
use Rattle.schedule.specs.Next.{can_fire}
use Rattle.schedule.specs.Gap.{gap}
use Rattle.schedule.specs.Refusals.{never_fires, past_the_end}
use Rattle.calendar.specs.declared.Date.{Date}

-- O3: how far local time may be behind UTC
abbrev pub max_west : ℕ
max_west = 720

-- O3: and ahead of it
abbrev pub max_east : ℕ
max_east = 840

-- O3: -720 to 840
abbrev pub OffsetInRange : ℤ → Type 0
OffsetInRange (pos n) = n ≤ max_east
OffsetInRange (negsuc n) = n < max_west

-- O3: an offset as a number from 0 to 1,560; 720 is UTC
abbrev pub biased_offset : ℤ → ℕ
biased_offset (pos n) = max_west + n
biased_offset (negsuc n) = max_west - 1 - n

-- O4: the local minute of a minute, or on which side it is off the calendar
unfoldable pub local_of : ℕ → ℕ → LocalMinute
local_of o m = cond (ltb (m + o) max_west) Before (cond (leb (m + o) (last_minute + max_west)) (At (m + o - max_west)) After)

-- O5: nothing matches off the calendar
abbrev pub matches_minute : Schedule → LocalMinute → Bool
matches_minute s (At l) = matches s l
matches_minute s Before = false
matches_minute s After = false

-- M3, O5: whether an entry's schedule, under its offset, matches a minute
unfoldable pub matches_in : Schedule → ℕ → ℕ → Bool
matches_in s o m = matches_minute s (local_of o m)

-- N1, N3: the least matching minute of the calendar from m on
unfoldable pub firing_from_in : Schedule → ℕ → ℕ → Result ℕ Refusal
firing_from_in s o m = let n = from (matches_in s o) (last_minute + 1) m in cond (leb n last_minute) (Ok n) (Err past_the_end)

-- N1, N3: the least matching minute of the calendar after m
unfoldable pub firing_after_in : Schedule → ℕ → ℕ → Result ℕ Refusal
firing_after_in s o m = firing_from_in s o (m + 1)

-- N1, N2, N3: the next firing after m, for any number m. Whether it can fire at all doesn't depend on the offset.
unfoldable pub next_after_in : Schedule → ℕ → ℕ → Result ℕ Refusal
next_after_in s o m = cond (can_fire s) (firing_after_in s o m) (Err never_fires)

-- D4: the gap, and 720 more if t is before 1970 locally
abbrev pub gap_in : ℕ → ℕ → ℕ
gap_in o t = gap + cond (ltb (t + o) max_west) max_west 0

-- ---- the same by dates, one for all entries under an offset

-- O5: the date of a local minute, if it is on the calendar
abbrev pub date_in : LocalMinute → Option Date
date_in (At l) = Some (date_at l)
date_in Before = None
date_in After = None

-- O4: the local date of a minute, if it is on the calendar
unfoldable pub local_date : ℕ → ℕ → Option Date
local_date o m = date_in (local_of o m)

-- M3, O5: whether a schedule matches a local date
unfoldable pub matches_local : Schedule → Option Date → Bool
matches_local s (Some d) = matches_date s d
matches_local s None = false
