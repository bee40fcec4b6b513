-- The next firing of a schedule in UTC (N1, N2, N3). Under an offset it is in Local.
-- Assumes nothing.
use Rattle.std.specs.Prelude.{ℕ, ◌+◌, Bool, false, cond, leb, ltb, Result, Ok, Err}
use Rattle.refusal.specs.declared.Refusal.{Refusal}
use Rattle.calendar.specs.Dates.{last_minute, cycle_minutes}
use Rattle.schedule.specs.declared.Schedule.{Schedule}
use Rattle.schedule.specs.Match.{matches}
use Rattle.schedule.specs.Refusals.{never_fires, past_the_end}
use Rattle.schedule.specs.Search.{from}

-- N2: some minute of the cycle matches
unfoldable pub can_fire : Schedule → Bool
can_fire s = ltb (from (matches s) cycle_minutes 0) cycle_minutes

-- N1, N3: the least matching minute of the calendar after m
unfoldable pub firing_after : Schedule → ℕ → Result ℕ Refusal
firing_after s m = let n = from (matches s) (last_minute + 1) (m + 1) in cond (leb n last_minute) (Ok n) (Err past_the_end)

-- N1, N2, N3: the next firing after m, for any number m
unfoldable pub next_after : Schedule → ℕ → Result ℕ Refusal
next_after s m = cond (can_fire s) (firing_after s m) (Err never_fires)

-- N1, Q5: whether the firing comes by a minute
abbrev pub by_then : Result ℕ Refusal → ℕ → Bool
by_then (Ok n) m = leb n m
by_then (Err refusal) m = false
