-- N5: the next firing by a plain clock walk, which asks of every minute whether it matches. That it is the next firing of Local, for every
-- schedule, offset and minute, is `slow-agrees` of proofs/Theorems.
-- Assumes nothing.
use Rattle.std.specs.Prelude.{ℕ, zero, suc, ◌+◌, ◌-◌, cond, Result, Ok, Err}
use Rattle.refusal.specs.declared.Refusal.{Refusal}
use Rattle.schedule.specs.Local.{max_west}
use Rattle.calendar.specs.Dates.{last_minute, cycle_minutes}
use Rattle.schedule.specs.declared.Schedule.{Schedule}
use Rattle.schedule.specs.Local.{matches_in}
use Rattle.schedule.specs.Refusals.{never_fires, past_the_end}

-- N5: n minutes from m on, one by one, up to the first that matches under the offset
unfoldable pub clock : Schedule → ℕ → ℕ → ℕ → Result ℕ Refusal
clock s o zero m = Err past_the_end
clock s o (suc n) m = let later = clock s o n (m + 1) in cond (matches_in s o m) (Ok m) later

-- N2, N5: the answer, by what a walk over the whole cycle found
unfoldable pub if_found : Result ℕ Refusal → Result ℕ Refusal → Result ℕ Refusal
if_found (Ok m) later = later
if_found (Err refusal) later = Err never_fires

-- N2, N3, N5: never, if no minute of the cycle matches in UTC; else what the minutes after m up to the calendar's end have
unfoldable pub clock_after_in : Schedule → ℕ → ℕ → Result ℕ Refusal
clock_after_in s o m = if_found (clock s max_west cycle_minutes 0) (clock s o (last_minute - m) (m + 1))
