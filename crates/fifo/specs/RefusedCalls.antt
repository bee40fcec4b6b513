-- With which refusals the calls of a list from the fresh queue can be refused (D6). That the claim holds is proved in proofs/Theorems.
-- Assumes nothing.
use Rattle.std.specs.Prelude.{◌≡◌, ℕ, ◌<◌, cond, List, [], ◌∷◌, leb}
use Rattle.refusal.specs.Numbers.{number_of}
use Rattle.calendar.specs.Dates.{last_minute}
use Rattle.calendar.specs.Refusals.{not_on_calendar}
use Rattle.fifo.specs.Layout.{limit, roomy}
use Rattle.fifo.specs.Refusals.{not_a_queue}
use Rattle.fifo.specs.Steps.{Jobs, fresh}
use Rattle.fifo.specs.Fairness.{Call, tick, pop, refusal, Follows}

-- D6: the number of the refusal by the buffer's length and the minute, 0 for none
unfoldable pub expected : Jobs → Call → ℕ
expected jobs (tick minute room) = cond (roomy jobs.count room) (cond (leb minute last_minute) 0 (number_of not_on_calendar)) (number_of not_a_queue)
expected jobs (pop room) = cond (roomy jobs.count room) 0 (number_of not_a_queue)

-- D6: each call of a list is refused just so
abbrev pub Expected : Jobs → List Call → Type 0
Expected jobs [] = Unit {0}
Expected jobs (c ∷ cs) = (refusal jobs c ≡ expected jobs c) × Expected jobs cs

-- D6: the claim
abbrev pub RefusedOnly : Type 0
RefusedOnly = (jobs : Jobs) (cs : List Call) → jobs.count < limit → Follows jobs (fresh jobs) cs → Expected jobs cs
