-- `test_calls::schedules::schedule_matches` meets its contract, by what the schedule promises.
-- Assumes nothing.
use Rattle.test_calls.specs.Schedules.{match_number}
use Rattle.test_calls.proofs.schedules.schedule_matches.Goals as goal

pub returns-then-matches : goal.returns-then-matches
unfolding match_number
returns-then-matches c = rw (← c.schedule_of-s.ensures, ← c.matches.ensures, c.if-matches.true)

pub returns-else-matches : goal.returns-else-matches
unfolding match_number
returns-else-matches c = rw (← c.schedule_of-s.ensures, ← c.matches.ensures, c.if-matches.false)
