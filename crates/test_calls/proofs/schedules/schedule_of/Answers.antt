-- `test_calls::schedules::schedule_of` meets its contract: it is the definition.
-- Assumes nothing.
use mathlib.Core.Path.{refl}
use Rattle.test_calls.specs.Schedules.{schedule_of}
use Rattle.test_calls.proofs.schedules.schedule_of.Goals as goal

pub returns : goal.returns
unfolding schedule_of
returns c = refl
