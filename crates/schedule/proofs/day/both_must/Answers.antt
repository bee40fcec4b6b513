-- `schedule::day::both_must` meets its contract.
-- Assumes nothing.
use mathlib.Core.Path.{refl}
use Rattle.schedule.specs.Match.{both_must}
use Rattle.schedule.proofs.day.both_must.Goals as goal

pub returns : goal.returns
unfolding both_must
returns c = refl
