-- `crontab::setting::part_of` meets its contract.
-- Assumes nothing.
use mathlib.Core.Path.{refl}
use Rattle.octets.specs.Runs.{between}
use Rattle.crontab.proofs.setting.part_of.Goals as goal

pub returns : goal.returns
unfolding between
returns c = refl
