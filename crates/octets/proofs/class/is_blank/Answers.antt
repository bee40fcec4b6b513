-- `octets::class::is_blank` meets its contract.
-- Assumes nothing.
use mathlib.Core.Path.{refl}
use Rattle.octets.specs.Classes.{is_blank}
use Rattle.octets.proofs.class.is_blank.Goals as goal

pub returns : goal.returns
unfolding is_blank
returns c = refl
