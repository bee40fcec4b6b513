-- `octets::class::is_control` meets its contract: it tests what the definition does.
-- Assumes nothing.
use mathlib.Core.Path.{refl}
use Rattle.octets.specs.Classes.{is_control}
use Rattle.octets.proofs.class.is_control.Goals as goal

pub returns : goal.returns
unfolding is_control
returns c = refl
