-- `field::values::is_outside` meets its contract: it tests what the definition does.
-- Assumes nothing.
use mathlib.Core.Path.{refl}
use Rattle.field.specs.Judgement.{outside}
use Rattle.field.proofs.values.is_outside.Goals as goal

pub returns : goal.returns
unfolding outside
returns c = refl
