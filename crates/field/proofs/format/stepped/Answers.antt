-- `field::format::stepped` meets its contract.
-- Assumes nothing.
use Rattle.field.specs.Written.{star_set}
use Rattle.field.proofs.format.stepped.Goals as goal

pub returns : goal.returns
unfolding star_set
returns c = c.with_values.ensures
