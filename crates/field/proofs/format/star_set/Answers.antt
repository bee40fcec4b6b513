-- `field::format::star_set` meets its contract.
-- Assumes nothing.
use Rattle.field.specs.Written.{star_set}
use Rattle.field.proofs.format.star_set.Goals as goal

pub returns-then-n-eq1 : goal.returns-then-n-eq1
unfolding star_set
returns-then-n-eq1 c = rw c.if-n-eq1.true c.with_values.ensures

pub returns : goal.returns
returns c = c.stepped.ensures
