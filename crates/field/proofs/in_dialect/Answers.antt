-- `field::in_dialect` meets its contract, case by case.
-- Assumes nothing.
use Rattle.field.specs.Limits.{in_dialect}
use Rattle.field.proofs.in_dialect.Goals as goal

pub returns-in-Rising : goal.returns-in-Rising
unfolding in_dialect
returns-in-Rising c = rw c.in-Rising.is

pub returns-in-Wrapping : goal.returns-in-Wrapping
unfolding in_dialect
returns-in-Wrapping c = rw (c.in-Wrapping.is, c.saturating_sub.ensures)
