-- `line::assignment::zoned` meets its contract.
-- Assumes nothing.
use mathlib.Core.Path.{◌∙◌}
use Rattle.octets.specs.Runs.{between}
use Rattle.line.specs.Assignments.{zoned}
use Rattle.line.proofs.assignment.zoned.Goals as goal

pub returns-then-is_zone : goal.returns-then-is_zone
unfolding zoned between
returns-then-is_zone c = c.with_offset.ensures ∙ rw (← c.is_zone.ensures, c.if-is_zone.true)

pub returns : goal.returns
unfolding zoned between
returns c = rw (← c.is_zone.ensures, c.if-is_zone.false)
