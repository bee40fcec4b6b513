-- `line::assignment::closed` meets its contract.
-- Assumes nothing.
use borrow.Author.Tests.{le-leb, lt-leb}
use Rattle.line.specs.Assignments.{closed}
use Rattle.line.proofs.assignment.closed.Goals as goal

pub returns-then-s-skip : goal.returns-then-s-skip
unfolding closed
returns-then-s-skip c = rw (← c.skip.ensures.0, le-leb _ _ c.if-s-skip.true)

pub returns : goal.returns
unfolding closed
returns c = rw (← c.skip.ensures.0, lt-leb _ _ c.if-s-skip.false)
