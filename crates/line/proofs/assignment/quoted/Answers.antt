-- `line::assignment::quoted` meets its contract.
-- Assumes nothing.
use borrow.Author.Tests.{lt-ltb, le-ltb}
use Rattle.line.specs.Assignments.{quoted_at}
use Rattle.line.proofs.assignment.quoted.Goals as goal

pub returns-then-end-s : goal.returns-then-end-s
unfolding quoted_at
returns-then-end-s c = rw (← c.skip-end.ensures.0, lt-ltb _ _ c.if-end-s.true)

pub returns : goal.returns
unfolding quoted_at
returns c = rw (← c.skip-end.ensures.0, le-ltb _ _ c.if-end-s.false)
