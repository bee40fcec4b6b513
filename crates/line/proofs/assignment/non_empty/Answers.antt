-- `line::assignment::non_empty` meets its contract.
-- Assumes nothing.
use borrow.Author.Tests.{lt-ltb, le-ltb}
use Rattle.line.specs.Assignments.{non_empty}
use Rattle.line.proofs.assignment.non_empty.Goals as goal

pub returns-then-text : goal.returns-then-text
unfolding non_empty
returns-then-text c = rw (lt-ltb _ _ c.if-text.true)

pub returns : goal.returns
unfolding non_empty
returns c = rw (le-ltb _ _ c.if-text.false)
