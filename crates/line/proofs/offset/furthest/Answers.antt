-- `line::offset::furthest` meets its contract.
-- Assumes nothing.
use native.Mathlib.Omega.{arith}
use Rattle.line.specs.Offsets.{furthest}
use Rattle.line.proofs.offset.furthest.Goals as goal

pub returns-then-behind : goal.returns-then-behind
unfolding furthest
returns-then-behind c = (rw c.if-behind.true, omega arith)

pub returns : goal.returns
unfolding furthest
returns c = (rw c.if-behind.false, omega arith)
