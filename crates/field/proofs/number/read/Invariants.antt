-- `field::number::read` meets its contract: after each digit it is on its way through the number (`Reading`).
-- Assumes nothing.
use Rattle.field.proofs.Numbers.{Reading}
use Rattle.field.proofs.number.read.Given as goal

abbrev pub invariant-loop-b : goal.invariant-loop-b
invariant-loop-b l = Reading l.s l.value l.b-index
