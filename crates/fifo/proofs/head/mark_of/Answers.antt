-- `fifo::head::mark_of` meets its contract.
-- Assumes nothing.
use Rattle.fifo.specs.Layout.{mark_of}
use Rattle.fifo.proofs.Queues.{mark-read}
use Rattle.fifo.proofs.head.mark_of.Goals as goal

pub returns-then-n-eq0 : goal.returns-then-n-eq0
unfolding mark_of
returns-then-n-eq0 c = rw (← c.number32-n.ensures, c.if-n-eq0.true)

pub returns : goal.returns
unfolding mark_of
returns c = rw (← c.number32-n.ensures) (mark-read _ c.if-n-eq0.false)
