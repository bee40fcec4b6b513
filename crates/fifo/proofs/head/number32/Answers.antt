-- `fifo::head::number32` meets its contract.
-- Assumes nothing.
use Rattle.fifo.specs.Layout.{number32}
use Rattle.fifo.proofs.head.number32.Goals as goal

pub returns : goal.returns
unfolding number32
returns c = rw (c.number.ensures, c.number-2.ensures)
