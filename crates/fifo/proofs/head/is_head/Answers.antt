-- `fifo::head::is_head` meets its contract.
-- Assumes nothing.
use Rattle.fifo.specs.Layout.{format_of, is_head}
use Rattle.fifo.proofs.head.is_head.Goals as goal

pub returns : goal.returns
unfolding is_head format_of
returns c = rw (← c.number32.ensures, c.is_mark.ensures, c.mark_of.ensures)
