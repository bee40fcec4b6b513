-- `fifo::is_queue` meets its contract: the set is empty at first.
-- Assumes nothing.
use mathlib.Core.Path.{refl}
use Rattle.fifo.proofs.WaitingBits.{gathered_none}
use Rattle.fifo.proofs.is_queue.Goals as goal

pub gather-requires : goal.gather-requires
gather-requires c = (gathered_none 1024, refl)

pub returns : goal.returns
returns c = c.gather.ensures.answer
