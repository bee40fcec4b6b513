-- `fifo::queue::store` meets its contract.
-- Assumes nothing.
use native.Mathlib.Omega.{arith}
use lib.ListN.{length-set}
use Rattle.fifo.specs.Inner.{with_number}
use Rattle.fifo.proofs.queue.store.Goals as goal

pub bounds-buffer-at-2 : goal.bounds-buffer-at-2
bounds-buffer-at-2 c = simp length-set (omega arith)

pub returns : goal.returns
unfolding with_number
returns c = rw c.to_le_bytes.ensures
