-- `fifo::head::set_mark` meets its contract: the two halves of the mark's number are stored.
-- Assumes nothing.
use native.Mathlib.Omega.{arith}
use Rattle.fifo.proofs.Queues.{queue-known, laid-queue, mark-small}
use Rattle.fifo.proofs.Stores.{laid-mark}
use Rattle.fifo.proofs.head.set_mark.Goals as goal

pub mark_number-n-requires : goal.mark_number-n-requires
mark_number-n-requires c = c.requires.1

pub store-requires : goal.store-requires
store-requires c =
    omega (arith, (queue-known c.requires.0.0 c.args.buffer.now c.requires.0.1).size_is)

pub overflow_cast-n-2 : goal.overflow_cast-n-2
overflow_cast-n-2 c =
    omega (arith, c.mark_number-n.ensures, mark-small c.args.mark c.requires.1)

pub store-requires-2 : goal.store-requires-2
store-requires-2 c =
    omega (arith, c.store.auto.buffer, (queue-known c.requires.0.0 c.args.buffer.now c.requires.0.1).size_is)

pub returns : goal.returns
returns c =
    rw (c.store-2.ensures, c.store.ensures, c.mark_number-n.ensures)
    (laid-mark _ _ (laid-queue c.requires.0.0 c.args.buffer.now (λ i. omega (arith, c.slice_known-1.given i)) c.requires.0.1) c.args.mark)
