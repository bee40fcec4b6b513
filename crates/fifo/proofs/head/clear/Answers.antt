-- `fifo::head::clear` meets its contract: the five numbers of an empty queue are stored one after the other.
-- Assumes nothing.
use native.Mathlib.Omega.{arith}
use Rattle.fifo.proofs.Stores.{laid-clear}
use Rattle.fifo.proofs.head.clear.Goals as goal

pub store-requires : goal.store-requires
store-requires c = omega (arith, c.requires)

pub store-requires-2 : goal.store-requires-2
store-requires-2 c = omega (arith, c.store.auto.buffer, c.requires)

pub store-requires-3 : goal.store-requires-3
store-requires-3 c =
    omega (arith, c.store-2.auto.buffer, c.store.auto.buffer, c.requires)

pub store-requires-4 : goal.store-requires-4
store-requires-4 c =
    omega (arith, c.store-3.auto.buffer, c.store-2.auto.buffer, c.store.auto.buffer, c.requires)

pub store-requires-5 : goal.store-requires-5
store-requires-5 c =
    omega (arith, c.store-4.auto.buffer, c.store-3.auto.buffer, c.store-2.auto.buffer, c.store.auto.buffer, c.requires)

pub returns : goal.returns
returns c =
    rw (c.store-5.ensures, c.store-4.ensures, c.store-3.ensures, c.store-2.ensures, c.store.ensures)
    (laid-clear _ c.requires)
