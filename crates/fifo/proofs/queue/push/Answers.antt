-- `fifo::queue::push` meets its contract.
-- Assumes nothing.
use mathlib.Core.Path.{◌≡◌}
use native.Mathlib.Omega.{arith}
use lib.ListN.{length}
use Rattle.fifo.specs.Layout.{count_of, queue_of}
use Rattle.fifo.proofs.Numbers.{waiting-length}
use Rattle.fifo.proofs.Stores.{laid-push}
use Rattle.fifo.proofs.queue.push.Goals as goal
use Rattle.fifo.proofs.queue.push.Goals.{After-number-n}

-- the number that was read is how many wait
counted : (c : After-number-n) → c.number-n.result ≡ length (queue_of c.args.buffer.now).waiting
unfolding count_of
counted c =
    let n : c.number-n.result ≡ count_of c.args.buffer.now = c.number-n.ensures in
    omega (arith, n, waiting-length c.args.buffer.now, c.requires.1)

pub overflow_add-n : goal.overflow_add-n
overflow_add-n c = omega (arith, counted (goal.at.overflow_add-n c).After-number-n, c.requires.2)

pub store-requires : goal.store-requires
store-requires c = omega (arith, counted (goal.at.store-requires c).After-number-n, c.requires.1)

pub overflow_add-n-2 : goal.overflow_add-n-2
overflow_add-n-2 c =
    omega (arith, counted (goal.at.overflow_add-n-2 c).After-number-n, c.requires.2)

pub store-requires-2 : goal.store-requires-2
store-requires-2 c =
    omega (arith, c.store.auto.buffer, c.requires.1)

pub returns : goal.returns
returns c =
    rw (c.store-2.ensures, c.store.ensures, counted (goal.at.returns c).After-number-n) (laid-push _ _ c.requires.0 _ c.requires.1)
