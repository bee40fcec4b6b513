-- `fifo::queue::drop_front` meets its contract: the other entries move up, and the count is one less.
-- Assumes nothing.
use mathlib.Core.Path.{◌≡◌}
use Prim.Native.Nat.{◌+◌, ◌-◌, ◌*◌}
use native.Mathlib.Omega.{arith}
use Rattle.fifo.proofs.Numbers.{waiting-length}
use Rattle.fifo.proofs.Stores.{laid-drop}
use Rattle.fifo.proofs.queue.drop_front.Goals as goal

pub copy_within-requires-clause-in_bounds : goal.copy_within-requires-clause-in_bounds
copy_within-requires-clause-in_bounds c = omega (arith, waiting-length c.args.buffer.now, c.requires.1, c.requires.2)

pub copy_within-requires-clause-dest_in_bounds : goal.copy_within-requires-clause-dest_in_bounds
copy_within-requires-clause-dest_in_bounds c = omega (arith, waiting-length c.args.buffer.now, c.requires.1, c.requires.2)

pub overflow_sub-count : goal.overflow_sub-count
overflow_sub-count c = omega (arith, c.requires.2)

pub store-requires : goal.store-requires
store-requires c =
    omega (arith, waiting-length c.args.buffer.now, c.copy_within.ensures.len, c.requires.1, c.requires.2)

pub returns : goal.returns
returns c =
    let size : 2 * (5 + c.args.count) - 12 ≡ 2 * c.args.count - 2 = omega arith in
    rw (c.store.ensures, c.copy_within.ensures.after, size) (laid-drop _ _ _ c.requires.0 c.requires.1 c.requires.2)
