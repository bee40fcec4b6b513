-- `fifo::queue::gather_entries` meets its contract. The loop's invariant: the numbers passed are entries, none twice, and they are marked.
-- Assumes nothing.
use mathlib.Core.Path.{◌≡◌}
use mathlib.Core.Bool.{true}
use lib.ListN.{length, take}
use Rattle.fifo.specs.Queues.{entries_of}
use Rattle.fifo.specs.Layout.{queue_of}
use Rattle.fifo.specs.Inner.{WaitingBits}
use Rattle.fifo.proofs.queue.gather_entries.Given as goal

abbrev pub invariant-loop-i : goal.invariant-loop-i
invariant-loop-i l = (entries_of l.n (take l.i (queue_of l.buffer).waiting) ≡ true) × WaitingBits l.seen (take l.i (queue_of l.buffer).waiting) × (length l.seen ≡ 1024)
