-- `fifo::refill` meets its contract: after i turns the first i entries of the list wait.
-- Assumes nothing.
use mathlib.Core.Path.{◌≡◌}
use lib.ListN.{length}
use Rattle.fifo.specs.Layout.{queue_of}
use Rattle.fifo.proofs.Peek.{partly}
use Rattle.fifo.proofs.refill.Given as goal

abbrev pub invariant-loop-e : goal.invariant-loop-e
invariant-loop-e l = (l.buffer ≡ partly (queue_of l.initial.buffer).mark l.entries l.initial.buffer l.e-index) × (length l.buffer ≡ length l.initial.buffer)
