-- `fifo::queue::join` meets its contract: after the entries below i, those that are called and did not wait have joined (`Fills`).
-- Assumes nothing.
use Rattle.fifo.specs.Layout.{queue_of}
use Rattle.fifo.proofs.Filling.{joins_now, Fills}
use Rattle.fifo.proofs.queue.join.Given as goal

abbrev pub invariant-loop-i : goal.invariant-loop-i
invariant-loop-i l = Fills (queue_of l.initial.buffer) l.initial.buffer (joins_now l.n l.initial.buffer l.called) l.n l.i l.buffer l.count
