-- `reload::who_waits` meets its contract: after each place those before it that are there are kept, in their order, none twice.
-- Assumes nothing.
use Rattle.fifo.specs.Layout.{queue_of}
use Rattle.reload.proofs.Reloads.{Keeps}
use Rattle.reload.proofs.who_waits.Given as goal

abbrev pub invariant-loop-place : goal.invariant-loop-place
invariant-loop-place l = Keeps l.rules l.old l.new (queue_of l.room).waiting l.entries l.queued l.count l.place
