-- `reload::peers::read` meets its contract: the entries that mean the same are marked.
-- Assumes nothing.
use Prim.Native.Nat.{◌+◌, ◌-◌}
use lib.ListN.{length}
use Rattle.crontab.proofs.Selections.{Selecting}
use Rattle.reload.specs.EntryMeanings.{means_as}
use Rattle.reload.proofs.peers.read.Given as goal

abbrev pub invariant-loop-step : goal.invariant-loop-step
invariant-loop-step l = Selecting (means_as l.rules l.t l.entry l.s) l.rules l.s l.c l.members

abbrev pub decreases-loop-step : goal.decreases-loop-step
decreases-loop-step l = length l.s + 1 - l.c.at
