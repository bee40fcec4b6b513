-- `records::decompile::record_fault` meets its contract: what is left from a record on has the same fault.
-- Assumes nothing.
use mathlib.Core.Path.{◌≡◌}
use Prim.Native.Nat.{◌+◌, ◌-◌, ◌≤◌}
use lib.ListN.{length}
use Rattle.records.specs.Readings.{decoded_fault}
use Rattle.records.specs.Calls.{record_fault}
use Rattle.records.proofs.Decompiling.{decoded_at}
use Rattle.records.proofs.decompile.record_fault.Given as goal

abbrev pub invariant-loop-at : goal.invariant-loop-at
invariant-loop-at l = (decoded_fault (decoded_at l.s l.number l.at) ≡ record_fault l.s) × (l.number ≤ l.at + 1) × (l.at ≤ length l.s)

abbrev pub decreases-loop-at : goal.decreases-loop-at
decreases-loop-at l = length l.s - l.at
