-- `field::format::write_values` meets its contract: the values up to one are written, and the others are left.
-- Assumes nothing.
use mathlib.Core.Path.{◌≡◌}
use mathlib.Core.Bool.{true}
use Prim.Native.Nat.{◌-◌, ◌≤◌, ◌<◌}
use lib.ListN.{length}
use Rattle.octets.specs.Sets.{has_bit}
use Rattle.field.proofs.Writing.{Listing}
use Rattle.field.proofs.format.write_values.Given as goal

abbrev pub invariant-loop-value : goal.invariant-loop-value
invariant-loop-value l = (Listing l.set l.bits l.initial.value l.start l.initial.out l.value l.first l.at l.out) × (l.value < l.bits → has_bit l.set l.value ≡ true) × (l.bits ≤ 64) × (length l.out ≡ length l.initial.out)

abbrev pub decreases-loop-value : goal.decreases-loop-value
decreases-loop-value l = l.bits - l.value
