-- `field::list::read` meets its contract: what is left of the list, with the answer so far, always gives the same (`reading`).
-- Assumes nothing.
use mathlib.Core.Path.{◌≡◌}
use Prim.Native.Nat.{◌-◌, ◌≤◌}
use lib.ListN.{length}
use Rattle.field.specs.Fields.{list_field}
use Rattle.field.proofs.Lists.{reading}
use Rattle.field.proofs.list.read.Given as goal

abbrev pub invariant-loop-element : goal.invariant-loop-element
invariant-loop-element l = (reading l.limits l.column l.s l.at l.answer ≡ list_field l.limits l.column l.s) × (l.at ≤ length l.s)

abbrev pub decreases-loop-element : goal.decreases-loop-element
decreases-loop-element l = length l.s - l.at
