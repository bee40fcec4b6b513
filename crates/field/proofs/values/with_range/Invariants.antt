-- `field::values::with_range` meets its contract: the set with the values that remain is always the whole set.
-- Assumes nothing.
use mathlib.Core.Path.{◌≡◌}
use Prim.Native.Nat.{◌+◌, ◌-◌, ◌^◌, ◌<◌}
use Rattle.field.specs.Values.{values_of, including}
use Rattle.field.proofs.values.with_range.Given as goal

abbrev pub invariant-loop-value : goal.invariant-loop-value
invariant-loop-value l = (including l.limits l.set (values_of l.value l.high l.step) ≡ including l.limits l.set-2 (values_of l.low l.high l.step)) × (l.value < 2 ^ 32)

abbrev pub decreases-loop-value : goal.decreases-loop-value
decreases-loop-value l = l.high + l.step - l.value
