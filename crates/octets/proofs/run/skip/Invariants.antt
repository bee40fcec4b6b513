-- `octets::run::skip` meets its contract: what it has passed doesn't change where the run ends.
-- Assumes nothing.
use mathlib.Core.Path.{◌≡◌}
use Prim.Native.Nat.{◌+◌, ◌-◌, ◌≤◌}
use lib.ListN.{length}
use Rattle.octets.specs.Runs.{skipped}
use Rattle.octets.proofs.run.skip.Given as goal

abbrev pub invariant-loop-at : goal.invariant-loop-at
invariant-loop-at l = (skipped l.class l.s l.at ≡ skipped l.class l.s l.from) × (l.from ≤ l.at) × (l.at ≤ l.from + (length l.s - l.from))

abbrev pub decreases-loop-at : goal.decreases-loop-at
decreases-loop-at l = length l.s - l.at
