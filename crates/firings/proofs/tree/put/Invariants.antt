-- `firings::tree::put` meets its contract: only the parent of the node that was set last may be wrong.
-- Assumes nothing.
use mathlib.Core.Path.{◌≡◌}
use lib.ListN.{get_or}
use Rattle.firings.proofs.Trees.{Updating}
use Rattle.firings.proofs.tree.put.Given as goal

abbrev pub invariant-loop-at : goal.invariant-loop-at
invariant-loop-at l = Updating l.initial.tree l.tree l.at × (l.low ≡ get_or l.tree l.at 0)

abbrev pub decreases-loop-at : goal.decreases-loop-at
decreases-loop-at l = l.at
