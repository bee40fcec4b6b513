-- `firings::tree::build` meets its contract: i entries wait, and the others don't yet.
-- Assumes nothing.
use Prim.Native.Nat.{◌+◌, ◌*◌}
use Rattle.firings.specs.Lists.{fires_in}
use Rattle.firings.specs.Keys.{is_firing, Tournament}
use Rattle.firings.proofs.tree.build.Given as goal

abbrev pub invariant-loop-i : goal.invariant-loop-i
invariant-loop-i l = Tournament (is_firing (fires_in l.table.entries) l.table.count) l.i ((l.minute + 1) * 512) l.tree
