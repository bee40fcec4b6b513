-- `firings::merge::fill` meets its contract. The loop's invariant: the root of the tree is the next firing of all, and the firings from it
-- on lie ahead.
-- Assumes nothing.
use mathlib.Core.List.{List}
use Prim.Native.Nat.{ℕ, ◌+◌, ◌-◌, ◌*◌}
use Rattle.crontab.specs.declared.entry.Entry.{Entry}
use Rattle.octets.specs.Passing.{passing_up_to}
use Rattle.firings.specs.Lists.{fires_in}
use Rattle.firings.specs.Keys.{is_firing, end_key, root, Tournament}
use Rattle.firings.proofs.Merging.{Merging}
use Rattle.firings.proofs.merge.fill.Given as goal

-- the keys of firings from one on and up to minute b
abbrev pub keys_from : List Entry → ℕ → ℕ → ℕ → List ℕ
keys_from entries count b key = passing_up_to (is_firing (fires_in entries) count) (b * 512 + 511) key

abbrev pub invariant-loop-tree : goal.invariant-loop-tree
invariant-loop-tree l = Merging l.room (keys_from l.table.entries l.table.count l.b ((l.a + 1) * 512)) l.initial.minutes l.initial.numbers l.n l.minutes l.numbers
    (keys_from l.table.entries l.table.count l.b (root l.tree))
    × Tournament (is_firing (fires_in l.table.entries) l.table.count) l.table.count (root l.tree) l.tree

abbrev pub decreases-loop-tree : goal.decreases-loop-tree
decreases-loop-tree l = end_key + 1 - root l.tree
