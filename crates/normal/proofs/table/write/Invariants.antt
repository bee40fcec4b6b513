-- `normal::table::write` meets its contract: the lines up to a cursor are written, and those from there on are left.
-- Assumes nothing.
use mathlib.Core.Path.{◌≡◌}
use Prim.Native.Nat.{◌+◌, ◌-◌}
use lib.ListN.{length}
use Rattle.normal.specs.Meanings.{meaning_of}
use Rattle.normal.proofs.Walks.{Going}
use Rattle.normal.proofs.Walks.{items_left}
use Rattle.normal.proofs.Forms.{Judged}
use Rattle.normal.proofs.table.write.Given as goal

abbrev pub invariant-loop-c : goal.invariant-loop-c
invariant-loop-c l = Going l.rules.dialect l.s l.c × Judged (meaning_of l.rules.dialect l.s) (items_left l.rules.dialect l.s l.c) l.initial.out l.at l.out l.short × (length l.out ≡ length l.initial.out)

abbrev pub decreases-loop-c : goal.decreases-loop-c
decreases-loop-c l = length l.s + 1 - l.c.at
