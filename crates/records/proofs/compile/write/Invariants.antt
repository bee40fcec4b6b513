-- `records::compile::write` meets its contract: the records of the lines up to a cursor are written, and those from there on are left.
-- Assumes nothing.
use mathlib.Core.Path.{◌≡◌}
use Prim.Native.Nat.{◌+◌, ◌-◌}
use lib.ListN.{length}
use Rattle.crontab.specs.Tables.{table_of, refusal_in}
use Rattle.normal.specs.Meanings.{of_user, meaning_of}
use Rattle.normal.proofs.Walks.{Going, items_left}
use Rattle.normal.proofs.Forms.{Lined}
use Rattle.records.specs.Formats.{records_of}
use Rattle.records.proofs.compile.write.Given as goal

abbrev pub invariant-loop-c : goal.invariant-loop-c
invariant-loop-c l = Going l.rules.dialect l.s l.c
    × Lined records_of (meaning_of l.rules.dialect l.s) (items_left l.rules.dialect l.s l.c) l.initial.out l.at l.out
    × (length l.out ≡ length l.initial.out)
    × (refusal_in (table_of (of_user l.rules.dialect) l.s) ≡ 0)

abbrev pub decreases-loop-c : goal.decreases-loop-c
decreases-loop-c l = length l.s + 1 - l.c.at
