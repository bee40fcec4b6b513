-- `records::compile::measure` meets its contract: normal text and records of the lines up to a cursor are measured, and those from there on are left.
-- Assumes nothing.
use mathlib.Core.Path.{◌≡◌}
use Prim.Native.Nat.{◌+◌, ◌-◌, ◌*◌, ◌≤◌}
use lib.ListN.{length}
use Rattle.crontab.specs.Limits.{max_table}
use Rattle.normal.specs.Meanings.{meaning_of}
use Rattle.normal.proofs.Walks.{Going}
use Rattle.normal.proofs.Walks.{items_left}
use Rattle.normal.proofs.Forms.{Lined, Judged}
use Rattle.records.specs.Formats.{records_of}
use Rattle.records.proofs.compile.measure.Given as goal

abbrev pub invariant-loop-c : goal.invariant-loop-c
invariant-loop-c l = let d = l.rules.dialect in
    Going d l.s l.c
    × Judged (meaning_of d l.s) (items_left d l.s l.c) l.initial.no_text l.text l.no_text l.short
    × Lined records_of (meaning_of d l.s) (items_left d l.s l.c) l.initial.no_records l.size l.no_records
    × (l.size ≤ (2 * max_table + 24) * l.c.at)
    × (length l.no_text ≡ 1)
    × (length l.no_records ≡ 1)

abbrev pub decreases-loop-c : goal.decreases-loop-c
decreases-loop-c l = length l.s + 1 - l.c.at
