use Rattle.std.proofs.lemmas.Result.{MatchResult-at_ok, MatchResult-at_err}
use mathlib.Core.Path.{refl}
use native.Mathlib.Omega.{arith}
use Rattle.crontab.proofs.Theorems.{table-short}
use Rattle.crontab.proofs.Walks.{step_less}
use Rattle.normal.proofs.Walks.{going-starts, going-within, going_next, going-kept, left-starts, left-none, parts_next}
use Rattle.normal.proofs.Forms.{lined-starts, lined-next, lined-ends}
use Rattle.records.specs.Formats.{records_of}
use Rattle.records.proofs.Compiling.{record-parts}
use Rattle.records.proofs.compile.write.Goals as goal

pub loop-c-init : goal.loop-c-init
loop-c-init c =
    let good = c.requires in
    let short = table-short _ _ good in
    (going-starts _ _ short, lined-starts records_of _ (left-starts _ _ short) (omega arith), refl, good)

pub next_item-requires : goal.next_item-requires
next_item-requires c = c.loop-c.invariant.0.reached

-- a good table has no fault
pub returns-in_default : goal.returns-in_default
returns-in_default c =
    let inv = c.loop-c.invariant in
    absurd (going-kept (MatchResult-at_err _ _ _ c.in_default.is c.next_item.ensures).gives inv.0 inv.3)

pub write_record-at-requires : goal.write_record-at-requires
write_record-at-requires c =
    let going = c.loop-c.invariant.0 in
    (going.reached.short, going-within (MatchResult-at_ok _ _ _ c.in-Ok.is c.next_item.ensures) going)

pub loop-c-smaller : goal.loop-c-smaller
loop-c-smaller c = step_less (MatchResult-at_ok _ _ _ c.in-Ok.is c.next_item.ensures) c.loop-c-test.true

pub loop-c-preserved : goal.loop-c-preserved
loop-c-preserved c =
    let inv = c.loop-c.invariant in
    let step = MatchResult-at_ok _ _ _ c.in-Ok.is c.next_item.ensures in
    let so = lined-next inv.1 (parts_next step (record-parts _)) c.write_record-at.ensures in
    (going_next step inv.0, so, so.wrote.size, inv.3)

pub returns : goal.returns
returns c =
    let at = c.loop-c in
    (lined-ends at.invariant.1 (left-none (record-parts _) _ at.c c.loop-c-test.false)).bytes
