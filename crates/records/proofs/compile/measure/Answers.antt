use Rattle.std.proofs.lemmas.Result.{err_from_is_err_and, MatchResult-at_ok, MatchResult-at_err}
use mathlib.Core.Path.{refl}
use native.Mathlib.Omega.{arith}
use Rattle.refusal.specs.declared.Refusal.TheVariants.{TableTooLong}
use Rattle.octets.proofs.Written.{near_next, near-size}
use Rattle.crontab.proofs.Walks.{step_less}
use Rattle.normal.proofs.Walks.{table-long, going-starts, going-within, going_next, going-refused, going-good}
use Rattle.normal.proofs.Walks.{left-starts, left-ends, left-none, text-parts, parts_next, short-next}
use Rattle.normal.proofs.Forms.{lined-starts, lined-next, lined-ends, lined-onward, judged-starts, judged-next, judged-ends, resized, refused-alike, refused-measured, text-refused, text-good}
use Rattle.records.specs.Formats.{records_of}
use Rattle.records.proofs.Compiling.{record-parts, record-short}
use Rattle.records.proofs.compile.measure.Goals as goal

pub returns-then-s-gt-MAX_TABLE : goal.returns-then-s-gt-MAX_TABLE
returns-then-s-gt-MAX_TABLE c = refused-measured _ (text-refused _ _ TableTooLong (table-long _ _ c.if-s-gt-MAX_TABLE.true))

pub loop-c-init : goal.loop-c-init
loop-c-init c =
    let short = c.if-s-gt-MAX_TABLE.false in
    (going-starts _ _ short, judged-starts _ (left-starts _ _ short) (omega arith), lined-starts records_of _ (left-starts _ _ short) (omega arith), omega arith, refl, refl)

pub next_item-requires : goal.next_item-requires
next_item-requires c = c.loop-c.invariant.0.reached

pub returns-in_err-step : goal.returns-in_err-step
returns-in_err-step c =
    let err = err_from_is_err_and c.from_residual.result c.from_residual.ensures.1 in
    rw (err.1, err.2)
    (refused-measured _ (text-refused _ _ _ (going-refused (MatchResult-at_err _ _ _ c.in_err-step.was c.next_item.ensures).gives c.loop-c.invariant.0)))

pub write-next-requires : goal.write-next-requires
write-next-requires c = going-within (MatchResult-at_ok _ _ _ c.in_ok-step.was c.next_item.ensures) c.loop-c.invariant.0

pub overflow_sub-short : goal.overflow_sub-short
overflow_sub-short c = lined-onward c.loop-c.invariant.1.lined c.write-next.ensures

pub write_record-size-requires : goal.write_record-size-requires
write_record-size-requires c =
    let going = c.loop-c.invariant.0 in
    (going.reached.short, going-within (MatchResult-at_ok _ _ _ c.in_ok-step.was c.next_item.ensures) going)

pub loop-c-smaller : goal.loop-c-smaller
loop-c-smaller c = step_less (MatchResult-at_ok _ _ _ c.in_ok-step.was c.next_item.ensures) c.loop-c-test.true

pub loop-c-preserved : goal.loop-c-preserved
loop-c-preserved c =
    let inv = c.loop-c.invariant in
    let step = MatchResult-at_ok _ _ _ c.in_ok-step.was c.next_item.ensures in
    let text = judged-next inv.1 (parts_next step (text-parts _)) (short-next step) c.write-next.ensures in
    let wrote = c.write_record-size.ensures in
    let records = lined-next inv.2 (parts_next step (record-parts _)) wrote in
    let near = near_next wrote (record-short _ inv.0.reached.short _ (going-within step inv.0)) in
    (going_next step inv.0, text, records, omega (arith, near, inv.3, step_less step c.loop-c-test.true), text.lined.wrote.size, records.wrote.size)

pub returns-then-short-text : goal.returns-then-short-text
returns-then-short-text c =
    let at = c.loop-c in
    let end = c.loop-c-test.false in
    let going = at.invariant.0 in
    let size = near-size (lined-ends at.invariant.2 (left-none (record-parts _) _ at.c end)) (omega (arith, at.invariant.3, going.reached.place, going.reached.short)) in
    rw size (resized _ _ _ (rw c.if-short-text.true at (judged-ends at.invariant.1 (left-ends _ _ at.c end) (text-good _ _ (going-good going end))).is))

pub returns : goal.returns
returns c =
    let at = c.loop-c in
    let end = c.loop-c-test.false in
    refused-alike _ _ _ (rw c.if-short-text.false at (judged-ends at.invariant.1 (left-ends _ _ at.c end) (text-good _ _ (going-good at.invariant.0 end))).is)
