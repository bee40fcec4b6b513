use Rattle.std.proofs.lemmas.Result.{err_from_is_err_and, MatchResult-at_ok, MatchResult-at_err}
use mathlib.Core.Path.{refl}
use native.Mathlib.Omega.{arith}
use Rattle.refusal.specs.declared.Refusal.TheVariants.{TableTooLong}
use Rattle.crontab.proofs.Walks.{step_less}
use Rattle.normal.proofs.Walks.{table-long, going-starts, going-within, going_next, going-refused, going-good}
use Rattle.normal.proofs.Walks.{left-starts, left-ends, text-parts, parts_next, short-next}
use Rattle.normal.proofs.Forms.{lined-onward, judged-starts, judged-next, judged-ends, refused-tried, text-refused, text-good}
use Rattle.normal.proofs.table.write.Goals as goal

pub returns-then-s-gt-MAX_TABLE : goal.returns-then-s-gt-MAX_TABLE
returns-then-s-gt-MAX_TABLE c = refused-tried (text-refused _ _ TableTooLong (table-long _ _ c.if-s-gt-MAX_TABLE.true)) refl

pub loop-c-init : goal.loop-c-init
loop-c-init c = let short = c.if-s-gt-MAX_TABLE.false in (going-starts _ _ short, judged-starts _ (left-starts _ _ short) (omega arith), refl)

pub next_item-requires : goal.next_item-requires
next_item-requires c = c.loop-c.invariant.0.reached

pub shape_of-out-in_err-step : goal.shape_of-out-in_err-step
shape_of-out-in_err-step c = c.loop-c.invariant.2

pub returns-in_err-step : goal.returns-in_err-step
returns-in_err-step c =
    let at = c.loop-c in
    let err = err_from_is_err_and c.from_residual.result c.from_residual.ensures.1 in
    rw (err.1, err.2)
    (refused-tried (text-refused _ _ _ (going-refused (MatchResult-at_err _ _ _ c.in_err-step.was c.next_item.ensures).gives at.invariant.0)) at.invariant.2)

pub write-next-requires : goal.write-next-requires
write-next-requires c = going-within (MatchResult-at_ok _ _ _ c.in_ok-step.was c.next_item.ensures) c.loop-c.invariant.0

pub overflow_sub-short : goal.overflow_sub-short
overflow_sub-short c = lined-onward c.loop-c.invariant.1.lined c.write-next.ensures

pub loop-c-smaller : goal.loop-c-smaller
loop-c-smaller c = step_less (MatchResult-at_ok _ _ _ c.in_ok-step.was c.next_item.ensures) c.loop-c-test.true

pub loop-c-preserved : goal.loop-c-preserved
loop-c-preserved c =
    let at = c.loop-c in
    let step = MatchResult-at_ok _ _ _ c.in_ok-step.was c.next_item.ensures in
    let so = judged-next at.invariant.1 (parts_next step (text-parts _)) (short-next step) c.write-next.ensures in
    (going_next step at.invariant.0, so, so.lined.wrote.size)

pub shape_of-out-then-short-at : goal.shape_of-out-then-short-at
shape_of-out-then-short-at c = c.loop-c.invariant.2

pub returns-then-short-at : goal.returns-then-short-at
returns-then-short-at c =
    let at = c.loop-c in
    let end = c.loop-c-test.false in
    rw c.if-short-at.true at (judged-ends at.invariant.1 (left-ends _ _ at.c end) (text-good _ _ (going-good at.invariant.0 end)))

pub shape_of-out : goal.shape_of-out
shape_of-out c = c.loop-c.invariant.2

pub returns : goal.returns
returns c =
    let at = c.loop-c in
    let end = c.loop-c-test.false in
    rw c.if-short-at.false at (judged-ends at.invariant.1 (left-ends _ _ at.c end) (text-good _ _ (going-good at.invariant.0 end)))
