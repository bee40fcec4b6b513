use mathlib.Core.Path.{sym, ap, ◌∙◌}
use Rattle.std.specs.Prelude.{Err}
use Rattle.std.proofs.lemmas.Result.{err_from_is_err_and, MatchResult-at_ok, MatchResult-at_err}
use Rattle.crontab.specs.Selections.{date_under}
use Rattle.crontab.proofs.Walks.{less-entry, less-setting, entry-under}
use Rattle.crontab.proofs.Selections.{selecting-long, selecting-starts, selecting-ends, selecting-refused, selecting-setting, selecting-entry, date-kept, date-back}
use Rattle.line.proofs.Theorems.{kept_in}
use Rattle.crontab.proofs.select.read.Goals as goal

pub returns-then-s-gt-MAX_TABLE : goal.returns-then-s-gt-MAX_TABLE
returns-then-s-gt-MAX_TABLE c = selecting-long _ _ _ c.if-s-gt-MAX_TABLE.true

pub loop-step-init : goal.loop-step-init
loop-step-init c = (selecting-starts _ _ _ c.if-s-gt-MAX_TABLE.false, c.date_under-date.ensures)

pub next_item-requires : goal.next_item-requires
next_item-requires c = c.loop-step.invariant.0.reached

pub moved_on-date-requires : goal.moved_on-date-requires
moved_on-date-requires c =
    let loop = c.loop-step in
    let zone = loop.invariant.0.reached.zone in
    (kept_in loop.c.offset zone, kept_in c.in_ok-step.step.next.offset (MatchResult-at_ok _ _ _ c.in_ok-step.was c.next_item.ensures).reached.zone, date-back _ loop.c.offset zone loop.invariant.1)

pub returns-in-Nothing : goal.returns-in-Nothing
returns-in-Nothing c =
    selecting-ends c.loop-step.invariant.0 (MatchResult-at_ok _ _ _ c.in_ok-step.was c.next_item.ensures) c.in-Nothing.is

pub returns-in_err-step : goal.returns-in_err-step
returns-in_err-step c =
    let err = err_from_is_err_and c.from_residual.result c.from_residual.ensures.1 in
    err.1 ∙ ap Err err.2 ∙ selecting-refused c.loop-step.invariant.0 (MatchResult-at_err _ _ _ c.in_err-step.was c.next_item.ensures).gives

pub is_selected-requires : goal.is_selected-requires
is_selected-requires c =
    let inv = c.loop-step.invariant in
    let under = entry-under (MatchResult-at_ok _ _ _ c.in_ok-step.was c.next_item.ensures) c.in-Entry.is in
    (rw under inv.0.reached.zone, inv.1 ∙ ap (date_under _) (sym under))

pub loop-step-smaller-in-Entry : goal.loop-step-smaller-in-Entry
loop-step-smaller-in-Entry c = less-entry (MatchResult-at_ok _ _ _ c.in_ok-step.was c.next_item.ensures) c.in-Entry.is

pub loop-step-preserved-in-Entry : goal.loop-step-preserved-in-Entry
loop-step-preserved-in-Entry c =
    let step = MatchResult-at_ok _ _ _ c.in_ok-step.was c.next_item.ensures in
    let next = selecting-entry c.loop-step.invariant.0 step c.in-Entry.is in
    (rw (c.add_if.ensures, c.is_selected.ensures) next, date-kept _ c.in_ok-step.step.next.offset step.reached.zone c.moved_on-date.ensures)

pub loop-step-smaller : goal.loop-step-smaller
loop-step-smaller c = less-setting (MatchResult-at_ok _ _ _ c.in_ok-step.was c.next_item.ensures) c.in-Setting.is

pub loop-step-preserved : goal.loop-step-preserved
loop-step-preserved c =
    let step = MatchResult-at_ok _ _ _ c.in_ok-step.was c.next_item.ensures in
    (selecting-setting c.loop-step.invariant.0 step c.in-Setting.is, date-kept _ c.in_ok-step.step.next.offset step.reached.zone c.moved_on-date.ensures)
