use Rattle.std.specs.Prelude.{Err}
use Rattle.std.proofs.lemmas.Result.{err_from_is_err_and, MatchResult-at_ok, MatchResult-at_err}
use mathlib.Core.Path.{ap, ◌∙◌}
use Rattle.crontab.proofs.Walks.{less-entry, less-setting, entry-sound}
use Rattle.crontab.proofs.Selections.{selecting-long, selecting-starts, selecting-ends, selecting-refused, selecting-setting, selecting-entry}
use Rattle.reload.specs.EntryMeanings.{means_as}
use Rattle.reload.proofs.peers.read.Goals as goal

pub returns-then-s-gt-MAX_TABLE : goal.returns-then-s-gt-MAX_TABLE
returns-then-s-gt-MAX_TABLE c = selecting-long _ _ _ c.if-s-gt-MAX_TABLE.true

pub loop-step-init : goal.loop-step-init
loop-step-init c = selecting-starts _ _ _ c.if-s-gt-MAX_TABLE.false

pub next_item-requires : goal.next_item-requires
next_item-requires c = c.loop-step.invariant.reached

pub returns-in-Nothing : goal.returns-in-Nothing
returns-in-Nothing c = selecting-ends c.loop-step.invariant (MatchResult-at_ok _ _ _ c.in_ok-step.was c.next_item.ensures) c.in-Nothing.is

pub returns-in_err-step : goal.returns-in_err-step
returns-in_err-step c =
    let err = err_from_is_err_and c.from_residual.result c.from_residual.ensures.1 in
    err.1 ∙ ap Err err.2 ∙ selecting-refused c.loop-step.invariant (MatchResult-at_err _ _ _ c.in_err-step.was c.next_item.ensures).gives

pub is_same_meaning-requires : goal.is_same_meaning-requires
is_same_meaning-requires c =
    (c.requires, entry-sound (MatchResult-at_ok _ _ _ c.in_ok-step.was c.next_item.ensures) c.in-Entry.is)

pub loop-step-smaller-in-Entry : goal.loop-step-smaller-in-Entry
loop-step-smaller-in-Entry c = less-entry (MatchResult-at_ok _ _ _ c.in_ok-step.was c.next_item.ensures) c.in-Entry.is

pub loop-step-preserved-in-Entry : goal.loop-step-preserved-in-Entry
unfolding means_as
loop-step-preserved-in-Entry c =
    rw (c.add_if.ensures, c.is_same_meaning.ensures) (selecting-entry c.loop-step.invariant (MatchResult-at_ok _ _ _ c.in_ok-step.was c.next_item.ensures) c.in-Entry.is)

pub loop-step-smaller : goal.loop-step-smaller
loop-step-smaller c = less-setting (MatchResult-at_ok _ _ _ c.in_ok-step.was c.next_item.ensures) c.in-Setting.is

pub loop-step-preserved : goal.loop-step-preserved
loop-step-preserved c = selecting-setting c.loop-step.invariant (MatchResult-at_ok _ _ _ c.in_ok-step.was c.next_item.ensures) c.in-Setting.is
