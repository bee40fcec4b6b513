use mathlib.Core.Path.{ap, ◌∙◌}
use Rattle.std.specs.Prelude.{Err}
use Rattle.std.proofs.lemmas.Result.{err_from_is_err_and, MatchResult-at_ok, MatchResult-at_err}
use borrow.Author.Tests.{lt-ltb}
use Rattle.crontab.specs.Limits.{max_table}
use Rattle.crontab.specs.Items.{items_of}
use Rattle.crontab.specs.Findings.{found_or, finding_from, finding_of}
use Rattle.crontab.proofs.Items.{items-start, start-reached, items-end}
use Rattle.crontab.proofs.Walks.{step_less, finding-next, finding-refused}
use Rattle.crontab.proofs.find.find.Goals as goal

pub returns-then-s-gt-MAX_TABLE : goal.returns-then-s-gt-MAX_TABLE
unfolding items_of finding_of finding_from
returns-then-s-gt-MAX_TABLE c = rw (lt-ltb max_table _ c.if-s-gt-MAX_TABLE.true)

pub loop-c-init : goal.loop-c-init
unfolding finding_of
loop-c-init c = (rw (items-start _ _ c.if-s-gt-MAX_TABLE.false), start-reached _ c.if-s-gt-MAX_TABLE.false)

pub next_item-requires : goal.next_item-requires
next_item-requires c = c.loop-c.invariant.1

pub returns-in_err-step : goal.returns-in_err-step
returns-in_err-step c =
    let loop = c.loop-c in
    let err = err_from_is_err_and c.from_residual.result c.from_residual.ensures.1 in
    err.1 ∙ ap Err err.2 ∙ finding-refused _ _ _ (MatchResult-at_err _ _ _ c.in_err-step.was c.next_item.ensures).gives _ loop.found ∙ loop.invariant.0

pub loop-c-smaller : goal.loop-c-smaller
loop-c-smaller c = step_less (MatchResult-at_ok _ _ _ c.in_ok-step.was c.next_item.ensures) c.loop-c-test.true

pub loop-c-preserved : goal.loop-c-preserved
unfolding found_or
loop-c-preserved c =
    let loop = c.loop-c in
    let step = MatchResult-at_ok _ _ _ c.in_ok-step.was c.next_item.ensures in
    (rw (c.found_or-found.ensures, c.is_wanted-this.ensures) (finding-next step _ loop.found ∙ loop.invariant.0), step.reached)

pub returns : goal.returns
unfolding finding_from
returns c = let loop = c.loop-c in rw (items-end _ _ loop.c c.loop-c-test.false) at loop.invariant.0
