use native.Mathlib.Omega.{arith}
use Rattle.std.proofs.lemmas.Result.{err_from_is_err_and, MatchResult-at_ok, MatchResult-at_err}
use Rattle.crontab.proofs.Items.{skipped-none, skipped-line, skipped-item, skipped-fault, skipped-end}
use Rattle.crontab.proofs.item.next_item.Goals as goal

pub loop-c-init : goal.loop-c-init
loop-c-init c = skipped-none c.requires

pub advance-requires : goal.advance-requires
advance-requires c = (c.loop-c.invariant.reached, c.loop-c-test.true)

pub returns-in_err-step : goal.returns-in_err-step
returns-in_err-step c =
    let err = err_from_is_err_and c.from_residual.result c.from_residual.ensures.1 in
    rw (err.1, err.2) (skipped-fault c.loop-c.invariant (MatchResult-at_err _ _ _ c.in_err-step.was c.advance.ensures))

pub returns-in_default : goal.returns-in_default
returns-in_default c = skipped-item c.loop-c.invariant (MatchResult-at_ok _ _ _ c.in_ok-step.was c.advance.ensures) c.in_default.not-Nothing

pub loop-c-smaller : goal.loop-c-smaller
loop-c-smaller c = let step = (MatchResult-at_ok _ _ _ c.in_ok-step.was c.advance.ensures) in omega (arith, step.onward, step.reached.place)

pub loop-c-preserved : goal.loop-c-preserved
loop-c-preserved c =
    skipped-line c.loop-c.invariant (MatchResult-at_ok _ _ _ c.in_ok-step.was c.advance.ensures) c.in-Nothing.is

pub returns : goal.returns
returns c = skipped-end c.loop-c.invariant c.loop-c-test.false
