-- `field::values::with_values` meets its contract: a run with no gap, or any range.
-- Assumes nothing.
use mathlib.Core.Path.{◌≡◌, sym, ◌∙◌}
use mathlib.Core.Bool.{and-eq-true_iff}
use Prim.Native.Nat.{◌≤◌, ◌<◌}
use borrow.Author.Tests.{eqb-true, leb-true, ltb-true}
use Rattle.field.proofs.Runs.{run-new}
use Rattle.field.proofs.values.with_values.Goals as goal
use Rattle.field.proofs.values.with_values.Goals.{Then-set-step}

-- what the test says
record Chosen (c : Then-set-step) : Type 0 where
  empty : c.args.set ≡ 0
  single : c.args.step ≡ 1
  rising : c.args.low ≤ c.last_new-last.result
  small : c.last_new-last.result < 63
  own : c.last_new-last.result < c.args.limits.bits

chosen : (c : Then-set-step) → Chosen c
chosen c =
    let t = (and-eq-true_iff _ _).0 c.if-set-step.true in
    let u = (and-eq-true_iff _ _).0 t.0 in
    let v = (and-eq-true_iff _ _).0 u.0 in
    let w = (and-eq-true_iff _ _).0 v.0 in
    record { empty = eqb-true _ _ w.0; single = eqb-true _ _ w.1; rising = leb-true _ _ v.1; small = ltb-true _ _ u.1; own = ltb-true _ _ t.1 }

pub run-requires : goal.run-requires
run-requires c = ((chosen c).rising, (chosen c).small)

pub returns-then-set-step : goal.returns-then-set-step
returns-then-set-step c =
    let l = c.last_new-last.ensures in
    c.run.ensures
    ∙ rw (l, (chosen c.before).empty, (chosen c.before).single)
    (sym (run-new _ _ _ (rw l at (chosen c.before).rising) (rw l at (chosen c.before).small) (rw l at (chosen c.before).own)))

pub returns : goal.returns
returns c = c.with_range.ensures
