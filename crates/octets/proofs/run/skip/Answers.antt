use mathlib.Core.Path.{refl, sym, ◌∙◌}
use Rattle.octets.proofs.Runs.{skipped-in, skipped-other, skipped-end}
use native.Mathlib.Omega.{arith}
use Rattle.octets.proofs.run.skip.Goals as goal

pub loop-at-init : goal.loop-at-init
loop-at-init c = (refl, omega arith, omega arith)

pub loop-at-preserved : goal.loop-at-preserved
loop-at-preserved c = (
  sym (skipped-in _ _ c.loop-at.at c.loop-at-test.true (sym c.is_in.ensures ∙ c.if-is_in.true)) ∙ c.loop-at.invariant.0,
  omega arith,
  omega arith,
)

pub returns-else-is_in : goal.returns-else-is_in
returns-else-is_in c = (
  sym (skipped-other _ _ c.loop-at.at c.loop-at-test.true (sym c.is_in.ensures ∙ c.if-is_in.false)) ∙ c.loop-at.invariant.0,
  c.loop-at.invariant.1,
  c.loop-at.invariant.2,
)

pub returns : goal.returns
returns c = (sym (skipped-end _ c.args.s.now c.loop-at.at (omega arith)) ∙ c.loop-at.invariant.0, c.loop-at.invariant.1, c.loop-at.invariant.2)
