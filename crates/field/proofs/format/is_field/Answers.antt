-- `field::format::is_field` meets its contract, by the flag.
-- Assumes nothing.
use mathlib.Core.Path.{ap, ◌∙◌}
use native.Mathlib.Omega.{arith}
use Rattle.field.specs.Written.{gives}
use Rattle.field.proofs.StarTexts.{step-least}
use Rattle.field.proofs.FieldTests.{starred-test, listed-test}
use Rattle.field.proofs.format.is_field.Goals as goal

pub is_step-requires : goal.is_step-requires
is_step-requires c =
    (c.requires.0, omega (arith, c.step_of.ensures, (step-least c.args.limits c.requires.0.0 c.args.set).low))

pub returns-then-star : goal.returns-then-star
returns-then-star c =
    let a = c.args in
    c.is_step.ensures ∙ ap (gives a.limits a.set) c.step_of.ensures ∙ starred-test _ _ _ c.if-star.true

pub returns : goal.returns
returns c =
    rw c.with_values-full.ensures (listed-test c.args.limits c.requires.1 c.args.set (omega arith) _ c.if-star.false)
