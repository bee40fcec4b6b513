-- `field::format::step_of` meets its contract: 1 is the smallest step, where it gives the set.
-- Assumes nothing.
use mathlib.Core.Path.{sym, ◌∙◌}
use mathlib.Core.Bool.{and-eq-true_iff}
use native.Mathlib.Omega.{arith}
use borrow.Author.Tests.{ltb-true}
use Rattle.octets.proofs.Search.{from-stop}
use Rattle.field.specs.Written.{gives, step_of}
use Rattle.field.proofs.format.step_of.Goals as goal

pub returns-then-limits-is_step : goal.returns-then-limits-is_step
unfolding step_of
returns-then-limits-is_step c =
    let t = (and-eq-true_iff _ _).0 c.if-limits-is_step.true in
    from-stop (gives _ _) _ 1 (omega (arith, ltb-true _ _ t.0)) (sym c.is_step.ensures ∙ t.1)

pub returns : goal.returns
returns c = c.searched_step.ensures
