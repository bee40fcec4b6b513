-- `field::after_star` meets its contract, by what follows the asterisk.
-- Assumes nothing.
use mathlib.Core.Path.{sym, ◌∙◌}
use native.Mathlib.Omega.{arith}
use Rattle.field.proofs.Fields.{star-alone, star-step, star-other}
use Rattle.field.proofs.after_star.Goals as goal

pub returns-then-s-eq0 : goal.returns-then-s-eq0
returns-then-s-eq0 c = sym (star-alone _ _ c.if-s-eq0.true)

pub returns-then-s-eq47 : goal.returns-then-s-eq47
returns-then-s-eq47 c =
    c.range.ensures
    ∙ rw c.read-step.ensures
    (sym (star-step _ c.args.s.now (omega arith) c.if-s-eq47.true))

pub returns : goal.returns
returns c = sym (star-other _ _ (omega arith) c.if-s-eq47.false)
