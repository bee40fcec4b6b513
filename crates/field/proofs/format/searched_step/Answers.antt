use mathlib.Core.Path.{◌≡◌, refl, sym, ◌∙◌}
use Prim.Native.Nat.{◌+◌}
use native.Mathlib.Omega.{arith}
use Rattle.octets.proofs.Search.{from-stop, from_next, from_past}
use Rattle.field.specs.Written.{gives, step_of}
use Rattle.field.proofs.format.searched_step.Goals as goal

pub loop-n-init : goal.loop-n-init
unfolding step_of
loop-n-init c = refl

pub is_step-requires : goal.is_step-requires
is_step-requires c = (c.requires, omega arith)

pub returns-then-is_step : goal.returns-then-is_step
returns-then-is_step c = let at = c.loop-n in
    from-stop (gives _ _) _ at.n (omega arith) (sym c.is_step.ensures ∙ c.if-is_step.true) ∙ at.invariant

pub loop-n-preserved : goal.loop-n-preserved
loop-n-preserved c = let at = c.loop-n in
    from_next (gives _ _) _ at.n (omega arith) (sym c.is_step.ensures ∙ c.if-is_step.false) ∙ at.invariant

pub returns : goal.returns
returns c =
    let at = c.loop-n in
    let past : c.args.limits.last + 1 ≡ at.n = omega arith in
    past ∙ from_past (gives _ _) _ at.n (omega arith) ∙ at.invariant
