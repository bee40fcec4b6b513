use mathlib.Core.Path.{refl, sym, ap, ◌∙◌}
use native.Mathlib.Omega.{arith}
use lib.ListN.{length}
use Rattle.octets.proofs.Written.{clipped-none, clipped-length, copy-next, copy-ends, copy-wrote}
use Rattle.octets.proofs.write.copy.Goals as goal

pub loop-i-init : goal.loop-i-init
loop-i-init c = (sym (clipped-none _ _), rw (← c.saturating_sub.ensures) c.min-fit.ensures, refl)

pub loop-i-preserved : goal.loop-i-preserved
loop-i-preserved c =
    let a = c.args in
    let at = c.loop-i in
    let e = copy-next a.at a.part.now a.out.now at.i at.out (omega (arith, at.invariant.1)) (omega (arith, at.invariant.1)) at.invariant.0 in
    (e, at.invariant.1, ap length e ∙ clipped-length _ _ _)

pub returns : goal.returns
returns c =
    let a = c.args in
    let at = c.loop-i in
    copy-wrote a.at a.part.now a.out.now _ _ (omega arith)
    (copy-ends a.at a.part.now a.out.now at.i at.out (omega (arith, at.invariant.1)) at.invariant.0)
    c.after.ensures
