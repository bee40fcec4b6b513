use mathlib.Core.Path.{◌≡◌, sym, ◌∙◌}
use Prim.Native.Nat.{◌+◌, ◌-◌}
use native.Mathlib.Omega.{arith}
use Rattle.line.specs.Owners.{behind}
use Rattle.line.proofs.Users.{behind-next}
use Rattle.line.proofs.user.behind.Goals as goal

pub loop-preserved : goal.loop-preserved
loop-preserved c =
    let at = c.loop in
    let runs = c.args.runs in
    let e : runs - (at.counter + 1) ≡ runs - at.counter - 1 = omega arith in
    rw (e, c.skip-at.ensures.0, c.skip.ensures.0) (sym (behind-next (runs - at.counter) _ at.at (omega arith)) ∙ at.invariant)

pub returns : goal.returns
unfolding behind
returns c =
    let at = c.loop in
    let e : c.args.runs - at.counter ≡ 0 = omega arith in
    rw e at at.invariant
