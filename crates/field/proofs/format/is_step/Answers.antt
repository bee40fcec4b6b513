-- `field::format::is_step` meets its contract.
-- Assumes nothing.
use mathlib.Core.Path.{sym, ap, ◌∙◌}
use mathlib.Core.Bool.{not, and-eq-true_iff}
use Prim.Native.Nat.{◌+◌}
use borrow.Author.Tests.{leb-true, not-true}
use lib.Dec.{leb}
use Rattle.octets.specs.Sets.{has_bit}
use Rattle.field.specs.Written.{gives}
use Rattle.field.proofs.Writing.{second-missing}
use Rattle.field.proofs.format.is_step.Goals as goal

pub returns-then-second-last : goal.returns-then-second-last
returns-then-second-last c =
    let a = c.args in
    let p = c.requires in
    let t = (and-eq-true_iff (leb (a.limits.first + a.n) a.limits.last) (not c.has.result)).0 c.if-second-last.true in
    let e = ap (has_bit a.set) (sym c.bit_of.ensures) ∙ sym c.has.ensures ∙ not-true _ t.1 in
    sym (second-missing a.limits p.0 a.n p.1 a.set (leb-true _ _ t.0) e)

pub returns : goal.returns
unfolding gives
returns c = rw c.star_set.ensures
