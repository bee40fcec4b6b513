-- `field::values::last_new` meets its contract: it tests what the definition does.
-- Assumes nothing.
use mathlib.Core.Bool.{◌&&◌, and-eq-true_iff}
use lib.Dec.{eqb, ltb}
use native.Mathlib.Omega.{arith}
use borrow.Author.Tests.{ltb-true}
use Rattle.field.specs.Inner.{last_new}
use Rattle.field.proofs.values.last_new.Goals as goal

pub overflow_sub-result : goal.overflow_sub-result
overflow_sub-result c =
    let a = c.args in
    let t = (and-eq-true_iff (eqb a.low 0 && ltb a.limits.first a.high) (eqb a.high a.limits.bits)).0 c.if-low-limits.true in
    let pos = ltb-true a.limits.first a.high ((and-eq-true_iff (eqb a.low 0) (ltb a.limits.first a.high)).0 t.0).1 in
    omega arith

pub returns-then-low-limits : goal.returns-then-low-limits
unfolding last_new
returns-then-low-limits c = rw c.if-low-limits.true

pub returns : goal.returns
unfolding last_new
returns c = rw c.if-low-limits.false
