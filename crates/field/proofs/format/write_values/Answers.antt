use mathlib.Core.Path.{refl}
use Prim.Native.Nat.{◌+◌}
use native.Mathlib.Omega.{arith}
use Rattle.octets.specs.Sets.{has_bit}
use Rattle.octets.proofs.Search.{from-least}
use Rattle.field.proofs.Writing.{from-has, whole, listing-starts, listing-next, listing-ends}
use Rattle.field.proofs.format.write_values.Goals as goal

pub loop-value-init : goal.loop-value-init
loop-value-init c =
    let a = c.args in
    let e = c.next-value.ensures in
    (listing-starts _ _ _ _ _ (omega arith) (omega arith), λ h. rw e (from-has a.set a.limits.bits a.limits.first (rw e at h)), c.requires, refl)

pub loop-value-smaller : goal.loop-value-smaller
loop-value-smaller c =
    let a = c.args in
    let at = c.loop-value in
    omega (arith, c.next-value-in-loop-value.ensures, (from-least (has_bit a.set) a.limits.bits (at.value + 1) (omega arith)).low)

pub loop-value-preserved : goal.loop-value-preserved
loop-value-preserved c =
    let a = c.args in
    let at = c.loop-value in
    let more = c.loop-value-test.true in
    let e = c.next-value-in-loop-value.ensures in
    let so = listing-next _ _ _ _ _ at.value at.first at.at at.out at.invariant.0 more (at.invariant.1 more) e c.write_member-at.ensures in
    (so, λ h. rw e (from-has a.set a.limits.bits (at.value + 1) (rw e at h)), at.invariant.2, so.put.size)

pub returns : goal.returns
returns c =
    let a = c.args in
    let at = c.loop-value in
    rw (whole a.limits a.set c.next-value.ensures) (listing-ends _ _ _ _ _ at.value at.first at.at at.out at.invariant.0 (omega arith))
