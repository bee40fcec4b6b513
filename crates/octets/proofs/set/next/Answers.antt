-- `octets::set::next` meets its contract: the zeros below the least value, up to the end.
-- Assumes nothing.
use mathlib.Core.Path.{◌≡◌, sym}
use Prim.Native.Nat.{◌+◌, ◌-◌, ◌/◌, ◌^◌, min}
use native.Mathlib.Omega.{arith}
use lib.Count.{count_trailing_zeros, trailing_le}
use Rattle.octets.proofs.LeastBit.{least-zeros}
use Rattle.octets.proofs.Search.{from_past}
use Rattle.octets.proofs.set.next.Goals as goal

pub returns-then-end-at : goal.returns-then-end-at
returns-then-end-at c = from_past _ _ _ c.if-end-at.true

pub overflow_cast-found : goal.overflow_cast-found
overflow_cast-found c = let a = c.args in omega (arith, trailing_le 64 (a.set / 2 ^ a.at))

pub overflow_add-found : goal.overflow_add-found
overflow_add-found c = let a = c.args in omega (arith, trailing_le 64 (a.set / 2 ^ a.at))

pub returns-then-found-end : goal.returns-then-found-end
returns-then-found-end c =
    let a = c.args in
    let t = count_trailing_zeros 64 (a.set / 2 ^ a.at) in
    let e : min t (a.end - a.at) ≡ t = omega arith in
    rw e at (sym (least-zeros a.set a.at a.end (omega arith) c.requires))

pub returns : goal.returns
returns c =
    let a = c.args in
    let t = count_trailing_zeros 64 (a.set / 2 ^ a.at) in
    let e : a.at + min t (a.end - a.at) ≡ a.end = omega arith in
    rw e at (sym (least-zeros a.set a.at a.end (omega arith) c.requires))
