use mathlib.Core.Path.{◌≡◌, sym}
use Prim.Native.Nat.{◌+◌, ◌-◌}
use native.Mathlib.Omega.{arith}
use Rattle.octets.proofs.LittleEndian.{number-none, number-next, number-within, number-room}
use Rattle.octets.proofs.little_endian.read.Goals as goal

pub loop-i-init : goal.loop-i-init
loop-i-init c = (sym (number-none c.args.s.now _ c.requires.0), omega arith)

pub overflow_mul-n : goal.overflow_mul-n
overflow_mul-n c =
    omega (arith, number-room c.args.s.now _ c.requires.0 (λ k. omega (arith, c.type_inv.s k)) c.loop-i.i (omega arith) (omega arith))

pub overflow_add-n : goal.overflow_add-n
overflow_add-n c =
    let i = c.loop-i.i in
    let room = number-room c.args.s.now _ c.requires.0 (λ k. omega (arith, c.type_inv.s k)) i (omega arith) (omega arith) in
    omega (arith, c.from.ensures, c.type_inv.s (i - 1), room)

pub loop-i-preserved : goal.loop-i-preserved
loop-i-preserved c =
    let l = c.loop-i in
    (omega (arith, c.from.ensures, l.invariant.0, number-next c.args.s.now _ c.requires.0 l.i (omega arith) (omega arith)), omega arith)

pub returns : goal.returns
returns c =
    let e : c.loop-i.i ≡ c.args.at = omega arith in
    let r = rw e at c.loop-i.invariant.0 in
    let w = number-within c.args.s.now _ c.requires.0 (λ k. omega (arith, c.type_inv.s k)) c.args.at (omega arith) in
    let k : c.args.at + c.args.size - c.args.at ≡ c.args.size = omega arith in
    (r, rw (← r, k) at w)
