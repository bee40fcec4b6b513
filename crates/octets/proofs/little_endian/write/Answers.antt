use mathlib.Core.Path.{refl, sym, ap, ◌∙◌}
use Prim.Native.Nat.{ℕ, ◌+◌, ◌<◌}
use native.Mathlib.Omega.{arith}
use mathlib.Core.List.{[], ◌∷◌}
use lib.ListN.{get_or}
use Rattle.octets.specs.Clipped.{saturated, Wrote}
use Rattle.octets.specs.LittleEndian.{little_endian}
use Rattle.octets.proofs.LittleEndian.{left-starts, left-byte, left-next, length-little_endian}
use Rattle.octets.proofs.Written.{wrote_none, wrote-past, front-next, front-end}
use Rattle.octets.proofs.little_endian.write.Goals as goal

-- nothing fits
pub returns-then-out-at : goal.returns-then-out-at
returns-then-out-at c =
    let a = c.args in
    wrote-past a.at _ _ a.out.now (omega arith) (omega arith) (c.after.ensures ∙ ap (λ (k : ℕ). saturated (a.at + k)) (sym (length-little_endian a.size a.n)))

pub loop-i-init : goal.loop-i-init
loop-i-init c = (wrote_none _ _ (omega arith) (omega arith), left-starts _ _, refl)

pub loop-i-preserved : goal.loop-i-preserved
loop-i-preserved c =
    let a = c.args in
    let at = c.loop-i in
    let more : at._i < a.size = omega arith in
    let b = left-byte a.size a.n at._i at.rest more at.invariant.1 in
    let wrote : Wrote at.next (get_or (little_endian a.size a.n) at._i 0 ∷ []) at.out c.byte-next.result c.byte-next.new.out = rw b c.byte-next.ensures in
    let w = front-next _ (little_endian a.size a.n) _ at._i _ _ _ _ (rw (length-little_endian a.size a.n) more) at.invariant.0 wrote in
    (w, left-next a.size a.n at._i at.rest more at.invariant.1, w.size)

pub shape_of-out : goal.shape_of-out
shape_of-out c = c.loop-i.invariant.2

pub returns : goal.returns
returns c =
    let a = c.args in
    let at = c.loop-i in
    front-end _ (little_endian a.size a.n) _ at._i _ _ (rw (length-little_endian a.size a.n) (omega arith)) at.invariant.0
