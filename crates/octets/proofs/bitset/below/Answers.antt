use mathlib.Core.Path.{◌≡◌, refl, sym, ◌∙◌}
use native.Mathlib.Omega.{arith}
use Rattle.octets.specs.BitSets.{has_member}
use Rattle.octets.specs.Passing.{count_below}
use Rattle.octets.proofs.Passing.{below-few, below_next, below-pass}
use Rattle.octets.proofs.bitset.below.Goals as goal
use Rattle.octets.proofs.bitset.below.Goals.{then-has, else-has}

pub loop-k-init : goal.loop-k-init
unfolding count_below
loop-k-init c = refl

pub overflow_add-count : goal.overflow_add-count
overflow_add-count c =
    let l = c.loop-k in
    omega (arith, l.invariant, below-few (has_member c.args.words.now) l.k)

pub loop-k-preserved : goal.loop-k-preserved
loop-k-preserved c =
    let l = c.loop-k in
    let p = has_member c.args.words.now in
    let is = c.has.ensures in
    elim c.if-has.branch [
      | then-has w ↦ omega (arith, w.count-is, l.invariant, below_next p l.k (sym is ∙ w.if-has.true))
      | else-has w ↦ omega (arith, w.count-is, l.invariant, below-pass p l.k (sym is ∙ w.if-has.false))
    ]

pub returns : goal.returns
returns c =
    let l = c.loop-k in
    let e : l.k ≡ c.args.n = omega arith in
    rw e at l.invariant
