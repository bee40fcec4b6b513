use mathlib.Core.Path.{◌≡◌, refl, sym, ◌∙◌}
use native.Mathlib.Omega.{arith}
use Rattle.octets.specs.BitSets.{has_member}
use Rattle.octets.specs.Passing.{count_below, is_ranked}
use Rattle.octets.proofs.Search.{from-stop, from_next, from_past}
use Rattle.octets.proofs.Passing.{below-few, below_next, below-pass, ranked-here, ranked-other, ranked-out}
use Rattle.octets.proofs.bitset.ranked.Goals as goal
use Rattle.octets.proofs.bitset.ranked.Goals.{then-has+else-seen-rank, else-has}

pub loop-k-init : goal.loop-k-init
unfolding count_below
loop-k-init c = (refl, refl)

pub returns-then-seen-rank : goal.returns-then-seen-rank
returns-then-seen-rank c =
    let l = c.loop-k in
    let a = c.args in
    let p = has_member a.words.now in
    let here = ranked-here p a.rank l.k (sym c.has.ensures ∙ c.if-has.true) (sym l.invariant.0 ∙ c.if-seen-rank.true) in
    from-stop (is_ranked p a.rank) a.n l.k (omega arith) here ∙ l.invariant.1

pub overflow_add-seen : goal.overflow_add-seen
overflow_add-seen c =
    let l = c.loop-k in
    omega (arith, l.invariant.0, below-few (has_member c.args.words.now) l.k)

pub loop-k-preserved : goal.loop-k-preserved
loop-k-preserved c =
    let l = c.loop-k in
    let a = c.args in
    let p = has_member a.words.now in
    let is = c.has.ensures in
    elim c.if-has.branch [
      | then-has+else-seen-rank w ↦ (
        omega (arith, w.seen-is, l.invariant.0, below_next p l.k (sym is ∙ w.if-has.true)),
        from_next (is_ranked p a.rank) a.n l.k (omega arith) (ranked-other p a.rank l.k (λ q. w.if-seen-rank.false (l.invariant.0 ∙ q))) ∙ l.invariant.1,
      )
      | else-has w ↦ (
        omega (arith, w.seen-is, l.invariant.0, below-pass p l.k (sym is ∙ w.if-has.false)),
        from_next (is_ranked p a.rank) a.n l.k (omega arith) (ranked-out p a.rank l.k (sym is ∙ w.if-has.false)) ∙ l.invariant.1,
      )
    ]

pub returns : goal.returns
returns c =
    let l = c.loop-k in
    let a = c.args in
    let e : l.k ≡ a.n = omega arith in
    from_past (is_ranked (has_member a.words.now) a.rank) a.n a.n (omega arith) ∙ (rw e at l.invariant.1)
