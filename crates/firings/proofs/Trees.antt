-- Laws of a tree of keys: its root is the least leaf, and a leaf that is put sets only its ancestors wrong.
-- Assumes nothing.
use mathlib.Core.Path.{◌≡◌, refl, sym, ap, ◌∙◌}
use mathlib.Core.Bool.{Bool, true, false, cond}
use mathlib.Core.List.{List}
use Prim.Native.Nat.{ℕ, zero, suc, ◌+◌, ◌-◌, ◌*◌, ◌/◌, ◌≤◌, ◌<◌, min}
use native.Mathlib.Nat.{lt_of_not-le, min_comm}
use native.Mathlib.Decide.{dec_le}
use native.Mathlib.Omega.{arith, min_cases}
use lib.ListN.{length, get_or, set, length-set}
use lib.Seq.{get_or-set_same, get_or-set_other}
use lib.Dec.{eqb}
use borrow.Author.Tests.{eqb-true, eqb-false}
use Rattle.firings.specs.Keys.{Tree, leaf, root}

abbrev Node : List ℕ → ℕ → Type 0
Node tree k = get_or tree k 0 ≡ min (get_or tree (2 * k) 0) (get_or tree (2 * k + 1) 0)

-- ---- a leaf is put: only the parent of the node that changed last may be wrong

pub record Updating (before tree : List ℕ) (at : ℕ) : Type 0 where
  pub size : length tree ≡ 1024
  pub some : 1 ≤ at
  pub within : at < 1024
  pub node : (k : ℕ) → 1 ≤ k → k < 512 → (k ≡ at / 2 → ⊥) → Node tree k
  pub leaves : (j : ℕ) → j < 512 → leaf tree j ≡ leaf before j

module _ (tree : List ℕ) (q v : ℕ) where
  -- a node that isn't touched, nor its children
  node_kept : (k : ℕ) → (k ≡ q → ⊥) → (k ≡ q / 2 → ⊥) → Node tree k → Node (set tree q v) k
  node_kept k a b n =
      rw (
        get_or-set_other tree q k v 0 a,
        get_or-set_other tree q (2 * k) v 0 (λ z. b (omega arith)),
        get_or-set_other tree q (2 * k + 1) v 0 (λ z. b (omega arith)),
      ) n

  leaf-kept : (j : ℕ) → q < 512 → leaf (set tree q v) j ≡ leaf tree j
  unfolding leaf
  leaf-kept j h = get_or-set_other tree q (512 + j) v 0 (λ z. omega arith)

module _ (tree : List ℕ) (i key : ℕ) (t : Tree tree) (h : i < 512) where
  pub mend-start : Updating (set tree (512 + i) key) (set tree (512 + i) key) (512 + i)
  mend-start =
      record {
        size = simp length-set t.size;
        some = omega arith;
        within = omega arith;
        node = λ k a b c. node_kept tree (512 + i) key k (λ z. omega arith) c (t.node k a b);
        leaves = λ j k. refl;
      }

  pub leaf-set : key ≡ get_or (set tree (512 + i) key) (512 + i) 0
  leaf-set = sym (get_or-set_same tree (512 + i) key 0 (omega (arith, t.size)))

  pub leaf-put : (j : ℕ) → leaf (set tree (512 + i) key) j ≡ cond (eqb j i) key (leaf tree j)
  unfolding leaf
  leaf-put j = go (eqb j i) refl
    where
      go : (b : Bool) → eqb j i ≡ b → get_or (set tree (512 + i) key) (512 + j) 0 ≡ cond b key (get_or tree (512 + j) 0)
      go true e = rw (eqb-true j i e) (get_or-set_same tree (512 + i) key 0 (omega (arith, t.size)))
      go false e = get_or-set_other tree (512 + i) (512 + j) key 0 (λ z. eqb-false j i e (omega arith))

module _ {before tree : List ℕ} {at : ℕ} where
  pub mend-up : {v : ℕ} → Updating before tree at → 1 < at → v ≡ min (get_or tree (2 * (at / 2)) 0) (get_or tree (2 * (at / 2) + 1) 0)
      → Updating before (set tree (at / 2) v) (at / 2)
  mend-up {v} m h e =
      let w = m.within in
      record {
        size = simp length-set m.size;
        some = omega arith;
        within = omega arith;
        node = node;
        leaves = λ j k. leaf-kept tree (at / 2) v j (omega arith) ∙ m.leaves j k;
      }
    where
      self : Node (set tree (at / 2) v) (at / 2)
      self =
          let w = m.within in
          rw (
            get_or-set_same tree (at / 2) v 0 (omega (arith, m.size)),
            get_or-set_other tree (at / 2) (2 * (at / 2)) v 0 (λ z. omega arith),
            get_or-set_other tree (at / 2) (2 * (at / 2) + 1) v 0 (λ z. omega arith),
          ) e

      node : (k : ℕ) → 1 ≤ k → k < 512 → (k ≡ at / 2 / 2 → ⊥) → Node (set tree (at / 2) v) k
      node k a b c = go (eqb k (at / 2)) refl
        where
          go : (t : Bool) → eqb k (at / 2) ≡ t → Node (set tree (at / 2) v) k
          go true z = rw (eqb-true k (at / 2) z) self
          go false z = node_kept tree (at / 2) v k (eqb-false k (at / 2) z) c (m.node k a b (eqb-false k (at / 2) z))

  -- the node's own key and that of its parent's other child
  pub mend-with : {low v : ℕ} → Updating before tree at → 1 < at → low ≡ get_or tree at 0 → v ≡ min low (get_or tree (4 * (at / 2) + 1 - at) 0)
      → Updating before (set tree (at / 2) v) (at / 2)
  mend-with {low} {v} m h l e = mend-up m h (e ∙ rw l (go (eqb at (2 * (at / 2))) refl))
    where
      odd : (at ≡ 2 * (at / 2) → ⊥) → at ≡ 2 * (at / 2) + 1
      odd d = elim (dec_le at (2 * (at / 2))) [ yes x ↦ absurd (d (omega arith)) | no x ↦ omega (arith, lt_of_not-le x) ]

      pair : (x y : ℕ) → at ≡ x → 4 * (at / 2) + 1 - at ≡ y → min (get_or tree at 0) (get_or tree (4 * (at / 2) + 1 - at) 0) ≡ min (get_or tree x 0) (get_or tree y 0)
      pair x y p q = ap (λ (k : ℕ). min (get_or tree k 0) (get_or tree (4 * (at / 2) + 1 - at) 0)) p ∙ ap (λ (k : ℕ). min (get_or tree x 0) (get_or tree k 0)) q

      go : (b : Bool) → eqb at (2 * (at / 2)) ≡ b
          → min (get_or tree at 0) (get_or tree (4 * (at / 2) + 1 - at) 0) ≡ min (get_or tree (2 * (at / 2)) 0) (get_or tree (2 * (at / 2) + 1) 0)
      go true z = let i = eqb-true at (2 * (at / 2)) z in pair (2 * (at / 2)) (2 * (at / 2) + 1) i (omega arith)
      go false z =
          let i = odd (eqb-false at (2 * (at / 2)) z) in
          pair (2 * (at / 2) + 1) (2 * (at / 2)) i (omega arith) ∙ min_comm (get_or tree (2 * (at / 2) + 1) 0) (get_or tree (2 * (at / 2)) 0)

  pub mend-low : {v : ℕ} → Updating before tree at → 1 < at → v ≡ get_or (set tree (at / 2) v) (at / 2) 0
  mend-low {v} m h = let w = m.within in sym (get_or-set_same tree (at / 2) v 0 (omega (arith, m.size)))

  -- at the root nothing is wrong
  pub mended : Updating before tree at → at ≤ 1 → Tree tree
  mended m h = record { size = m.size; node = λ k a b. m.node k a b (λ z. omega arith) }

-- ---- the root

module _ (tree : List ℕ) (t : Tree tree) where
  -- no node is below its parent
  parent : (k : ℕ) → 2 ≤ k → k < 1024 → get_or tree (k / 2) 0 ≤ get_or tree k 0
  parent k l b = go (eqb k (2 * (k / 2))) refl
    where
      odd : (k ≡ 2 * (k / 2) → ⊥) → k ≡ 2 * (k / 2) + 1
      odd d = elim (dec_le k (2 * (k / 2))) [ yes x ↦ absurd (d (omega arith)) | no x ↦ omega (arith, lt_of_not-le x) ]

      go : (b : Bool) → eqb k (2 * (k / 2)) ≡ b → get_or tree (k / 2) 0 ≤ get_or tree k 0
      go true z =
          let i : get_or tree k 0 ≡ get_or tree (2 * (k / 2)) 0 = ap (λ (x : ℕ). get_or tree x 0) (eqb-true k (2 * (k / 2)) z) in
          omega (arith, t.node (k / 2) (omega arith) (omega arith))
      go false z =
          let i : get_or tree k 0 ≡ get_or tree (2 * (k / 2) + 1) 0 = ap (λ (x : ℕ). get_or tree x 0) (odd (eqb-false k (2 * (k / 2)) z)) in
          omega (arith, t.node (k / 2) (omega arith) (omega arith))

  -- nor below the root
  above : (n k : ℕ) → k ≤ n → 1 ≤ k → k < 1024 → root tree ≤ get_or tree k 0
  above zero k h a b = absurd (omega arith)
  above (suc n) k h a b =
      elim (dec_le 2 k) [
        | yes l ↦ let p = above n (k / 2) (omega arith) (omega arith) (omega arith) in omega (arith, parent k l b)
        | no l ↦ first (lt_of_not-le l)
      ]
    where
      first : k < 2 → get_or tree 1 0 ≤ get_or tree k 0
      first l = let e : k ≡ 1 = omega arith in rw e (omega arith)

  pub root-low : (i : ℕ) → i < 512 → root tree ≤ leaf tree i
  unfolding leaf
  root-low i h = above 1024 (512 + i) (omega arith) (omega arith) (omega arith)

  -- each node is a leaf's
  down : (n k : ℕ) → 1024 ≤ n + k → 1 ≤ k → k < 1024 → (i : ℕ) × (i < 512) × (leaf tree i ≡ get_or tree k 0)
  unfolding leaf
  down zero k h a b = absurd (omega arith)
  down (suc n) k h a b =
      elim (dec_le 512 k) [
        | yes l ↦ at_leaf l
        | no l ↦
            min_cases (get_or tree (2 * k) 0) (get_or tree (2 * k + 1) 0) ((i : ℕ) × (i < 512) × (get_or tree (512 + i) 0 ≡ get_or tree k 0))
            (λ _ e. let m = lt_of_not-le l in let (i, p, q) = down n (2 * k) (omega arith) (omega arith) (omega arith) in (i, p, q ∙ sym (t.node k a m ∙ e)))
            (λ _ e. let m = lt_of_not-le l in let (i, p, q) = down n (2 * k + 1) (omega arith) (omega arith) (omega arith) in (i, p, q ∙ sym (t.node k a m ∙ e)))
      ]
    where
      at_leaf : 512 ≤ k → (i : ℕ) × (i < 512) × (get_or tree (512 + i) 0 ≡ get_or tree k 0)
      at_leaf l = let e : 512 + (k - 512) ≡ k = omega arith in (k - 512, omega arith, ap (λ (x : ℕ). get_or tree x 0) e)

  pub root-leaf : (i : ℕ) × (i < 512) × (leaf tree i ≡ root tree)
  root-leaf = down 1024 1 (omega arith) (omega arith) (omega arith)
