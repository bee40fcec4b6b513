-- Laws of runs of bytes, byte by byte.
-- Assumes nothing.
use mathlib.Core.Path.{◌≡◌, refl, sym, ◌∙◌}
use mathlib.Core.Bool.{Bool, true, false, cond, not, ◌&&◌, ◌||◌, false≢true}
use mathlib.Core.List.{List, [], ◌∷◌, ◌++◌}
use Prim.Native.Nat.{ℕ, zero, suc, ◌+◌, ◌-◌, ◌≤◌, ◌<◌}
use native.Mathlib.Nat.{add-zero, lt_of_not-le}
use native.Mathlib.Decide.{dec_le}
use native.Mathlib.Numerals.{add-one}
use native.Mathlib.Omega.{arith}
use lib.ListN.{length, take, drop, get_or, length-drop, drop_of_length-le}
use lib.Seq.{drop-cons, drop-drop, take-suc, take_all, get_or-drop, length-take-le}
use lib.Dec.{eqb}
use borrow.Author.Tests.{ne_eqb}
use Rattle.octets.specs.declared.class.Class.{Class}
use Rattle.octets.specs.declared.class.Class.TheVariants.{Not, InLine}
use Rattle.octets.specs.Classes.{is_blank, is_quote, is_control, of_class}
use Rattle.octets.specs.Runs.{run, skipped, trimmed, between}
use Rattle.octets.proofs.Each.{Each}

module _ (k : Class) where
  pub run-le : (s : List ℕ) → run k s ≤ length s
  unfolding run
  run-le [] = omega arith
  run-le (b ∷ s) = go (of_class k b) (run-le s)
    where
      go : (t : Bool) → run k s ≤ length s → cond t (suc (run k s)) 0 ≤ suc (length s)
      go true h = omega arith
      go false h = omega arith

  -- bytes of the kind, and what stands behind them
  pub run-over : (s t : List ℕ) → Each (λ (b : ℕ). of_class k b ≡ true) s → run k (s ++ t) ≡ length s + run k t
  unfolding run
  run-over [] t h = omega arith
  run-over (b ∷ s) t h = rw h.0 (omega (arith, run-over s t h.1))

  module _ (s : List ℕ) where
    pub skipped-from : (at : ℕ) → at ≤ skipped k s at
    unfolding skipped
    skipped-from at = omega arith

    pub skipped-within : (at : ℕ) → at ≤ length s → skipped k s at ≤ length s
    unfolding skipped
    skipped-within at h = omega (arith, run-le (drop at s), length-drop at s)

    pub skipped-in : (at : ℕ) → at < length s → of_class k (get_or s at 0) ≡ true → skipped k s at ≡ skipped k s (at + 1)
    unfolding skipped run
    skipped-in at h e = rw (drop-cons s at 0 h, e, add-one at) (omega arith)

    pub skipped-other : (at : ℕ) → at < length s → of_class k (get_or s at 0) ≡ false → skipped k s at ≡ at
    unfolding skipped run
    skipped-other at h e = rw (drop-cons s at 0 h, e, add-zero at)

    pub skipped-end : (at : ℕ) → length s ≤ at → skipped k s at ≡ at
    unfolding skipped
    skipped-end at h = omega (arith, run-le (drop at s), length-drop at s)

-- ---- a run of one kind within that of a wider kind

module _ (k m : Class) (wider : (b : ℕ) → of_class k b ≡ true → of_class m b ≡ true) where
  run_past : (s : List ℕ) → run m s ≡ run k s + run m (drop (run k s) s)
  unfolding run
  run_past [] = refl
  run_past (b ∷ s) = go (of_class k b) refl (run_past s)
    where
      go : (t : Bool) → of_class k b ≡ t → run m s ≡ run k s + run m (drop (run k s) s)
          → run m (b ∷ s) ≡ cond t (suc (run k s)) 0 + run m (drop (cond t (suc (run k s)) 0) (b ∷ s))
      go true e h = rw (wider b e) (omega arith)
      go false e h = omega arith

  -- the wider one goes on where the other ends
  pub skipped-past : (s : List ℕ) (at : ℕ) → skipped m s (skipped k s at) ≡ skipped m s at
  unfolding skipped
  skipped-past s at = rw (← drop-drop (run k (drop at s)) at s) (omega (arith, run_past (drop at s)))

  -- the other ends within the wider one
  pub run-taken : (s : List ℕ) → run k s ≡ run k (take (run m s) s)
  unfolding run
  run-taken [] = refl
  run-taken (b ∷ s) = go (of_class k b) (of_class m b) refl refl (run-taken s)
    where
      go : (t u : Bool) → of_class k b ≡ t → of_class m b ≡ u → run k s ≡ run k (take (run m s) s)
          → cond t (suc (run k s)) 0 ≡ run k (take (cond u (suc (run m s)) 0) (b ∷ s))
      go true true e f h = rw (e, h)
      go true false e f h = absurd (false≢true (sym f ∙ wider b e))
      go false true e f h = rw e
      go false false e f h = refl

-- what a line may have is no newline and no byte 0
pub no-newline : (b : ℕ) → of_class InLine b ≡ true → of_class (Not 10) b ≡ true
unfolding of_class
no-newline b e = go (eqb b 10) (eqb b 0 || is_control b) e
  where
    go : (x y : Bool) → not (x || y) ≡ true → not x ≡ true
    go false y e = refl
    go true y e = absurd (false≢true e)

pub no_nul : (b : ℕ) → of_class InLine b ≡ true → of_class (Not 0) b ≡ true
unfolding of_class
no_nul b e = go (eqb b 10) (eqb b 0) (is_control b) e
  where
    go : (x y z : Bool) → not (x || (y || z)) ≡ true → not y ≡ true
    go true y z e = absurd (false≢true e)
    go false true z e = absurd (false≢true e)
    go false false z e = refl

-- a place that a search from within found, and that isn't the end
pub before-end : {from n r : ℕ} → from ≤ n → r ≤ from + (n - from) → (r ≡ n → ⊥) → r < n
before-end h k d = omega (arith, d)

pub past_end : (s : List ℕ) (at : ℕ) → length s ≤ at → get_or s at 0 ≡ 0
past_end [] at h = refl
past_end (b ∷ s) zero h = absurd (omega arith)
past_end (b ∷ s) (suc at) h = past_end s at (omega arith)

-- a byte that isn't 0 stands within
pub byte-within : (s : List ℕ) (at : ℕ) → 0 < get_or s at 0 → at < length s
byte-within [] at h = absurd (omega arith)
byte-within (b ∷ s) zero h = omega arith
byte-within (b ∷ s) (suc at) h = let k = byte-within s at h in omega arith

pub quote-within : (s : List ℕ) (at : ℕ) → is_quote (get_or s at 0) ≡ true → at < length s
unfolding is_quote
quote-within s at e =
    elim (dec_le (length s) at) [ yes h ↦ absurd (false≢true (rw (past_end s at h) at e)) | no h ↦ lt_of_not-le h ]

-- ---- blanks at the end

snoc-blank : (s : List ℕ) (b : ℕ) → is_blank b ≡ true → trimmed (s ++ b ∷ []) ≡ trimmed s
unfolding trimmed
snoc-blank [] b e = rw e
snoc-blank (x ∷ s) b e = rw (snoc-blank s b e)

snoc-other : (s : List ℕ) (b : ℕ) → is_blank b ≡ false → trimmed (s ++ b ∷ []) ≡ suc (length s)
unfolding trimmed
snoc-other [] b e = rw e
snoc-other (x ∷ s) b e = rw (snoc-other s b e) (go (is_blank x))
  where
    go : (t : Bool) → cond (t && eqb (suc (length s)) 0) 0 (suc (suc (length s))) ≡ suc (suc (length s))
    go true = rw (ne_eqb (suc (length s)) 0 (λ e. omega (arith, e)))
    go false = refl

pub trimmed-le : (s : List ℕ) → trimmed s ≤ length s
unfolding trimmed
trimmed-le [] = omega arith
trimmed-le (b ∷ s) = go (is_blank b && eqb (trimmed s) 0) (trimmed-le s)
  where
    go : (t : Bool) → trimmed s ≤ length s → cond t 0 (suc (trimmed s)) ≤ suc (length s)
    go true h = omega arith
    go false h = omega arith

-- blanks at the end are all gone
pub trimmed-again : (s : List ℕ) → trimmed (take (trimmed s) s) ≡ trimmed s
unfolding trimmed
trimmed-again [] = refl
trimmed-again (b ∷ s) = go (is_blank b && eqb (trimmed s) 0) refl (trimmed-again s)
  where
    go : (t : Bool) → (is_blank b && eqb (trimmed s) 0) ≡ t → trimmed (take (trimmed s) s) ≡ trimmed s
        → trimmed (take (cond t 0 (suc (trimmed s))) (b ∷ s)) ≡ cond t 0 (suc (trimmed s))
    go true e h = refl
    go false e h = rw (h, e)

module _ (s : List ℕ) (from : ℕ) where
  pub trimmed-none : length s ≤ from → trimmed (drop from s) ≡ 0
  unfolding trimmed
  trimmed-none h = rw (drop_of_length-le s h)

  pub trimmed-whole : between s from (length s) ≡ drop from s
  unfolding between
  trimmed-whole = take_all (length s - from) (drop from s) (omega (arith, length-drop from s))

  pub trimmed-empty : (end : ℕ) → end ≤ from → trimmed (between s from end) ≡ 0
  unfolding trimmed between
  trimmed-empty end h = let e : end - from ≡ 0 = omega arith in rw e

  module _ (end : ℕ) (inside : from < end) (within : end ≤ length s) where
    last : between s from end ≡ between s from (end - 1) ++ get_or s (end - 1) 0 ∷ []
    unfolding between
    last =
        let e : suc (end - 1 - from) ≡ end - from = omega arith in
        let i : from + (end - 1 - from) ≡ end - 1 = omega arith in
        rw (← e) (take-suc (drop from s) (end - 1 - from) 0 (omega (arith, length-drop from s)) ∙ rw (get_or-drop from s (end - 1 - from) 0, i))

    pub trimmed-blank : is_blank (get_or s (end - 1) 0) ≡ true → trimmed (between s from end) ≡ trimmed (between s from (end - 1))
    trimmed-blank e = rw last (snoc-blank _ _ e)

    pub trimmed-other : is_blank (get_or s (end - 1) 0) ≡ false → trimmed (between s from end) ≡ end - from
    unfolding between
    trimmed-other e =
        let l = length-take-le (end - 1 - from) (drop from s) (omega (arith, length-drop from s)) in
        let o = snoc-other (take (end - 1 - from) (drop from s)) (get_or s (end - 1) 0) e in
        rw last (omega (arith, l, o))
