-- Laws of bytes at a place: `drop at s ≡ piece ++ rest` says what stands there, and where the rest starts; and laws of bytes that are all
-- of a kind.
-- Assumes nothing.
use mathlib.Core.Path.{◌≡◌, refl, sym, ap, ◌∙◌}
use mathlib.Core.Bool.{Bool, true, false, cond, true≢false, and-eq-true_iff}
use mathlib.Core.List.{List, [], ◌∷◌, ◌++◌, append-nil}
use Prim.Native.Nat.{ℕ, zero, suc, ◌+◌, ◌-◌, ◌≤◌, ◌<◌}
use native.Mathlib.Nat.{lt_of_not-le}
use native.Mathlib.Decide.{dec_le}
use native.Mathlib.Omega.{arith}
use lib.ListN.{length, take, drop, get_or, length-take, length-drop}
use lib.Seq.{length-take-le, get_or-take, get_or-drop, drop-drop, take_all, take-append_seam, drop-append_seam, take-append-le, drop-append-le}
use lib.Dec.{eqb}
use borrow.Author.Tests.{eq-eqb, ne_eqb}
use Rattle.octets.specs.declared.class.Class.{Class}
use Rattle.octets.specs.declared.class.Class.TheVariants.{Blank}
use Rattle.octets.specs.Classes.{is_blank, of_class}
use Rattle.octets.specs.Runs.{run, are_of, skipped, between}
use Rattle.octets.proofs.Each.{Each}
use Rattle.octets.proofs.Runs.{run-le, run-over, past_end}

-- ---- all of a kind

module _ (k : Class) where
  -- the bytes of a run
  pub run-are : (s : List ℕ) → are_of k (take (run k s) s) ≡ true
  unfolding are_of run
  run-are [] = refl
  run-are (b ∷ s) = go (of_class k b) refl (run-are s)
    where
      go : (t : Bool) → of_class k b ≡ t → are_of k (take (run k s) s) ≡ true → are_of k (take (cond t (suc (run k s)) 0) (b ∷ s)) ≡ true
      go true e h = rw e h
      go false e h = refl

  -- the byte behind a run isn't of its kind
  pub run-stop : (s : List ℕ) → run k s < length s → of_class k (get_or s (run k s) 0) ≡ false
  unfolding run
  run-stop [] h = absurd (omega arith)
  run-stop (b ∷ s) h = go (of_class k b) refl h (run-stop s)
    where
      go : (t : Bool) → of_class k b ≡ t → cond t (suc (run k s)) 0 < suc (length s) → (run k s < length s → of_class k (get_or s (run k s) 0) ≡ false)
          → of_class k (get_or (b ∷ s) (cond t (suc (run k s)) 0) 0) ≡ false
      go true e h r = r (omega arith)
      go false e h r = e

  -- byte by byte
  pub are_all : (s : List ℕ) → are_of k s ≡ true → Each (λ (b : ℕ). of_class k b ≡ true) s
  unfolding are_of
  are_all [] h = tt
  are_all (b ∷ s) h = let t = (and-eq-true_iff (of_class k b) (are_of k s)).0 h in (t.0, are_all s t.1)

  pub all_are : (s : List ℕ) → Each (λ (b : ℕ). of_class k b ≡ true) s → are_of k s ≡ true
  unfolding are_of
  all_are [] h = refl
  all_are (b ∷ s) h = rw h.0 (all_are s h.1)

  pub are-append : (a b : List ℕ) → are_of k a ≡ true → are_of k b ≡ true → are_of k (a ++ b) ≡ true
  unfolding are_of
  are-append [] b h j = j
  are-append (x ∷ a) b h j =
      let t = (and-eq-true_iff (of_class k x) (are_of k a)).0 h in
      rw t.0 (are-append a b t.1 j)

  pub are-take : (n : ℕ) (s : List ℕ) → are_of k s ≡ true → are_of k (take n s) ≡ true
  unfolding are_of
  are-take zero s h = refl
  are-take (suc n) [] h = refl
  are-take (suc n) (b ∷ s) h =
      let t = (and-eq-true_iff (of_class k b) (are_of k s)).0 h in
      rw t.0 (are-take n s t.1)

  pub are-drop : (n : ℕ) (s : List ℕ) → are_of k s ≡ true → are_of k (drop n s) ≡ true
  unfolding are_of
  are-drop zero s h = h
  are-drop (suc n) [] h = refl
  are-drop (suc n) (b ∷ s) h = are-drop n s ((and-eq-true_iff (of_class k b) (are_of k s)).0 h).1

  pub are-between : (s : List ℕ) (a b : ℕ) → are_of k s ≡ true → are_of k (between s a b) ≡ true
  unfolding between
  are-between s a b h = are-take (b - a) (drop a s) (are-drop a s h)

  pub are-each : (s : List ℕ) (i : ℕ) → are_of k s ≡ true → i < length s → of_class k (get_or s i 0) ≡ true
  unfolding are_of
  are-each [] i h j = absurd (omega arith)
  are-each (b ∷ s) zero h j = ((and-eq-true_iff (of_class k b) (are_of k s)).0 h).0
  are-each (b ∷ s) (suc i) h j = are-each s i ((and-eq-true_iff (of_class k b) (are_of k s)).0 h).1 (omega arith)

  -- a run that goes on to the end
  pub run-whole : (s : List ℕ) → eqb (run k s) (length s) ≡ are_of k s
  unfolding run
  run-whole s = go (are_of k s) refl
    where
      go : (t : Bool) → are_of k s ≡ t → eqb (run k s) (length s) ≡ t
      go true e = eq-eqb (run k s) (length s) (omega (arith, rw append-nil at (run-over k s [] (are_all s e))))
      go false e = ne_eqb (run k s) (length s) (λ q. true≢false (sym (rw (take_all (run k s) s (omega (arith, q))) at (run-are s)) ∙ e))

  pub skipped-whole : (s : List ℕ) → eqb (skipped k s 0) (length s) ≡ are_of k s
  unfolding skipped
  skipped-whole s = let e : 0 + run k s ≡ run k s = omega arith in rw e (run-whole s)

  -- the bytes of the run at a place
  skipped-taken : (s : List ℕ) (at : ℕ) → between s at (skipped k s at) ≡ take (run k (drop at s)) (drop at s)
  unfolding between skipped
  skipped-taken s at = let e : at + run k (drop at s) - at ≡ run k (drop at s) = omega arith in rw e

  pub skipped-are : (s : List ℕ) (at : ℕ) → are_of k (between s at (skipped k s at)) ≡ true
  skipped-are s at = rw (skipped-taken s at) (run-are (drop at s))

  pub skipped-size : (s : List ℕ) (at : ℕ) → length (between s at (skipped k s at)) ≡ skipped k s at - at
  unfolding skipped
  skipped-size s at = rw (skipped-taken s at) (omega (arith, length-take-le (run k (drop at s)) (drop at s) (run-le k (drop at s))))

  -- the byte behind the run at a place
  pub skipped-stop : (s : List ℕ) (at : ℕ) → skipped k s at < length s → of_class k (get_or s (skipped k s at) 0) ≡ false
  unfolding skipped
  skipped-stop s at h = rw get_or-drop at (run-stop (drop at s) (omega (arith, length-drop at s)))

  -- nothing is skipped where another kind of byte stands
  pub stops : (b : ℕ) (r : List ℕ) → of_class k b ≡ false → run k (b ∷ r) ≡ 0
  unfolding run
  stops b r e = rw e

  pub not-skipped : (s : List ℕ) (at : ℕ) (rest : List ℕ) → drop at s ≡ rest → run k rest ≡ 0 → skipped k s at ≡ at
  unfolding skipped
  not-skipped s at rest here stop = rw here (omega (arith, stop))

-- the byte at which blanks end, or 0 behind them all
pub blank-end : (s : List ℕ) (at : ℕ) → is_blank (get_or s (skipped Blank s at) 0) ≡ false
unfolding is_blank of_class
blank-end s at = elim (dec_le (length s) (skipped Blank s at)) [ yes h ↦ rw (past_end s (skipped Blank s at) h) | no h ↦ skipped-stop Blank s at (lt_of_not-le h) ]

pub solid-run : (s : List ℕ) → is_blank (get_or s 0 0) ≡ false → run Blank s ≡ 0
unfolding run of_class
solid-run [] e = refl
solid-run (b ∷ s) e = rw e

pub solid-first : (b : ℕ) (s : List ℕ) → run Blank (b ∷ s) ≡ 0 → is_blank b ≡ false
unfolding run of_class
solid-first b s = go (is_blank b)
  where
    go : (t : Bool) → cond t (suc (run Blank s)) 0 ≡ 0 → t ≡ false
    go true e = absurd (omega (arith, e))
    go false e = refl

-- a kind of bytes within another
pub are-so : (j k : Class) → ((b : ℕ) → of_class j b ≡ true → of_class k b ≡ true) → (s : List ℕ) → are_of j s ≡ true → are_of k s ≡ true
unfolding are_of
are-so j k so [] h = refl
are-so j k so (b ∷ s) h =
    let t = (and-eq-true_iff (of_class j b) (are_of j s)).0 h in
    rw (so b t.0) (are-so j k so s t.1)

-- a part has no more bytes than there are, and than it may have
pub between-length : (s : List ℕ) (a b : ℕ) → (length (between s a b) ≤ length s - a) × (length (between s a b) ≤ b - a)
unfolding between
between-length s a b = (omega (arith, length-take (b - a) (drop a s), length-drop a s), omega (arith, length-take (b - a) (drop a s)))

-- the first byte of a part
pub between_first : (s : List ℕ) (a b : ℕ) → a < b → get_or (between s a b) 0 0 ≡ get_or s a 0
unfolding between
between_first s a b h =
    let e : a + 0 ≡ a = omega arith in
    get_or-take (b - a) (drop a s) 0 0 (omega arith) ∙ get_or-drop a s 0 0 ∙ rw e

-- ---- at a place

-- a piece stands at a place, and then the rest
pub record Stands (s : List ℕ) (at : ℕ) (p rest : List ℕ) : Type 0 where
  pub is : drop at s ≡ p ++ rest

module _ {s : List ℕ} {at : ℕ} {p rest : List ℕ} (here : Stands s at p rest) where
  pub drop_past : drop (at + length p) s ≡ rest
  drop_past = sym (drop-drop (length p) at s) ∙ rw here.is (drop-append_seam p rest)

  pub between-here : between s at (at + length p) ≡ p
  unfolding between
  between-here = let e : at + length p - at ≡ length p = omega arith in rw (e, here.is) (take-append_seam p rest)

  pub skipped-here : (k : Class) → are_of k p ≡ true → run k rest ≡ 0 → skipped k s at ≡ at + length p
  unfolding skipped
  skipped-here k h stop = rw here.is (omega (arith, run-over k p rest (are_all k p h), stop))

  -- a part of the piece
  pub between-part : (a b : ℕ) → a ≤ b → b ≤ length p → between s (at + a) (at + b) ≡ between p a b
  unfolding between
  between-part a b h j =
      let e : at + b - (at + a) ≡ b - a = omega arith in
      rw (e, ← drop-drop a at s, here.is, drop-append-le a p rest (omega arith))
      (take-append-le (b - a) (drop a p) rest (omega (arith, length-drop a p)))

module _ {s : List ℕ} {at b : ℕ} {p rest : List ℕ} (here : Stands s at (b ∷ p) rest) where
  pub byte-here : get_or s at 0 ≡ b
  byte-here = ap (λ (i : ℕ). get_or s i 0) (let e : at ≡ at + 0 = omega arith in e) ∙ sym (get_or-drop at s 0 0) ∙ rw here.is

  pub within-here : at < length s
  within-here = omega (arith, length-drop at s, ap length here.is)
