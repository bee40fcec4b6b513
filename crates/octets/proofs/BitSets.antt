-- Laws of sets in many words.
-- Assumes nothing.
use mathlib.Core.Path.{◌≡◌, refl, sym, ◌∙◌}
use mathlib.Core.Bool.{Bool, true, false, cond, ◌&&◌, ◌||◌}
use mathlib.Core.List.{List, [], ◌∷◌}
use Prim.Native.Nat.{ℕ, zero, suc, ◌*◌, ◌/◌, ◌%◌, ◌≤◌, ◌<◌}
use native.Mathlib.Nat.{lt_of_not-le}
use native.Mathlib.Decide.{dec_le, ℕ_discrete}
use native.Mathlib.Omega.{arith}
use lib.ListN.{length, get_or, replicate, length-replicate, length-set}
use lib.Seq.{set_out, get_or-set_same, get_or-set_other}
use lib.Dec.{eqb, ltb}
use borrow.Author.Tests.{eq-eqb, ne_eqb, lt-ltb, le-ltb}
use Rattle.octets.specs.Sets.{with_bit}
use Rattle.octets.specs.BitSets.{has_member, with_member, bit_set_of}
use Rattle.octets.proofs.Sets.{none_has, with-has, with-keeps}

-- ---- the empty set

blank : (w i : ℕ) → ◌≡◌ {A = ℕ} (get_or (replicate w 0) i 0) 0
blank zero i = refl
blank (suc w) zero = refl
blank (suc w) (suc i) = blank w i

pub no_member : (w n : ℕ) → has_member (replicate w 0) n ≡ false
unfolding has_member
no_member w n = rw (blank w (n / 64)) (none_has (n % 64))

-- past the last word there is none
pub none-past : (words : List ℕ) (n : ℕ) → length words ≤ n / 64 → has_member words n ≡ false
unfolding has_member
none-past words n h = rw (past words (n / 64) h) (none_has (n % 64))
  where
    past : (l : List ℕ) (i : ℕ) → length l ≤ i → get_or l i 0 ≡ 0
    past [] i h = refl
    past (x ∷ l) zero h = absurd (omega arith)
    past (x ∷ l) (suc i) h = past l i (omega arith)

-- ---- one number more

-- which there is no word for
pub with-past : (words : List ℕ) (n : ℕ) → length words ≤ n / 64 → with_member words n ≡ words
unfolding with_member
with-past words n h = set_out words (n / 64) _ h

pub with-length : (words : List ℕ) (n : ℕ) → length (with_member words n) ≡ length words
unfolding with_member
with-length words n = length-set words (n / 64) (with_bit (get_or words (n / 64) 0) (n % 64))

module _ (words : List ℕ) (n : ℕ) (room : n / 64 < length words) where
  with-same : has_member (with_member words n) n ≡ true
  unfolding has_member with_member
  with-same = rw (get_or-set_same words (n / 64) (with_bit (get_or words (n / 64) 0) (n % 64)) 0 room) (with-has (get_or words (n / 64) 0) (n % 64))

  with-other : (x : ℕ) → (n ≡ x → ⊥) → has_member (with_member words n) x ≡ has_member words x
  unfolding has_member with_member
  with-other x d = elim (ℕ_discrete (n / 64) (x / 64)) [ yes q ↦ here q | no q ↦ there q ]
    where
      here : n / 64 ≡ x / 64 → has_member (with_member words n) x ≡ has_member words x
      here q =
          rw (← q, get_or-set_same words (n / 64) (with_bit (get_or words (n / 64) 0) (n % 64)) 0 room)
          (with-keeps (get_or words (n / 64) 0) (n % 64) (x % 64) (λ k. d (omega (arith, q, k))))

      there : (n / 64 ≡ x / 64 → ⊥) → has_member (with_member words n) x ≡ has_member words x
      there q = rw (get_or-set_other words (n / 64) (x / 64) (with_bit (get_or words (n / 64) 0) (n % 64)) 0 (λ k. q (sym k)))

  pub with-member : (x : ℕ) → has_member (with_member words n) x ≡ (eqb n x || has_member words x)
  with-member x = elim (ℕ_discrete n x) [ yes q ↦ rw (← q, eq-eqb n n refl) with-same | no q ↦ rw (ne_eqb n x q) (with-other x q) ]

-- ---- the numbers that pass a test

below_next : (n x : ℕ) → (n ≡ x → ⊥) → ltb x n ≡ ltb x (suc n)
below_next n x d = elim (dec_le n x) [ yes h ↦ le-ltb x n h ∙ sym (le-ltb x (suc n) (past h)) | no h ↦ lt-ltb x n (lt_of_not-le h) ∙ sym (lt-ltb x (suc n) (below h)) ]
  where
    past : n ≤ x → suc n ≤ x
    past h = omega (arith, d)

    below : (n ≤ x → ⊥) → x < suc n
    below h = let l = lt_of_not-le h in omega arith

-- tests that agree below n mark the same
pub bit-set-same : (w : ℕ) (p q : ℕ → Bool) (n : ℕ) → ((x : ℕ) → x < n → p x ≡ q x) → bit_set_of w p n ≡ bit_set_of w q n
unfolding bit_set_of
bit-set-same w p q zero h = refl
bit-set-same w p q (suc n) h = rw (h n (omega arith), bit-set-same w p q n (λ x k. h x (omega arith)))

module _ (w : ℕ) (p : ℕ → Bool) where
  pub bit-set-length : (n : ℕ) → length (bit_set_of w p n) ≡ w
  unfolding bit_set_of
  bit-set-length zero = length-replicate w 0
  bit-set-length (suc n) = go (p n) (bit-set-length n)
    where
      go : (b : Bool) → length (bit_set_of w p n) ≡ w → length (cond b (with_member (bit_set_of w p n) n) (bit_set_of w p n)) ≡ w
      go true h = with-length (bit_set_of w p n) n ∙ h
      go false h = h

  -- each number below n that passes, and no other
  pub bit-set-member : (n : ℕ) → n ≤ 64 * w → (x : ℕ) → has_member (bit_set_of w p n) x ≡ (ltb x n && p x)
  unfolding bit_set_of
  bit-set-member zero h x = no_member w x ∙ rw (le-ltb x 0 (omega arith))
  bit-set-member (suc n) h x =
      let b = bit-set-member n (omega arith) x in
      elim (ℕ_discrete n x) [ yes q ↦ here b (p n) refl q | no q ↦ there b (p n) q ]
    where
      m : List ℕ
      m = bit_set_of w p n

      room : n / 64 < length m
      room = omega (arith, bit-set-length n)

      here : has_member m x ≡ (ltb x n && p x) → (b : Bool) → p n ≡ b → n ≡ x → has_member (cond b (with_member m n) m) x ≡ (ltb x (suc n) && p x)
      here before true e q = rw (← q, lt-ltb n (suc n) (omega arith), e) (with-same m n room)
      here before false e q = before ∙ rw (← q, e, le-ltb n n (omega arith), lt-ltb n (suc n) (omega arith))

      there : has_member m x ≡ (ltb x n && p x) → (b : Bool) → (n ≡ x → ⊥) → has_member (cond b (with_member m n) m) x ≡ (ltb x (suc n) && p x)
      there before true d = with-other m n room x d ∙ before ∙ rw (below_next n x d)
      there before false d = before ∙ rw (below_next n x d)
