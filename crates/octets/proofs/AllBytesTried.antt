-- That a row over all bytes says what it seems to: what becomes of each byte is what its ranges say, and no byte is left out.
-- Assumes nothing.
use mathlib.Core.Path.{◌≡◌, refl}
use mathlib.Core.Bool.{Bool, true, false, cond}
use mathlib.Core.List.{List, [], ◌∷◌, ◌++◌, map}
use mathlib.Core.Logic.{◌⊎◌, inl, inr}
use Prim.Native.Nat.{ℕ, zero, suc, ◌+◌, ◌-◌, ◌≤◌, ◌<◌}
use native.Mathlib.Omega.{arith}
use native.Mathlib.Nat.{lt_of_not-le}
use native.Mathlib.Decide.{dec_le}
use Rattle.octets.specs.Sets.{from_on, up_to}
use Rattle.octets.specs.AllBytes.{Range, outcome_of, line_bytes, LeadAmong, Lead, with_byte, bytes_where, passing_at, trying}

-- one of some bytes
abbrev pub Among : ℕ → List ℕ → Type 0
Among b [] = ⊥
Among b (x ∷ s) = (b ≡ x) ⊎ Among b s

module _ {B : Type 0} (f : ℕ → B) (ranges : List (Range B)) (other : ℕ → B) where
  pub among-exact : (s : List ℕ) → LeadAmong s f ranges other → (b : ℕ) → Among b s → f b ≡ outcome_of ranges other b
  among-exact [] e b h = absurd h
  among-exact (x ∷ s) e b (inl q) = let p : f x ≡ outcome_of ranges other x = cc in rw q p
  among-exact (x ∷ s) e b (inr h) = let p : map f s ≡ map (outcome_of ranges other) s = cc in among-exact s p b h

-- ---- the bytes of a row

from-among : (count n b : ℕ) → n ≤ b → b < n + count → Among b (from_on n count)
unfolding from_on
from-among zero n b h k = absurd (omega arith)
from-among (suc count) n b h k = elim (dec_le b n) [ yes i ↦ inl (omega arith) | no i ↦ let j = lt_of_not-le i in inr (from-among count (suc n) b (omega (arith, j)) (omega arith)) ]

up-among : (first last b : ℕ) → first ≤ b → b ≤ last → Among b (up_to first last)
unfolding up_to
up-among first last b h k = from-among (suc last - first) first b h (omega arith)

among-front : (b : ℕ) (s t : List ℕ) → Among b s → Among b (s ++ t)
among-front b [] t h = absurd h
among-front b (x ∷ s) t (inl q) = inl q
among-front b (x ∷ s) t (inr h) = inr (among-front b s t h)

among-back : (b : ℕ) (s t : List ℕ) → Among b t → Among b (s ++ t)
among-back b [] t h = h
among-back b (x ∷ s) t h = inr (among-back b s t h)

line-among : (b : ℕ) → b < 256 → (b ≡ 10 → ⊥) → Among b line_bytes
unfolding line_bytes
line-among b h n = elim (dec_le b 9) [ yes i ↦ among-front b (up_to 0 9) (up_to 11 255) (up-among 0 9 b (omega arith) i) | no i ↦ among-back b (up_to 0 9) (up_to 11 255) (up-among 11 255 b (far (lt_of_not-le i)) (omega arith)) ]
  where
    far : 9 < b → 11 ≤ b
    far j = elim (dec_le 11 b) [ yes k ↦ k | no k ↦ let m = lt_of_not-le k in let e : b ≡ 10 = omega (arith, m) in absurd (n e) ]

module _ {B : Type 0} (f : ℕ → B) (ranges : List (Range B)) (other : ℕ → B) where
  -- each of the 256 bytes
  pub lead-exact : Lead f ranges other → (b : ℕ) → b < 256 → f b ≡ outcome_of ranges other b
  lead-exact e b h = among-exact f ranges other (up_to 0 255) e b (up-among 0 255 b (omega arith) (omega arith))

  -- each but newline
  pub line-exact : LeadAmong line_bytes f ranges other → (b : ℕ) → b < 256 → (b ≡ 10 → ⊥) → f b ≡ outcome_of ranges other b
  line-exact e b h n = among-exact f ranges other line_bytes e b (line-among b h n)

-- ---- a text that a byte is changed in

module _ (p : ℕ → Bool) where
  -- the bytes that pass, and no others
  pub where-passes : (s : List ℕ) (b : ℕ) → Among b (bytes_where p s) → (p b ≡ true) × Among b s
  unfolding bytes_where
  where-passes [] b h = absurd h
  where-passes (x ∷ s) b h = go (p x) refl h (where-passes s b)
    where
      go : (t : Bool) → p x ≡ t → Among b (cond t (x ∷ bytes_where p s) (bytes_where p s)) → (Among b (bytes_where p s) → (p b ≡ true) × Among b s)
          → (p b ≡ true) × Among b (x ∷ s)
      go true e (inl q) later = (rw q e, inl q)
      go true e (inr k) later = let r = later k in (r.0, inr r.1)
      go false e k later = let r = later k in (r.0, inr r.1)

  pub where-has : (s : List ℕ) (b : ℕ) → p b ≡ true → Among b s → Among b (bytes_where p s)
  unfolding bytes_where
  where-has [] b e h = absurd h
  where-has (x ∷ s) b e (inl q) = let r : p x ≡ true = rw q at e in rw r (inl q)
  where-has (x ∷ s) b e (inr h) = go (p x) (where-has s b e h)
    where
      go : (t : Bool) → Among b (bytes_where p s) → Among b (cond t (x ∷ bytes_where p s) (bytes_where p s))
      go true k = inr k
      go false k = k

-- each place in turn, with each of the 256 bytes
pub each-place : (p : List ℕ → Bool) (s : List ℕ) (at n : ℕ) → passing_at p s at (suc n) ≡ bytes_where (λ b. p (with_byte s at b)) (from_on 0 256) ∷ passing_at p s (suc at) n
unfolding passing_at up_to
each-place p s at n = refl

-- a byte passes at a place exactly if the text with it there does
pub passing-exact : (p : List ℕ → Bool) (s : List ℕ) (at b : ℕ) → b < 256
    → let those = bytes_where (λ c. p (with_byte s at c)) (up_to 0 255) in (p (with_byte s at b) ≡ true → Among b those) × (Among b those → p (with_byte s at b) ≡ true)
passing-exact p s at b h = (
  (λ e. where-has (λ c. p (with_byte s at c)) (up_to 0 255) b e (up-among 0 255 b (omega arith) (omega arith))),
  (λ k. (where-passes (λ c. p (with_byte s at c)) (up_to 0 255) b k).0),
)

-- all of them, where all pass; at one place, and at two
all-passing : (passing_at (λ s. true) (0 ∷ []) 0 1 ≡ from_on 0 256 ∷ []) × (passing_at (λ s. true) (0 ∷ 0 ∷ []) 0 2 ≡ from_on 0 256 ∷ from_on 0 256 ∷ [])
unfolding trying
all-passing = (refl, refl)

-- the byte stands in its place, and the others stay
with_byte_lem : (with_byte (7 ∷ 8 ∷ 9 ∷ []) 0 1 ≡ 1 ∷ 8 ∷ 9 ∷ []) × (with_byte (7 ∷ 8 ∷ 9 ∷ []) 2 1 ≡ 7 ∷ 8 ∷ 1 ∷ []) × (with_byte (7 ∷ 8 ∷ 9 ∷ []) 3 1 ≡ 7 ∷ 8 ∷ 9 ∷ [])
unfolding trying
with_byte_lem = (refl, refl, refl)
