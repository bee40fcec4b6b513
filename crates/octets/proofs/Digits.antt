-- Laws of numbers in decimal digits.
-- Assumes nothing.
use mathlib.Core.Path.{◌≡◌, refl}
use mathlib.Core.Bool.{Bool, true, false, cond}
use mathlib.Core.List.{[], ◌∷◌}
use Prim.Native.Nat.{ℕ, ◌/◌, ◌%◌, ◌≤◌, ◌<◌}
use native.Mathlib.Omega.{arith}
use lib.Dec.{ltb}
use lib.ListN.{length}
use borrow.Author.Tests.{ltb-true, lt-ltb, le-ltb}
use Rattle.octets.specs.Digits.{digit, number_text}
use Rattle.octets.proofs.Each.{Each}

module _ (n : ℕ) where
  pub one-digit : n < 10 → number_text n ≡ digit n ∷ []
  unfolding number_text
  one-digit h = rw (lt-ltb n 10 h)

  pub two_digits : 10 ≤ n → number_text n ≡ digit (n / 10) ∷ digit (n % 10) ∷ []
  unfolding number_text
  two_digits h = rw (le-ltb n 10 h)

  pub number-some : 1 ≤ length (number_text n)
  unfolding number_text
  number-some = go (ltb n 10)
    where
      go : (t : Bool) → 1 ≤ length (cond t (digit n ∷ []) (digit (n / 10) ∷ digit (n % 10) ∷ []))
      go true = omega arith
      go false = omega arith

  pub number_short : length (number_text n) ≤ 2
  unfolding number_text
  number_short = go (ltb n 10)
    where
      go : (t : Bool) → length (cond t (digit n ∷ []) (digit (n / 10) ∷ digit (n % 10) ∷ [])) ≤ 2
      go true = omega arith
      go false = omega arith

  -- its bytes are digits
  pub number-bytes : n < 100 → Each (λ (b : ℕ). (48 ≤ b) × (b ≤ 57)) (number_text n)
  unfolding number_text
  number-bytes h = go (ltb n 10) refl
    where
      go : (t : Bool) → ltb n 10 ≡ t → Each (λ (b : ℕ). (48 ≤ b) × (b ≤ 57)) (cond t (digit n ∷ []) (digit (n / 10) ∷ digit (n % 10) ∷ []))
      go true e = let k = ltb-true n 10 e in ((omega arith, omega arith), tt)
      go false e = ((omega arith, omega arith), ((omega arith, omega arith), tt))
