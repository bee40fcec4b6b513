-- Laws of two sets laid over each other.
-- Assumes nothing.
use mathlib.Core.Path.{◌≡◌, refl, ap, ◌∙◌}
use mathlib.Core.Bool.{◌&&◌, ◌||◌}
use Prim.Native.Nat.{ℕ, zero, suc, ◌/◌, ◌%◌, ◌^◌, ◌<◌}
use native.Mathlib.Omega.{arith}
use lib.Bits.{bit_and, bit_or, and_shr, or_shr, and_mod, or_mod}
use lib.Dec.{eqb}
use Rattle.octets.specs.Sets.{has_bit}

-- one bit of each
both_bits : (x y : ℕ) → x < 2 → y < 2 → (eqb (bit_and x y) 1 ≡ (eqb x 1 && eqb y 1)) × (eqb (bit_or x y) 1 ≡ (eqb x 1 || eqb y 1))
both_bits zero zero h k = (refl, refl)
both_bits zero (suc zero) h k = (refl, refl)
both_bits (suc zero) zero h k = (refl, refl)
both_bits (suc zero) (suc zero) h k = (refl, refl)
both_bits zero (suc (suc y)) h k = absurd (omega arith)
both_bits (suc zero) (suc (suc y)) h k = absurd (omega arith)
both_bits (suc (suc x)) y h k = absurd (omega arith)

module _ (a b n : ℕ) where
  bits : (eqb (bit_and (a / 2 ^ n % 2) (b / 2 ^ n % 2)) 1 ≡ (has_bit a n && has_bit b n)) × (eqb (bit_or (a / 2 ^ n % 2) (b / 2 ^ n % 2)) 1 ≡ (has_bit a n || has_bit b n))
  unfolding has_bit
  bits = both_bits (a / 2 ^ n % 2) (b / 2 ^ n % 2) (omega arith) (omega arith)

  -- what both have, and what either has
  pub and-has : has_bit (bit_and a b) n ≡ (has_bit a n && has_bit b n)
  unfolding has_bit
  and-has = ap (λ (x : ℕ). eqb x 1) (ap (λ (x : ℕ). x % 2) (and_shr a b n) ∙ and_mod (a / 2 ^ n) (b / 2 ^ n) 1) ∙ bits.0

  pub or-has : has_bit (bit_or a b) n ≡ (has_bit a n || has_bit b n)
  unfolding has_bit
  or-has = ap (λ (x : ℕ). eqb x 1) (ap (λ (x : ℕ). x % 2) (or_shr a b n) ∙ or_mod (a / 2 ^ n) (b / 2 ^ n) 1) ∙ bits.1
