-- Laws of sets of bits, over the width.
-- Assumes nothing.
use mathlib.Core.Path.{◌≡◌, refl, sym, ap, ◌∙◌}
use mathlib.Core.Bool.{Bool, true, false, true≢false}
use Prim.Native.Nat.{ℕ, zero, suc, ◌+◌, ◌-◌, ◌/◌, ◌%◌, ◌^◌, ◌≤◌, ◌<◌}
use native.Mathlib.Nat.{div-eq_of_lt, div_self, lt_of_not-le, lt_of_lt_of_le, zero-div, pow-succ'}
use native.Mathlib.Decide.{dec_le}
use native.Mathlib.Omega.{arith}
use lib.Bits.{bit_or, or_lt, or_shr, or_mod, or_zero_r, shifted_even}
use lib.Pow.{pow_pos, pow_mono, pow-lt, pow-add, shl-shr, shr-shr}
use lib.Dec.{eqb}
use borrow.Author.Tests.{eqb-true, eqb-false}
use Rattle.octets.specs.Sets.{has_bit, with_bit}

-- the empty set
pub none_has : (n : ℕ) → has_bit 0 n ≡ false
unfolding has_bit
none_has n = rw (zero-div (2 ^ n))

-- a set of width w has no value from w on
pub has-below : (w : ℕ) {set n : ℕ} → set < 2 ^ w → w ≤ n → has_bit set n ≡ false
unfolding has_bit
has-below w {set} {n} h k = rw (div-eq_of_lt (lt_of_lt_of_le h (pow_mono k)))

-- the bits of a power of two
power-same : (n : ℕ) → 2 ^ n / 2 ^ n % 2 ≡ 1
power-same n = rw (div_self (pow_pos n))

power_below : {n k : ℕ} → n < k → 2 ^ n / 2 ^ k % 2 ≡ 0
power_below h = rw (div-eq_of_lt (pow-lt h))

power-above : {n k : ℕ} → k < n → 2 ^ n / 2 ^ k % 2 ≡ 0
power-above {n} {k} h =
    let e : n ≡ suc (n - suc k) + k = omega arith in
    let d : 2 ^ n / 2 ^ k ≡ 2 ^ suc (n - suc k) =
    ap (λ (x : ℕ). 2 ^ x / 2 ^ k) e ∙ ap (λ (x : ℕ). x / 2 ^ k) (pow-add 2 (suc (n - suc k)) k) ∙ shl-shr (2 ^ suc (n - suc k)) k
    in
    rw d (omega (arith, shifted_even 1 (n - suc k)))

or-bit : (set t k : ℕ) → bit_or set t / 2 ^ k % 2 ≡ bit_or (set / 2 ^ k % 2) (t / 2 ^ k % 2)
or-bit set t k = ap (λ (x : ℕ). x % 2) (or_shr set t k) ∙ or_mod (set / 2 ^ k) (t / 2 ^ k) 1

-- what is put in is there, and nothing else changes
pub with-has : (set n : ℕ) → has_bit (with_bit set n) n ≡ true
unfolding has_bit with_bit
with-has set n = rw (or-bit set (2 ^ n) n, power-same n) (go (set / 2 ^ n % 2) (omega arith))
  where
    go : (x : ℕ) → x < 2 → eqb (bit_or x 1) 1 ≡ true
    go zero h = refl
    go (suc zero) h = refl
    go (suc (suc x)) h = absurd (omega arith)

pub with-keeps : (set n k : ℕ) → (n ≡ k → ⊥) → has_bit (with_bit set n) k ≡ has_bit set k
unfolding has_bit with_bit
with-keeps set n k d = rw (or-bit set (2 ^ n) k, other) (rw (or_zero_r (set / 2 ^ k % 2)))
  where
    other : 2 ^ n / 2 ^ k % 2 ≡ 0
    other = elim (dec_le k n) [ yes h ↦ power-above (omega arith) | no h ↦ power_below (lt_of_not-le h) ]

-- a set stays within its width
pub with-fits : (w : ℕ) {set n : ℕ} → set < 2 ^ w → n < w → with_bit set n < 2 ^ w
unfolding with_bit
with-fits w {set} {n} h k = or_lt w set (2 ^ n) h (pow-lt k)

-- ---- two sets with the same values

half-has : (a n : ℕ) → has_bit (a / 2) n ≡ has_bit a (suc n)
unfolding has_bit
half-has a n = let e : 1 + n ≡ suc n = omega arith in ap (λ (x : ℕ). eqb (x % 2) 1) (shr-shr a 1 n ∙ ap (λ (k : ℕ). a / 2 ^ k) e)

same-odd : (a b : ℕ) → has_bit a 0 ≡ has_bit b 0 → a % 2 ≡ b % 2
unfolding has_bit
same-odd a b e = go (eqb (a / 2 ^ 0 % 2) 1) (eqb (b / 2 ^ 0 % 2) 1) refl refl e
  where
    go : (t u : Bool) → eqb (a / 2 ^ 0 % 2) 1 ≡ t → eqb (b / 2 ^ 0 % 2) 1 ≡ u → t ≡ u → a % 2 ≡ b % 2
    go true true p q e = omega (arith, eqb-true (a / 2 ^ 0 % 2) 1 p, eqb-true (b / 2 ^ 0 % 2) 1 q)
    go true false p q e = absurd (true≢false e)
    go false true p q e = absurd (true≢false (sym e))
    go false false p q e = omega (arith, eqb-false (a / 2 ^ 0 % 2) 1 p, eqb-false (b / 2 ^ 0 % 2) 1 q)

pub same_bits : (w : ℕ) {a b : ℕ} → a < 2 ^ w → b < 2 ^ w → ((n : ℕ) → n < w → has_bit a n ≡ has_bit b n) → a ≡ b
same_bits zero h k same = omega arith
same_bits (suc w) {a} {b} h k same =
    let e : a / 2 ≡ b / 2 =
    same_bits w (omega (arith, pow-succ' 2 w)) (omega (arith, pow-succ' 2 w)) (λ n i. half-has a n ∙ same (suc n) (omega arith) ∙ sym (half-has b n)) in
    omega (arith, same-odd a b (same 0 (omega arith)))
