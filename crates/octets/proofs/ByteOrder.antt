-- The bytes of a number, of any width: bit v of the number is bit v % 8 of byte v / 8; a number of more bytes is a number and then another.
-- So no other order of bytes or bits has these laws.
-- Assumes nothing.
use mathlib.Core.Path.{◌≡◌, sym, ap, ◌∙◌}
use mathlib.Core.List.{List, [], ◌∷◌, ◌++◌}
use Prim.Native.Nat.{ℕ, zero, suc, ◌+◌, ◌-◌, ◌*◌, ◌/◌, ◌%◌, ◌^◌, ◌<◌}
use native.Mathlib.Nat.{mul_assoc}
use native.Mathlib.Omega.{arith}
use lib.Dec.{eqb}
use lib.ListN.{length, get_or}
use lib.Pow.{field, mod-mod-pow, shr-shr}
use Rattle.octets.specs.Sets.{has_bit}
use Rattle.octets.specs.LittleEndian.{little_endian, number_of, width}

-- a bit of the low byte
low-has : (n b : ℕ) → b < 8 → has_bit (n % 256) b ≡ has_bit n b
unfolding has_bit
low-has n b h =
    let e : 8 - b + b ≡ 8 = omega arith in
    let f : 7 - b + 1 ≡ 8 - b = omega arith in
    let g : n % 256 / 2 ^ b ≡ n / 2 ^ b % 2 ^ (8 - b) = ap (λ (w : ℕ). n % 2 ^ w / 2 ^ b) (sym e) ∙ field n (8 - b) b in
    let m : n / 2 ^ b % 2 ^ (8 - b) % 2 ≡ n / 2 ^ b % 2 = ap (λ (w : ℕ). n / 2 ^ b % 2 ^ w % 2) (sym f) ∙ mod-mod-pow (n / 2 ^ b) (7 - b) 1 in
    ap (λ (x : ℕ). eqb (x % 2) 1) g ∙ ap (λ (x : ℕ). eqb x 1) m

-- and of the others
high-has : (n v : ℕ) → has_bit (n / 256) v ≡ has_bit n (8 + v)
unfolding has_bit
high-has n v = ap (λ (x : ℕ). eqb (x % 2) 1) (shr-shr n 8 v)

-- bit b of byte i is bit 8 * i + b of the number
pub byte-has : (k n i b : ℕ) → i < k → b < 8 → has_bit (get_or (little_endian k n) i 0) b ≡ has_bit n (8 * i + b)
unfolding little_endian
byte-has zero n i b h j = absurd (omega arith)
byte-has (suc k) n zero b h j = let e : b ≡ 0 + b = omega arith in low-has n b j ∙ ap (has_bit n) e
byte-has (suc k) n (suc i) b h j =
    let e : 8 + (8 * i + b) ≡ 8 * suc i + b = omega arith in
    byte-has k (n / 256) i b (omega arith) j ∙ high-has n (8 * i + b) ∙ ap (has_bit n) e

-- the number of some bytes and then others
pub number-joined : (a b : List ℕ) → number_of (a ++ b) ≡ number_of a + width (length a) * number_of b
unfolding number_of
number-joined [] b = omega arith
number-joined (x ∷ a) b = rw (number-joined a b, mul_assoc 256 (width (length a)) (number_of b)) (omega arith)
