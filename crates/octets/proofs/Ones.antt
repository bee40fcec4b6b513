-- How many values of a set are below a number: the bits of the number that is left of it.
-- Assumes nothing.
use mathlib.Core.Path.{◌≡◌, sym, ap, ◌∙◌}
use mathlib.Core.Bool.{cond}
use Prim.Native.Nat.{ℕ, zero, suc, ◌+◌, ◌*◌, ◌/◌, ◌%◌, ◌^◌, ◌<◌}
use native.Mathlib.Nat.{div-add-mod', mod-lt, pow-suc, mul_comm, mul_assoc, add-mul, add_assoc}
use native.Mathlib.Omega.{arith}
use lib.Dec.{eqb}
use lib.Arith.{digits_mod}
use lib.Pow.{pow_pos, split}
use lib.Count.{ones_in, ones, ones_cat}
use Rattle.octets.specs.Sets.{has_bit}
use Rattle.octets.specs.Passing.{count_below}

parts : (m q b r : ℕ) → (q * 2 + b) * m + r ≡ q * (m * 2) + (b * m + r)
parts m q b r =
    let e : (q * 2 + b) * m ≡ q * 2 * m + b * m = add-mul (q * 2) b m in
    let f : q * 2 * m ≡ q * (m * 2) = mul_assoc q 2 m ∙ ap (λ (x : ℕ). q * x) (mul_comm 2 m) in
    rw (e, f) (add_assoc (q * (m * 2)) (b * m) r)

small : (m b r : ℕ) → b < 2 → r < m → b * m + r < m * 2
small m zero r h k = omega arith
small m (suc zero) r h k = omega arith
small m (suc (suc b)) r h k = absurd (omega arith)

-- one bit more
next_bit : (set n : ℕ) → set % 2 ^ suc n ≡ set / 2 ^ n % 2 * 2 ^ n + set % 2 ^ n
next_bit set n = ap (λ (x : ℕ). x % 2 ^ suc n) whole ∙ digits_mod (set / 2 ^ n / 2) less
  where
    whole : set ≡ set / 2 ^ n / 2 * 2 ^ suc n + (set / 2 ^ n % 2 * 2 ^ n + set % 2 ^ n)
    whole =
        sym (split set n)
        ∙ ap (λ (x : ℕ). x * 2 ^ n + set % 2 ^ n) (sym (div-add-mod' (set / 2 ^ n) 2))
        ∙ parts (2 ^ n) (set / 2 ^ n / 2) (set / 2 ^ n % 2) (set % 2 ^ n)
        ∙ ap (λ (x : ℕ). set / 2 ^ n / 2 * x + (set / 2 ^ n % 2 * 2 ^ n + set % 2 ^ n)) (sym (pow-suc 2 n))

    less : set / 2 ^ n % 2 * 2 ^ n + set % 2 ^ n < 2 ^ suc n
    less = rw (pow-suc 2 n) (small (2 ^ n) (set / 2 ^ n % 2) (set % 2 ^ n) (omega arith) (mod-lt set (pow_pos n)))

pub ones_below : (set n : ℕ) → ones (set % 2 ^ n) ≡ count_below (has_bit set) n
unfolding count_below has_bit ones ones_in
ones_below set zero = let z : set % 1 ≡ 0 = omega arith in rw z
ones_below set (suc n) =
    ap ones (next_bit set n)
    ∙ ones_cat n (set / 2 ^ n % 2) (set % 2 ^ n) (mod-lt set (pow_pos n))
    ∙ ap (λ (x : ℕ). ones (set / 2 ^ n % 2) + x) (ones_below set n)
    ∙ go (set / 2 ^ n % 2) (omega arith)
  where
    go : (b : ℕ) → b < 2 → ones b + count_below (has_bit set) n ≡ cond (eqb b 1) (suc (count_below (has_bit set) n)) (count_below (has_bit set) n)
    go zero h = omega arith
    go (suc zero) h = omega arith
    go (suc (suc b)) h = absurd (omega arith)
