-- Laws of a set's least value: it is found by counting the zeros below it.
-- Assumes nothing.
use mathlib.Core.Path.{◌≡◌, refl, sym, ◌∙◌}
use mathlib.Core.Bool.{Bool, true, false, cond}
use Prim.Native.Nat.{ℕ, zero, suc, ◌+◌, ◌-◌, ◌/◌, ◌%◌, ◌^◌, ◌≤◌, min}
use native.Mathlib.Nat.{add-suc, div-one}
use native.Mathlib.Omega.{arith}
use lib.Pow.{shr-shr}
use lib.Count.{count_trailing_zeros, under}
use lib.Dec.{eqb}
use Rattle.octets.specs.Sets.{has_bit}
use Rattle.octets.specs.Search.{least_of, from}
use Rattle.octets.proofs.Search.{Least, least_of-least, least-from}

-- a set moved down by k
pub shifted-has : (set k n : ℕ) → has_bit (set / 2 ^ k) n ≡ has_bit set (k + n)
unfolding has_bit
shifted-has set k n = rw (shr-shr set k n)

-- a search behind k numbers is the search of what stands there
least-moved : (p q : ℕ → Bool) (k : ℕ) → ((n : ℕ) → p (k + n) ≡ q n) → (d a : ℕ) → least_of p d (k + a) ≡ k + least_of q d a
unfolding least_of
least-moved p q k same zero a = refl
least-moved p q k same (suc d) a = rw (same a, ← (add-suc k a), least-moved p q k same d (suc a)) (go (q a))
  where
    go : (b : Bool) → cond b (k + a) (k + least_of q d (suc a)) ≡ k + cond b a (least_of q d (suc a))
    go true = refl
    go false = refl

low_bit : (x : ℕ) → has_bit x 0 ≡ eqb (x % 2) 1
unfolding has_bit
low_bit x = rw (div-one x)

-- the least value of d is the number of zeros below it
zeros-least : (d x : ℕ) → least_of (has_bit x) d 0 ≡ count_trailing_zeros d x
unfolding least_of count_trailing_zeros
zeros-least zero x = refl
zeros-least (suc d) x =
    rw (least-moved (has_bit x) (has_bit (x / 2)) 1 (λ n. sym (shifted-has x 1 n)) d 0, zeros-least d (x / 2)) (go (x % 2) refl)
  where
    go : (r : ℕ) → x % 2 ≡ r → cond (has_bit x 0) 0 (1 + count_trailing_zeros d (x / 2)) ≡ under r (count_trailing_zeros d (x / 2))
    go zero e = rw (low_bit x, e) (omega arith)
    go (suc zero) e = rw (low_bit x, e)
    go (suc (suc r)) e = absurd (omega arith)

-- the least value from a place on, in a word
pub least-zeros : (set at e : ℕ) → at ≤ e → e ≤ 64
    → from (has_bit set) e at ≡ at + min (count_trailing_zeros 64 (set / 2 ^ at)) (e - at)
least-zeros set at e h k =
    let y = set / 2 ^ at in
    let t = count_trailing_zeros 64 y in
    let l : Least (has_bit y) 64 0 t = rw (← (zeros-least 64 y)) (least_of-least (has_bit y) 64 0) in
    sym
    (least-from h
    (record {
      low = omega arith;
      high = omega arith;
      passes =
          λ below.
          let same : min t (e - at) ≡ t = omega arith in
          rw same (sym (shifted-has set at t) ∙ l.passes (omega arith));
      none =
          λ n from_at below.
          let place : at + (n - at) ≡ n = omega arith in
          rw place at (sym (shifted-has set at (n - at)) ∙ l.none (n - at) (omega arith) (omega arith));
    }))
