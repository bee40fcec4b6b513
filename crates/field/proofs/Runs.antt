-- A run of values with no gap, put into an empty set: its bits are a difference of two powers of two.
-- Assumes nothing.
use mathlib.Core.Path.{◌≡◌, refl, sym, ap, ◌∙◌}
use Prim.Native.Nat.{ℕ, zero, suc, ◌+◌, ◌-◌, ◌*◌, ◌%◌, ◌^◌, ◌≤◌, ◌<◌}
use native.Mathlib.Nat.{add-zero, zero-add, one-mul, div-one, sub_self, pow-succ', mod-eq_of_lt}
use native.Mathlib.Numerals.{add-one}
use native.Mathlib.Omega.{arith}
use lib.Bits.{bit_or, bit_and, or_shifted_r, or_add_and, and_comm, and_mask}
use lib.Pow.{pow_pos, pow_mono, pow-lt}
use lib.Dec.{eqb, ltb}
use borrow.Author.Tests.{lt-ltb, le-ltb, ltb-true, eqb-true}
use mathlib.Core.Bool.{Bool, true, false, cond, ◌&&◌, and-eq-true_iff}
use Rattle.octets.specs.Sets.{with_bit, put}
use Rattle.field.specs.declared.Limits.{Limits}
use Rattle.field.specs.Values.{every_step, values_of, bit_of, including}
use Rattle.field.specs.Inner.{last_new}
use Rattle.field.proofs.Steps.{own-bit}

or-top : (v b : ℕ) → b < 2 ^ v → bit_or b (2 ^ v) ≡ 2 ^ v + b
or-top v b h = ap (bit_or b) (sym (one-mul (2 ^ v))) ∙ or_shifted_r 1 v b h ∙ ap (λ (x : ℕ). x + b) (one-mul (2 ^ v))

run-next : (low v : ℕ) → low ≤ v → v < 64 → put (2 ^ v - 2 ^ low) v ≡ 2 ^ (v + 1) - 2 ^ low
unfolding put with_bit
run-next low v h k =
    rw (lt-ltb v 64 k)
    (or-top v (2 ^ v - 2 ^ low) (omega (arith, pow_pos low, pow_pos v))
    ∙ omega (arith, pow_mono h, pow-succ' 2 v, ap (λ (x : ℕ). 2 ^ x) (add-one v)))

-- no bit is shifted out of a word
pub shifted-low : (low : ℕ) → low < 64 → 1 * 2 ^ low % 2 ^ 64 ≡ 2 ^ low
shifted-low low h = ap (λ (x : ℕ). x % 2 ^ 64) (one-mul (2 ^ low)) ∙ mod-eq_of_lt (pow-lt h)

pub shifted-high : (high : ℕ) → high < 63 → 2 * 2 ^ high % 2 ^ 64 ≡ 2 ^ (high + 1)
shifted-high high h =
    let k : suc high < 64 = omega arith in
    ap (λ (x : ℕ). x % 2 ^ 64) (sym (pow-succ' 2 high)) ∙ mod-eq_of_lt (pow-lt k) ∙ ap (λ (x : ℕ). 2 ^ x) (sym (add-one high))

module _ (l : Limits) where
  run-bits : (low v n : ℕ) → low ≤ v → v + n ≤ 64 → v + n ≤ l.bits → including l (2 ^ v - 2 ^ low) (every_step v 1 n) ≡ 2 ^ (v + n) - 2 ^ low
  unfolding including every_step
  run-bits low v zero h k b = rw (add-zero v)
  run-bits low v (suc n) h k b =
      let e : v + 1 + n ≡ v + suc n = omega arith in
      let f : put (2 ^ v - 2 ^ low) (bit_of l v) ≡ 2 ^ (v + 1) - 2 ^ low = ap (put (2 ^ v - 2 ^ low)) (own-bit l v (omega arith)) ∙ run-next low v h (omega arith) in
      ap (λ (x : ℕ). including l x (every_step (v + 1) 1 n)) f
      ∙ run-bits low (v + 1) n (omega arith) (omega arith) (omega arith)
      ∙ ap (λ (x : ℕ). 2 ^ x - 2 ^ low) e

  run-values : (low high : ℕ) → low ≤ high → high < 63 → high < l.bits → including l 0 (values_of low high 1) ≡ 2 ^ (high + 1) - 2 ^ low
  unfolding values_of
  run-values low high h k b =
      let e : low + suc (high - low) ≡ high + 1 = omega arith in
      rw (div-one (high - low), ← sub_self (2 ^ low)) (run-bits low low (suc (high - low)) (omega arith) (omega arith) (omega arith) ∙ rw e)

  -- one value more at the end
  run-snoc : (set v n : ℕ) → including l set (every_step v 1 (suc n)) ≡ put (including l set (every_step v 1 n)) (bit_of l (v + n))
  unfolding including every_step
  run-snoc set v zero = rw (add-zero v)
  run-snoc set v (suc n) = let e : v + 1 + n ≡ v + suc n = omega arith in run-snoc (put set (bit_of l v)) (v + 1) n ∙ rw e

  -- a bit that is there already
  full-again : (n b : ℕ) → b < n → n < 64 → put (2 ^ n - 2 ^ 0) b ≡ 2 ^ n - 2 ^ 0
  unfolding put with_bit
  full-again n b h k =
      let one : bit_and (2 ^ b) (2 ^ n - 1) ≡ 2 ^ b = and_mask (2 ^ b) n ∙ mod-eq_of_lt (pow-lt h) in
      let both = or_add_and (2 ^ n - 1) (2 ^ b) in
      rw (lt-ltb b 64 (omega arith)) (omega (arith, both, and_comm (2 ^ n - 1) (2 ^ b) ∙ one))

  around : (high : ℕ) → l.first < high → high ≡ l.bits → high < 64 → including l 0 (values_of 0 high 1) ≡ 2 ^ high - 2 ^ 0
  unfolding values_of bit_of
  around high h e k =
      let z : high - 0 ≡ high = omega arith in
      rw (z, div-one high)
      (run-snoc 0 0 high
      ∙ rw (run-bits 0 0 high (omega arith) (omega arith) (omega arith), le-ltb (0 + high) l.bits (omega arith))
      (let r : l.first + (0 + high - l.bits) ≡ l.first = omega arith in rw (r, zero-add high) (full-again high l.first h k)))

  -- a run up to the last value that says something new
  pub run-new : (low high : ℕ) → low ≤ last_new l low high → last_new l low high < 63 → last_new l low high < l.bits
      → including l 0 (values_of low high 1) ≡ 2 ^ (last_new l low high + 1) - 2 ^ low
  unfolding last_new
  run-new low high = go ((eqb low 0 && ltb l.first high) && eqb high l.bits) refl
    where
      go : (t : Bool) → ((eqb low 0 && ltb l.first high) && eqb high l.bits) ≡ t → low ≤ cond t (high - 1) high → cond t (high - 1) high < 63 → cond t (high - 1) high < l.bits
          → including l 0 (values_of low high 1) ≡ 2 ^ (cond t (high - 1) high + 1) - 2 ^ low
      go false p h k b = run-values low high h k b
      go true p h k b =
          let q = (and-eq-true_iff (eqb low 0 && ltb l.first high) (eqb high l.bits)).0 p in
          let r = (and-eq-true_iff (eqb low 0) (ltb l.first high)).0 q.0 in
          let pos = ltb-true l.first high r.1 in
          let e : high - 1 + 1 ≡ high = omega arith in
          rw (eqb-true low 0 r.0, e) (around high pos (eqb-true high l.bits q.1) (omega arith))
