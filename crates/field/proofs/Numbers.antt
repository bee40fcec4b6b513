-- Laws of numbers read digit by digit: after each digit what is left says the same.
-- Assumes nothing.
use Rattle.std.specs.Prelude.{Some, None}
use mathlib.Core.Path.{◌≡◌, refl}
use mathlib.Core.Bool.{true, false, and-eq-true_iff}
use mathlib.Core.List.{List}
use Prim.Native.Nat.{ℕ, ◌+◌, ◌-◌, ◌*◌, ◌^◌, ◌≤◌, ◌<◌}
use native.Mathlib.Nat.{pow-succ'}
use native.Mathlib.Numerals.{add-one}
use native.Mathlib.Omega.{arith}
use lib.ListN.{length, drop, get_or}
use lib.Seq.{drop-cons, drop-length}
use lib.Dec.{leb}
use borrow.Author.Tests.{leb-true, le-leb, lt-leb}
use Rattle.field.specs.Numbers.{is_digit, are_digits, value_from, number_of}

-- the reading of s so far: of s the bytes before `at` are digits, and their value is v
pub record Reading (s : List ℕ) (v at : ℕ) : Type 0 where
  pub within : at ≤ length s
  pub short : length s ≤ 4
  pub some : 1 ≤ length s
  pub digits : are_digits (drop at s) ≡ are_digits s
  pub value : value_from v (drop at s) ≡ value_from 0 s
  pub small : v < 10 ^ at

pub record Digit (b : ℕ) : Type 0 where
  pub from : 48 ≤ b
  pub to : b ≤ 57

pub is_digit_lem : (b : ℕ) → is_digit b ≡ true → Digit b
unfolding is_digit
is_digit_lem b e =
    let t = (and-eq-true_iff (leb 48 b) (leb b 57)).0 e in
    record { from = leb-true _ _ t.0; to = leb-true _ _ t.1 }

module _ (s : List ℕ) where
  pub reading-starts : 1 ≤ length s → length s ≤ 4 → Reading s 0 0
  reading-starts h k =
      record { within = omega arith; short = k; some = h; digits = refl; value = refl; small = omega arith }

  module _ (v at : ℕ) (r : Reading s v at) where
    pub reading-digit : at < length s → is_digit (get_or s at 0) ≡ true → Reading s (v * 10 + (get_or s at 0 - 48)) (at + 1)
    unfolding are_digits value_from
    reading-digit h e =
        let d = is_digit_lem (get_or s at 0) e in
        record {
          within = omega arith;
          short = r.short;
          some = r.some;
          digits = rw (add-one at) (rw (drop-cons s at 0 h, e) at r.digits);
          value = rw (add-one at) (rw (drop-cons s at 0 h) at r.value);
          small = rw (add-one at, pow-succ' 10 at) (omega (arith, r.small, d.from, d.to));
        }

    pub reading-other : at < length s → is_digit (get_or s at 0) ≡ false → number_of s ≡ None
    unfolding are_digits number_of
    reading-other h e =
        rw (← r.digits, drop-cons s at 0 h, e, le-leb 1 (length s) r.some, le-leb (length s) 4 r.short)

    pub reading-ends : at ≡ length s → number_of s ≡ Some v
    unfolding are_digits value_from number_of
    reading-ends e =
        rw (← r.digits, ← r.value, e, drop-length s, le-leb 1 (length s) r.some, le-leb (length s) 4 r.short)

  pub no-number-empty : length s ≡ 0 → number_of s ≡ None
  unfolding number_of
  no-number-empty e = rw e

  pub no-number-long : 4 < length s → number_of s ≡ None
  unfolding number_of
  no-number-long h = rw (lt-leb (length s) 4 h, le-leb 1 (length s) (omega arith))
