-- Laws of a number in digits, read from a place on.
-- Assumes nothing.
use Rattle.std.specs.Prelude.{Some, None}
use mathlib.Core.Path.{◌≡◌, refl}
use mathlib.Core.Logic.{◌⊎◌, inl, inr}
use mathlib.Core.List.{List, [], ◌∷◌}
use Prim.Native.Nat.{ℕ, ◌+◌, ◌-◌, ◌*◌, ◌≤◌, ◌<◌}
use native.Mathlib.Omega.{arith}
use native.Mathlib.Numerals.{add-one}
use lib.ListN.{length, drop, get_or, drop_of_length-le}
use lib.Seq.{drop-cons}
use borrow.Author.Tests.{le-leb, lt-leb}
use Rattle.crontab_firings.specs.Numbers.{max_number, goes_on, value_from, number_of}

pub some-digits : (s : List ℕ) → (length s ≡ 0 → ⊥) → value_from 0 s ≡ number_of s
unfolding number_of
some-digits [] h = absurd (h refl)
some-digits (b ∷ s) h = refl

pub no-digits : (s : List ℕ) → length s ≡ 0 → None ≡ number_of s
unfolding number_of
no-digits [] h = refl
no-digits (b ∷ s) h = absurd (omega arith)

module _ (s : List ℕ) (value i : ℕ) where
  pub digits-end : length s ≤ i → value_from value (drop i s) ≡ Some value
  unfolding value_from
  digits-end h = rw (drop_of_length-le s h)

  module _ (h : i < length s) where
    pub below-digits : get_or s i 0 < 48 → value_from value (drop i s) ≡ None
    unfolding value_from goes_on
    below-digits l = rw (drop-cons s i 0 h, lt-leb 48 (get_or s i 0) l)

    pub above-digits : 48 ≤ get_or s i 0 → 57 < get_or s i 0 → value_from value (drop i s) ≡ None
    unfolding value_from goes_on
    above-digits l k = rw (drop-cons s i 0 h, le-leb 48 (get_or s i 0) l, lt-leb (get_or s i 0) 57 k)

    pub not-digit : get_or s i 0 < 48 ⊎ 57 < get_or s i 0 → value_from value (drop i s) ≡ None
    not-digit (inl l) = below-digits l
    not-digit (inr k) = above-digits (omega arith) k

    module _ (l : 48 ≤ get_or s i 0) (k : get_or s i 0 ≤ 57) where
      pub too-great : max_number < value * 10 + (get_or s i 0 - 48) → value_from value (drop i s) ≡ None
      unfolding value_from goes_on
      too-great m =
          rw (drop-cons s i 0 h, le-leb 48 (get_or s i 0) l, le-leb (get_or s i 0) 57 k, lt-leb (value * 10 + (get_or s i 0 - 48)) max_number m)

      pub next-digit : value * 10 + (get_or s i 0 - 48) ≤ max_number → value_from value (drop i s) ≡ value_from (value * 10 + (get_or s i 0 - 48)) (drop (i + 1) s)
      unfolding value_from goes_on
      next-digit m =
          rw (drop-cons s i 0 h, le-leb 48 (get_or s i 0) l, le-leb (get_or s i 0) 57 k, le-leb (value * 10 + (get_or s i 0 - 48)) max_number m, add-one i)
