-- Whether a field may mean a set, by the bits of all its values: those that the members of a set build are the set's own among them.
-- Assumes nothing.
use mathlib.Core.Path.{◌≡◌, refl, sym, ◌∙◌}
use mathlib.Core.Bool.{Bool, true, false, not, cond, ◌&&◌, or-false}
use mathlib.Core.List.{List, [], ◌∷◌}
use Prim.Native.Nat.{ℕ, zero, suc, ◌-◌, ◌^◌, ◌<◌}
use native.Mathlib.Nat.{div-one}
use native.Mathlib.Numerals.{add-one}
use native.Mathlib.Omega.{arith}
use lib.Bits.{bit_and, and_lt}
use lib.Dec.{eqb, ltb}
use borrow.Author.Tests.{ltb-true}
use Rattle.octets.specs.Sets.{has_bit, with_bit, put, from_on}
use Rattle.octets.proofs.Sets.{none_has, same_bits, with-fits}
use Rattle.octets.proofs.Together.{and-has}
use Rattle.field.specs.declared.Limits.{Limits}
use Rattle.field.specs.Values.{every_step, values_of, bit_of, including}
use Rattle.field.specs.Members.{is_in}
use Rattle.field.specs.Written.{gives, step_of, members, is_field}
use Rattle.field.proofs.Members.{including-has}
use Rattle.field.proofs.ListTexts.{Inside, having-has, from-inside, members-inside, own_bits}

-- values one by one
steps-one : (v n : ℕ) → every_step v 1 n ≡ from_on v n
unfolding every_step from_on
steps-one v zero = refl
steps-one v (suc n) = rw (add-one v, steps-one (suc v) n)

-- the bits of all values that have one of their own
abbrev pub full : Limits → ℕ
full l = including l 0 (values_of l.first (l.bits - 1) 1)

module _ (l : Limits) where
  -- a set stays in a word
  put_word : (set b : ℕ) → set < 2 ^ 64 → put set b < 2 ^ 64
  unfolding put
  put_word set b h = go (ltb b 64) refl
    where
      go : (t : Bool) → ltb b 64 ≡ t → cond t (with_bit set b) set < 2 ^ 64
      go true e = with-fits 64 h (ltb-true b 64 e)
      go false e = h

  including-word : (set : ℕ) (vs : List ℕ) → set < 2 ^ 64 → including l set vs < 2 ^ 64
  unfolding including
  including-word set [] h = h
  including-word set (v ∷ vs) h = including-word (put set (bit_of l v)) vs (put_word set (bit_of l v) h)

  -- values with their own bits are what their set has
  built-has : (n : ℕ) → n < 64 → (vs : List ℕ) → Inside l vs → has_bit (including l 0 vs) n ≡ is_in n vs
  built-has n h vs i = including-has n h l 0 vs ∙ rw (none_has n, own_bits l vs i) (or-false _)

  module _ (some : l.first < l.bits) where
    all-values : values_of l.first (l.bits - 1) 1 ≡ from_on l.first (l.bits - l.first)
    unfolding values_of
    all-values =
        let n : suc (l.bits - 1 - l.first) ≡ l.bits - l.first = omega arith in
        rw (div-one (l.bits - 1 - l.first), n) (steps-one l.first (l.bits - l.first))

    full-has : (n : ℕ) → n < 64 → has_bit (full l) n ≡ is_in n (from_on l.first (l.bits - l.first))
    full-has n h =
        rw all-values
        (built-has n h (from_on l.first (l.bits - l.first)) (from-inside l l.first (l.bits - l.first) (omega arith) (omega arith)))

    module _ (set : ℕ) (word : set < 2 ^ 64) where
      members-masked : including l 0 (members l set) ≡ bit_and (full l) set
      unfolding members
      members-masked =
          same_bits 64 (including-word 0 (members l set) (omega arith)) (and_lt 64 (full l) set (including-word 0 _ (omega arith)) word)
          (λ n h.
          built-has n h (members l set) (members-inside l set)
          ∙ having-has set n (from_on l.first (l.bits - l.first))
          ∙ sym (and-has (full l) set n ∙ rw (full-has n h)))

      pub listed-test : (star : Bool) → star ≡ false → (not (eqb set 0) && eqb (bit_and (full l) set) set) ≡ is_field l set star
      unfolding is_field
      listed-test star e = rw (e, members-masked)

pub starred-test : (l : Limits) (set : ℕ) (star : Bool) → star ≡ true → gives l set (step_of l set) ≡ is_field l set star
unfolding is_field
starred-test l set star e = rw e
