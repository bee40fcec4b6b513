-- The laws of ranges, stars, names and numbers for any bytes, each used where it says most: at four digits, across the join, at the last name.
-- Assumes nothing.
use Rattle.std.specs.Prelude.{Some, None}
use Rattle.refusal.specs.declared.Refusal.TheVariants.{Malformed, OutOfLimits, Reversed, StepZero}
use mathlib.Core.Path.{◌≡◌, refl, ap, ◌∙◌}
use mathlib.Core.Bool.{true, false, cond, ◌&&◌, true≢false}
use mathlib.Core.List.{List, [], ◌∷◌, ◌++◌, map}
use mathlib.Core.Logic.{inl, inr}
use Prim.Native.Nat.{ℕ, ◌+◌, ◌-◌, ◌*◌, ◌%◌, ◌≤◌, ◌<◌}
use native.Mathlib.Omega.{arith}
use lib.Dec.{eqb, leb, ltb}
use lib.ListN.{get_or}
use Rattle.octets.specs.Texts.{text}
use Rattle.octets.specs.Digits.{digit}
use Rattle.octets.specs.Sets.{has_bit}
use Rattle.field.specs.declared.Dialect.TheVariants.{Wrapping}
use Rattle.field.specs.declared.Limits.{Limits}
use Rattle.field.specs.declared.Names.TheVariants.{Months, Weekdays}
use Rattle.field.specs.Numbers.{is_digit, are_digits, value_from, number_of}
use Rattle.field.specs.Names.{lower, month_names, weekday_names, name_of}
use Rattle.field.specs.Limits.{minute_limits, hour_limits, in_dialect}
use Rattle.field.specs.Fields.{read_field}
use Rattle.field.specs.Written.{star_set}
use Rattle.field.proofs.UsualLimits.{Usual, minute-usual, hour-usual, dialect-usual}
use Rattle.field.proofs.Accepted.{Accepted}
use Rattle.field.proofs.ElementForms.{number_digits, number-other}
use Rattle.field.proofs.RangeValues.{wrapping-values, range-exact}
use Rattle.field.proofs.ElementRefusals.{range-outside, range-reversed, range-zero}
use Rattle.field.proofs.StarFields.{star-stepped, star-zero, star-malformed, star-values}
use Rattle.field.proofs.NameTexts.{month-exact, weekday-exact}
use Rattle.field.specs.Judgement.{refuses, means}

-- ---- ranges

-- the numbers that are written here
numbers-are : (number_of (text "23") ≡ Some 23)
    × (number_of (text "0") ≡ Some 0)
    × (number_of (text "9999") ≡ Some 9999)
    × (number_of (text "9998") ≡ Some 9998)
    × (number_of (text "59") ≡ Some 59)
    × (number_of (text "0000") ≡ Some 0)
unfolding number_of are_digits is_digit value_from
numbers-are = (refl, refl, refl, refl, refl, refl)

-- range-exact, wrapping-values: over midnight with the greatest step
pub midnight-used : (column : ℕ)
    → (set : ℕ) × (read_field (in_dialect Wrapping hour_limits) column (text "23-0/9999") ≡ means set false)
    × ((v : ℕ) → v < 24 → has_bit set v ≡ cond (ltb v 23) (leb v 0 && eqb ((v + 24 - 23) % 9999) 0) (eqb ((v - 23) % 9999) 0))
unfolding in_dialect
midnight-used column =
    let l = in_dialect Wrapping hour_limits in
    let u = dialect-usual hour_limits hour-usual Wrapping in
    let a : Accepted l 23 0 9999 = record { from = omega arith; below = omega arith; above = omega arith; to = omega arith; steps = omega arith } in
    let r = range-exact l u a (λ e. absurd (true≢false e)) column (text "23") (text "0") (text "9999") numbers-are.0 numbers-are.1 numbers-are.2 in
    (r.0, r.1, λ v h. r.2 v (omega arith) h ∙ wrapping-values l u a v (omega arith) h (omega arith))

-- 23 alone
pub midnight-alone : (column : ℕ)
    → (set : ℕ) × (read_field (in_dialect Wrapping hour_limits) column (text "23-0/9999") ≡ means set false)
    × (has_bit set 23 ≡ true) × (has_bit set 22 ≡ false) × (has_bit set 0 ≡ false)
midnight-alone column = let r = midnight-used column in (r.0, r.1, r.2 23 (omega arith), r.2 22 (omega arith), r.2 0 (omega arith))

module _ (l : Limits) (column : ℕ) where
  -- range-outside: either end, before a step of 0
  pub outside-used : l.last < 9999 → (read_field l column (text "9999-0/0") ≡ refuses OutOfLimits column) × (read_field l column (text "0-9999/0") ≡ refuses OutOfLimits column)
  outside-used h = (
    range-outside l column (text "9999") (text "0") (text "0") numbers-are.2 numbers-are.1 numbers-are.1 (inl (inr h)),
    range-outside l column (text "0") (text "9999") (text "0") numbers-are.1 numbers-are.2 numbers-are.1 (inr (inr h)),
  )

  -- and below the first
  pub below-used : 0 < l.first → (read_field l column (text "0-9999/0") ≡ refuses OutOfLimits column) × (read_field l column (text "9999-0/0") ≡ refuses OutOfLimits column)
  below-used h = (
    range-outside l column (text "0") (text "9999") (text "0") numbers-are.1 numbers-are.2 numbers-are.1 (inl (inl h)),
    range-outside l column (text "9999") (text "0") (text "0") numbers-are.2 numbers-are.1 numbers-are.1 (inr (inl h)),
  )

  module _ (h : l.first ≤ 9998) (k : 9999 ≤ l.last) where
    -- range-reversed: before a step of 0
    pub reversed-used : l.wraps ≡ false → read_field l column (text "9999-9998/0") ≡ refuses Reversed column
    reversed-used w =
        range-reversed l column (text "9999") (text "9998") (text "0") numbers-are.2 numbers-are.3 numbers-are.1
        (record { from = omega arith; to = k }) (record { from = h; to = omega arith }) (omega arith) w

    -- range-zero: rising, and wrapped
    pub zero-used : (read_field l column (text "9998-9999/0") ≡ refuses StepZero column) × (l.wraps ≡ true → read_field l column (text "9999-9998/0") ≡ refuses StepZero column)
    zero-used = (
      range-zero l column (text "9998") (text "9999") (text "0") numbers-are.3 numbers-are.2 numbers-are.1
          (record { from = h; to = omega arith }) (record { from = omega arith; to = k }) (inl (omega arith)) refl,
      (λ w.
          range-zero l column (text "9999") (text "9998") (text "0") numbers-are.2 numbers-are.3 numbers-are.1
          (record { from = omega arith; to = k }) (record { from = h; to = omega arith }) (inr w) refl),
    )

-- ---- stars

-- star-stepped, star-values: the last step that has two values
pub star-used : (column : ℕ)
    → (set : ℕ) × (read_field minute_limits column (text "*/59") ≡ means set true) × ((v : ℕ) → v < 60 → has_bit set v ≡ (leb 0 v && eqb ((v - 0) % 59) 0))
star-used column =
    (star_set minute_limits 59, star-stepped minute_limits minute-usual column (text "59") numbers-are.4 (omega arith), star-values minute_limits minute-usual 59 (omega arith))

malformed-are : (number_of [] ≡ None) × (number_of (text "00000") ≡ None) × (number_of (text "mon") ≡ None)
unfolding number_of are_digits is_digit value_from
malformed-are = (refl, refl, refl)

-- star-zero, star-malformed: in any field
pub star-refused : (l : Limits) → Usual l → (column : ℕ)
    → (read_field l column (text "*/0000") ≡ refuses StepZero column)
    × (read_field l column (text "*/") ≡ refuses Malformed column)
    × (read_field l column (text "*/00000") ≡ refuses Malformed column)
    × (read_field l column (text "*/mon") ≡ refuses Malformed column)
star-refused l u column = (
  star-zero l u column (text "0000") numbers-are.5,
  star-malformed l u column [] malformed-are.0,
  star-malformed l u column (text "00000") malformed-are.1,
  star-malformed l u column (text "mon") malformed-are.2,
)

-- ---- names

module _ (s : List ℕ) where
  -- month-exact: the last, the first and none past them
  pub months-used : (name_of Months s ≡ Some 12 → map lower s ≡ text "dec")
      × (name_of Months s ≡ Some 1 → map lower s ≡ text "jan")
      × (name_of Months s ≡ Some 13 → ⊥)
      × (name_of Months s ≡ Some 0 → ⊥)
  unfolding month_names
  months-used = (
    (λ e. let r = month-exact s e in let p : r.place ≡ 11 = omega (arith, r.number) in r.bytes ∙ ap (λ (k : ℕ). get_or month_names k []) p),
    (λ e. let r = month-exact s e in let p : r.place ≡ 0 = omega (arith, r.number) in r.bytes ∙ ap (λ (k : ℕ). get_or month_names k []) p),
    (λ e. let r = month-exact s e in omega (arith, r.number, r.within)),
    (λ e. let r = month-exact s e in omega (arith, r.number)),
  )

  -- weekday-exact
  pub weekdays-used : (name_of Weekdays s ≡ Some 6 → map lower s ≡ text "sat")
      × (name_of Weekdays s ≡ Some 0 → map lower s ≡ text "sun")
      × (name_of Weekdays s ≡ Some 7 → ⊥)
  unfolding weekday_names
  weekdays-used = (
    (λ e. let r = weekday-exact s e in let p : r.place ≡ 6 = omega (arith, r.number) in r.bytes ∙ ap (λ (k : ℕ). get_or weekday_names k []) p),
    (λ e. let r = weekday-exact s e in let p : r.place ≡ 0 = omega (arith, r.number) in r.bytes ∙ ap (λ (k : ℕ). get_or weekday_names k []) p),
    (λ e. let r = weekday-exact s e in omega (arith, r.number, r.within)),
  )

-- ---- numbers

-- number_digits: any four digits, and so 9999
pub digits-used : (a b c d : ℕ) → a ≤ 9 → b ≤ 9 → c ≤ 9 → d ≤ 9
    → (number_of (digit a ∷ []) ≡ Some a)
    × (number_of (digit a ∷ digit b ∷ []) ≡ Some (10 * a + b))
    × (number_of (digit a ∷ digit b ∷ digit c ∷ []) ≡ Some (100 * a + 10 * b + c))
    × (number_of (digit a ∷ digit b ∷ digit c ∷ digit d ∷ []) ≡ Some (1000 * a + 100 * b + 10 * c + d))
digits-used a b c d p q r s = number_digits a b c d p q r s

-- number-other: the bytes next to the digits, `-` and a letter, wherever they stand
other-bytes : (is_digit 47 ≡ false) × (is_digit 58 ≡ false) × (is_digit 45 ≡ false) × (is_digit 97 ≡ false)
unfolding is_digit
other-bytes = (refl, refl, refl, refl)

pub other-used : (s t : List ℕ)
    → (number_of (s ++ 47 ∷ t) ≡ None)
    × (number_of (s ++ 58 ∷ t) ≡ None)
    × (number_of (s ++ 45 ∷ t) ≡ None)
    × (number_of (s ++ 97 ∷ t) ≡ None)
other-used s t = (number-other s t 47 other-bytes.0, number-other s t 58 other-bytes.1, number-other s t 45 other-bytes.2, number-other s t 97 other-bytes.3)
