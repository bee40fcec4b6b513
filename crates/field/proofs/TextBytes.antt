-- What a field's text is made of: its bytes, its first byte, and how many there are.
-- Assumes nothing.
use mathlib.Core.Path.{◌≡◌, refl, sym, ap}
use mathlib.Core.Bool.{Bool, true, false, cond, not, and-eq-true_iff}
use mathlib.Core.Logic.{◌⊎◌, inl, inr}
use mathlib.Core.List.{List, [], ◌∷◌, ◌++◌}
use Prim.Native.Nat.{ℕ, zero, suc, ◌-◌, ◌*◌, ◌≤◌, ◌<◌}
use native.Mathlib.Omega.{arith}
use lib.Dec.{eqb}
use lib.ListN.{length, length-append}
use borrow.Author.Tests.{ne_eqb, eqb-true, eqb-false, not-true}
use Rattle.octets.specs.declared.class.Class.TheVariants.{Solid}
use Rattle.octets.specs.Classes.{is_blank, of_class}
use Rattle.octets.specs.Digits.{number_text}
use Rattle.octets.specs.Sets.{has_bit, from_on}
use Rattle.octets.proofs.Each.{Each, each_append, each-so}
use Rattle.octets.proofs.Digits.{number-bytes, number-some, number_short}
use Rattle.field.specs.declared.Limits.{Limits}
use Rattle.field.specs.Values.{including}
use Rattle.field.specs.Written.{step_of, star_text, having, members, after_commas, list_text, field_text, is_field}
use Rattle.field.proofs.UsualLimits.{Usual}
use Rattle.field.proofs.StarTexts.{step-least}
use Rattle.field.proofs.ListTexts.{Inside, members-inside}

-- `*`, `/`, comma and digits lie there; no blank, `#`, newline or byte 0 does
abbrev pub FieldByte : ℕ → Type 0
FieldByte b = (42 ≤ b) × (b ≤ 57)

-- it begins with `*` or a digit
abbrev pub Begins : List ℕ → Type 0
Begins [] = ⊥
Begins (b ∷ s) = (b ≡ 42) ⊎ ((48 ≤ b) × (b ≤ 57))

-- ---- lengths

from-length : (v n : ℕ) → length (from_on v n) ≡ n
unfolding from_on
from-length v zero = refl
from-length v (suc n) = ap suc (from-length (suc v) n)

having-length : (set : ℕ) (vs : List ℕ) → length (having set vs) ≤ length vs
unfolding having
having-length set [] = omega arith
having-length set (v ∷ vs) = go (has_bit set v) (having-length set vs)
  where
    go : (t : Bool) → length (having set vs) ≤ length vs → length (cond t (v ∷ having set vs) (having set vs)) ≤ suc (length vs)
    go true h = omega arith
    go false h = omega arith

commas-length : (vs : List ℕ) → length (after_commas vs) ≤ 3 * length vs
unfolding after_commas
commas-length [] = omega arith
commas-length (v ∷ vs) = omega (arith, length-append (number_text v) (after_commas vs), number_short v, commas-length vs)

list_length : (vs : List ℕ) → length (list_text vs) ≤ 3 * length vs
unfolding list_text
list_length [] = omega arith
list_length (v ∷ vs) = omega (arith, length-append (number_text v) (after_commas vs), number_short v, commas-length vs)

star-length : (n : ℕ) → length (star_text n) ≤ 4
unfolding star_text
star-length n = go (eqb n 1)
  where
    go : (t : Bool) → suc (length (cond t [] (47 ∷ number_text n))) ≤ 4
    go true = omega arith
    go false = omega (arith, number_short n)

-- ---- bytes

number-field : (n : ℕ) → n < 100 → Each FieldByte (number_text n)
number-field n h = each-so _ _ (λ b d. (omega (arith, d.0), d.1)) (number_text n) (number-bytes n h)

star-bytes : (n : ℕ) → n < 100 → Each FieldByte (star_text n)
unfolding star_text
star-bytes n h = ((omega arith, omega arith), go (eqb n 1))
  where
    go : (t : Bool) → Each FieldByte (cond t [] (47 ∷ number_text n))
    go true = tt
    go false = ((omega arith, omega arith), number-field n h)

begins-digit : (t s : List ℕ) → 1 ≤ length t → Each (λ (b : ℕ). (48 ≤ b) × (b ≤ 57)) t → Begins (t ++ s)
begins-digit [] s h e = absurd (omega arith)
begins-digit (b ∷ t) s h e = inr e.0

module _ (l : Limits) (u : Usual l) where
  commas-bytes : (vs : List ℕ) → Inside l vs → Each FieldByte (after_commas vs)
  unfolding after_commas
  commas-bytes [] h = tt
  commas-bytes (v ∷ vs) h =
      ((omega arith, omega arith), each_append FieldByte (number_text v) (after_commas vs) (number-field v (omega (arith, h.0.1, u.word, u.within))) (commas-bytes vs h.1))

  list-bytes : (vs : List ℕ) → Inside l vs → Each FieldByte (list_text vs)
  unfolding list_text
  list-bytes [] h = tt
  list-bytes (v ∷ vs) h =
      each_append FieldByte (number_text v) (after_commas vs) (number-field v (omega (arith, h.0.1, u.word, u.within))) (commas-bytes vs h.1)

  pub field-bytes : (set : ℕ) (star : Bool) → Each FieldByte (field_text l set star)
  unfolding field_text
  field-bytes set true = star-bytes (step_of l set) (omega (arith, (step-least l u.order set).high, u.word))
  field-bytes set false = list-bytes (members l set) (members-inside l set)

  -- no blank, so the text is one run
  pub field-solid : (set : ℕ) (star : Bool) → Each (λ (b : ℕ). of_class Solid b ≡ true) (field_text l set star)
  unfolding of_class is_blank
  field-solid set star =
      each-so _ _ (λ b h. rw (ne_eqb b 32 (λ e. omega (arith, e, h.0)), ne_eqb b 9 (λ e. omega (arith, e, h.0)))) (field_text l set star) (field-bytes set star)

  list-begins : (set : ℕ) (vs : List ℕ) → Inside l vs → including l 0 vs ≡ set → (set ≡ 0 → ⊥) → Begins (list_text vs)
  unfolding including list_text
  list-begins set [] h e z = absurd (z (sym e))
  list-begins set (v ∷ vs) h e z =
      begins-digit (number_text v) (after_commas vs) (number-some v) (number-bytes v (omega (arith, h.0.1, u.word, u.within)))

  pub field-begins : (set : ℕ) (star : Bool) → is_field l set star ≡ true → Begins (field_text l set star)
  unfolding is_field field_text star_text
  field-begins set true e = inl refl
  field-begins set false e =
      let t = (and-eq-true_iff (not (eqb set 0)) (eqb (including l 0 (members l set)) set)).0 e in
      list-begins set (members l set) (members-inside l set) (eqb-true _ set t.1) (eqb-false set 0 (not-true (eqb set 0) t.0))

  pub field-length : (set : ℕ) (star : Bool) → length (field_text l set star) ≤ 192
  unfolding field_text members
  field-length set true = omega (arith, star-length (step_of l set))
  field-length set false =
      omega (arith, list_length (members l set), having-length set (from_on l.first (l.bits - l.first)), from-length l.first (l.bits - l.first), u.word, u.within)
