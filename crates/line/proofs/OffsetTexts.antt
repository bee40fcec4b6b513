-- Offsets by their digits, any of them; and which settings say something of the offset.
-- Assumes nothing.
use Rattle.std.specs.Prelude.{Some, None}
use mathlib.Core.Path.{◌≡◌, refl}
use mathlib.Core.Bool.{Bool, true, false, cond, ◌&&◌, ◌||◌}
use mathlib.Core.List.{List, [], ◌∷◌}
use Prim.Native.Nat.{ℕ, ◌+◌, ◌-◌, ◌*◌, ◌≤◌}
use native.Mathlib.Omega.{arith}
use lib.IntN.{ℤ}
use lib.Dec.{eqb, leb}
use Rattle.octets.specs.Texts.{text}
use Rattle.field.proofs.ElementForms.{is_digit_lem}
use Rattle.line.specs.Words.{same}
use Rattle.line.specs.Offsets.{zone_name, is_offset, offset_of, is_formed, two_digits, hours_of, rest_of, minutes_of, is_behind, furthest, signed, zone_of, is_allowed_setting, in_force}
use Rattle.line.proofs.ExactWords.{same-is, same-itself}

-- a sign and four digits, as numbers
abbrev pub offset_text : Bool → ℕ → ℕ → ℕ → ℕ → List ℕ
offset_text behind a b c e = cond behind 45 43 ∷ (48 + a) ∷ (48 + b) ∷ 58 ∷ (48 + c) ∷ (48 + e) ∷ []

signs : (behind : Bool)
    → ((eqb (cond behind 45 43) 43 || eqb (cond behind 45 43) 45) ≡ true) × (eqb (cond behind 45 43) 45 ≡ behind)
signs true = (refl, refl)
signs false = (refl, refl)

pub offset-digits : (behind : Bool) (a b c e : ℕ) → a ≤ 9 → b ≤ 9 → c ≤ 9 → e ≤ 9
    → (is_offset (offset_text behind a b c e) ≡ (leb (10 * c + e) 59 && leb ((10 * a + b) * 60 + (10 * c + e)) (cond behind 720 840)))
    × (offset_of (offset_text behind a b c e) ≡ signed behind ((10 * a + b) * 60 + (10 * c + e)))
unfolding is_offset is_formed two_digits hours_of rest_of minutes_of is_behind furthest offset_of
offset-digits behind a b c e h i j k =
    let sign = signs behind in
    let hours : (48 + a - 48) * 10 + (48 + b - 48) ≡ 10 * a + b = omega arith in
    let minutes : (48 + c - 48) * 10 + (48 + e - 48) ≡ 10 * c + e = omega arith in
    (rw (sign.0, sign.1, hours, minutes, is_digit_lem a h, is_digit_lem b i, is_digit_lem c j, is_digit_lem e k), rw (sign.1, hours, minutes))

pub other-stands : (name value : List ℕ) → (name ≡ text "CRON_TZ" → ⊥) → (is_allowed_setting name value ≡ true) × (zone_of name value ≡ None)
unfolding is_allowed_setting zone_of
other-stands name value n = rw (not_same (same name zone_name) refl) (refl, refl)
  where
    not_same : (b : Bool) → same name zone_name ≡ b → same name zone_name ≡ false
    not_same true e = absurd (n (same-is name zone_name e))
    not_same false e = e

pub zone-stands-is : (value : List ℕ) → (is_allowed_setting (text "CRON_TZ") value ≡ is_offset value) × (zone_of (text "CRON_TZ") value ≡ Some (offset_of value))
unfolding is_allowed_setting zone_of
zone-stands-is value = rw (same-itself zone_name) (refl, refl)

pub force-is : (o m : ℤ) → (in_force None o ≡ o) × (in_force (Some m) o ≡ m)
unfolding in_force
force-is o m = (refl, refl)
