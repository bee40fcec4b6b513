-- The laws of the normal form for any table and buffer, and of the quotes for any bytes: what they need is all that is said here.
-- Assumes nothing.
use Rattle.refusal.specs.declared.Refusal.TheVariants.{TooShort, TooLong}
use Rattle.std.specs.Prelude.{Ok, Err}
use mathlib.Core.Path.{◌≡◌}
use mathlib.Core.Bool.{true, false}
use mathlib.Core.List.{List, [], ◌∷◌, ◌++◌}
use Prim.Native.Nat.{ℕ, ◌+◌, ◌≤◌, ◌<◌}
use native.Mathlib.Omega.{arith}
use lib.ListN.{length, drop}
use Rattle.octets.proofs.Written.{fills}
use Rattle.octets.specs.declared.class.Class.TheVariants.{Not}
use Rattle.octets.specs.Runs.{are_of}
use Rattle.field.specs.declared.Dialect.{Dialect}
use Rattle.field.specs.declared.Dialect.TheVariants.{Wrapping}
use Rattle.crontab.specs.declared.table.TableFault.{TableFault}
use Rattle.crontab.specs.Tables.{table_of, refusal_in}
use Rattle.normal.specs.Meanings.{Item, of_user, meaning_of}
use Rattle.normal.specs.Texts.{is_bare_name, is_bare_value, name_text, value_text, item_text, normal_text, fits}
use Rattle.normal.specs.NormalForms.{normal_form}
use Rattle.normal.proofs.Composition.{text-one, in-double, in-single, form-refuses, form-too-long, form-no-room, form-writes}

-- ---- what the call answers

module _ (d : Dialect) (s buffer : List ℕ) where
  abbrev normal : List ℕ
  normal = normal_text (meaning_of d s)

  abbrev refusal : ℕ
  refusal = refusal_in (table_of (of_user d) s)

  -- form-refuses, form-too-long, form-no-room, form-writes
  pub form-used :
      ((f : TableFault) → table_of (of_user d) s ≡ Err f → normal_form d s buffer ≡ record { answer = Err f.refusal; buffer = buffer })
      × (refusal ≡ 0 → fits (meaning_of d s) ≡ false → normal_form d s buffer ≡ record { answer = Err TooLong; buffer = buffer })
      × (refusal ≡ 0 → fits (meaning_of d s) ≡ true → length buffer < length normal → normal_form d s buffer ≡ record { answer = Err TooShort; buffer = buffer })
      × (refusal ≡ 0 → fits (meaning_of d s) ≡ true → length normal ≤ length buffer
      → normal_form d s buffer ≡ record { answer = Ok (length normal); buffer = normal ++ drop (length normal) buffer })
  form-used = (form-refuses d s buffer, form-too-long d s buffer, form-no-room d s buffer, form-writes d s buffer)

-- in the second dialect, with just enough room, and with a byte less
pub form-room : (s buffer : List ℕ) → refusal_in (table_of (of_user Wrapping) s) ≡ 0 → fits (meaning_of Wrapping s) ≡ true
    → let normal = normal_text (meaning_of Wrapping s) in
    (length buffer ≡ length normal → normal_form Wrapping s buffer ≡ record { answer = Ok (length normal); buffer = normal })
    × (length buffer + 1 ≡ length normal → normal_form Wrapping s buffer ≡ record { answer = Err TooShort; buffer = buffer })
form-room s buffer good fit =
    let normal = normal_text (meaning_of Wrapping s) in (
      (λ e. rw (fills normal buffer e) at (form-writes Wrapping s buffer good fit (omega (arith, e)))),
      (λ e. form-no-room Wrapping s buffer good fit (omega (arith, e))),
    )

-- text-one
pub one-used : (i : Item) → normal_text (i ∷ []) ≡ item_text i ++ 10 ∷ []
one-used i = text-one i

-- ---- quotes: in-double, in-single

module _ (s : List ℕ) where
  pub double-used : are_of (Not 34) s ≡ true → (is_bare_name s ≡ false → name_text s ≡ 34 ∷ (s ++ 34 ∷ [])) × (is_bare_value s ≡ false → value_text s ≡ 34 ∷ (s ++ 34 ∷ []))
  double-used e = in-double s e

  pub single-used : are_of (Not 34) s ≡ false → (is_bare_name s ≡ false → name_text s ≡ 39 ∷ (s ++ 39 ∷ [])) × (is_bare_value s ≡ false → value_text s ≡ 39 ∷ (s ++ 39 ∷ []))
  single-used e = in-single s e
