-- Laws of a field by its first byte.
-- Assumes nothing.
use Rattle.std.specs.Prelude.{Some, None}
use mathlib.Core.Path.{◌≡◌, refl}
use mathlib.Core.List.{List, [], ◌∷◌}
use Prim.Native.Nat.{ℕ, suc, ◌-◌, ◌<◌}
use native.Mathlib.Omega.{arith}
use lib.ListN.{length, take, drop, get_or}
use mathlib.Core.Bool.{true}
use lib.Seq.{take_all}
use borrow.Author.Tests.{eq-eqb, ne_eqb}
use Rattle.field.specs.declared.Limits.{Limits}
use Rattle.field.specs.Numbers.{number_of}
use Rattle.field.specs.Elements.{from_to, ranging}
use Rattle.field.specs.Refusals.{malformed}
use Rattle.field.specs.Judgement.{refuses, means, judged}
use Rattle.field.specs.Fields.{list_field, star_element, star_field, read_field}

-- all but the first byte
abbrev rest : List ℕ → List ℕ
rest s = take (length s - 1) (drop 1 s)

rest-cons : (b : ℕ) (s : List ℕ) → rest (b ∷ s) ≡ s
rest-cons b s = take_all (suc (length s) - 1) s (omega arith)

module _ (l : Limits) where
  pub star-alone : (s : List ℕ) → length s ≡ 0 → star_element l s ≡ from_to l.first l.last 1
  unfolding star_element
  star-alone [] e = refl
  star-alone (b ∷ s) e = absurd (omega arith)

  pub star-step : (s : List ℕ) → 0 < length s → get_or s 0 0 ≡ 47 → star_element l s ≡ ranging (Some l.first) (Some l.last) (number_of (rest s))
  unfolding star_element
  star-step [] h e = absurd (omega arith)
  star-step (b ∷ s) h e = rw (eq-eqb b 47 e, rest-cons b s)

  pub star-other : (s : List ℕ) → 0 < length s → (get_or s 0 0 ≡ 47 → ⊥) → star_element l s ≡ None
  unfolding star_element
  star-other [] h e = absurd (omega arith)
  star-other (b ∷ s) h e = rw (ne_eqb b 47 e)

module _ (l : Limits) (column : ℕ) where
  pub read-empty : (s : List ℕ) → length s ≡ 0 → read_field l column s ≡ refuses malformed column
  unfolding read_field
  read-empty [] e = refl
  read-empty (b ∷ s) e = absurd (omega arith)

  pub read-star : (s : List ℕ) → 0 < length s → get_or s 0 0 ≡ 42 → read_field l column s ≡ judged l column (means 0 true) (star_element l (rest s))
  unfolding read_field star_field
  read-star [] h e = absurd (omega arith)
  read-star (b ∷ s) h e = rw (eq-eqb b 42 e, rest-cons b s)

  pub read-list : (s : List ℕ) → 0 < length s → (get_or s 0 0 ≡ 42 → ⊥) → read_field l column s ≡ list_field l column s
  unfolding read_field
  read-list [] h e = absurd (omega arith)
  read-list (b ∷ s) h e = rw (ne_eqb b 42 e)
