-- A field that begins with `*`, by what follows, in either dialect: nothing, or a slash and a step; all else is 5. Its values are the first and each step-th
-- after it, up to the last.
-- Assumes nothing.
use Rattle.std.specs.Prelude.{Some, None}
use mathlib.Core.Path.{◌≡◌, refl}
use mathlib.Core.Bool.{true, ◌&&◌}
use mathlib.Core.List.{List, [], ◌∷◌}
use Prim.Native.Nat.{ℕ, ◌-◌, ◌%◌, ◌≤◌, ◌<◌}
use native.Mathlib.Omega.{arith}
use lib.Dec.{eqb, leb}
use borrow.Author.Tests.{le-ltb, ne_eqb}
use Rattle.octets.specs.Sets.{has_bit}
use Rattle.field.specs.declared.Limits.{Limits}
use Rattle.field.specs.Numbers.{number_of}
use Rattle.field.specs.Elements.{from_to, slash, ranging}
use Rattle.field.specs.Refusals.{malformed, step_zero}
use Rattle.field.specs.Judgement.{refuses, means, outside, judged}
use Rattle.field.specs.Fields.{asterisk, star_element, star_field, read_field}
use Rattle.field.specs.Written.{star_set}
use Rattle.field.proofs.UsualLimits.{Usual}
use Rattle.field.proofs.StarTexts.{judged-star}
use Rattle.field.proofs.Dialects.{star-has}

pub step-none : (l : Limits) → l.first ≤ l.last → (column : ℕ) → judged l column (means 0 true) (from_to l.first l.last 0) ≡ refuses step_zero column
unfolding judged outside
step-none l h column = rw (le-ltb l.first l.first (omega arith), le-ltb l.last l.first h, le-ltb l.last l.last (omega arith)) refl

module _ (l : Limits) (u : Usual l) (column : ℕ) where
  -- `*`
  pub star-alone : read_field l column (asterisk ∷ []) ≡ means (star_set l 1) true
  unfolding read_field star_field star_element
  star-alone = judged-star l u.order column 1 (omega arith)

  -- `*/` and anything
  module _ (s : List ℕ) where
    pub star-stepped : {n : ℕ} → number_of s ≡ Some n → 1 ≤ n → read_field l column (asterisk ∷ slash ∷ s) ≡ means (star_set l n) true
    unfolding read_field star_field star_element ranging
    star-stepped {n} e h = rw e (judged-star l u.order column n h)

    pub star-zero : number_of s ≡ Some 0 → read_field l column (asterisk ∷ slash ∷ s) ≡ refuses step_zero column
    unfolding read_field star_field star_element ranging
    star-zero e = rw e (step-none l u.order column)

    pub star-malformed : number_of s ≡ None → read_field l column (asterisk ∷ slash ∷ s) ≡ refuses malformed column
    unfolding read_field star_field star_element ranging judged
    star-malformed e = rw e refl

    -- `*` and any other byte
    pub star-other : (x : ℕ) → (x ≡ slash → ⊥) → read_field l column (asterisk ∷ x ∷ s) ≡ refuses malformed column
    unfolding read_field star_field star_element judged
    star-other x n = rw (ne_eqb x 47 n) refl

-- the values of `*/n`, and of `*` for n = 1
pub star-values : (l : Limits) → Usual l → (n : ℕ) → 1 ≤ n → (v : ℕ) → v < l.bits → has_bit (star_set l n) v ≡ (leb l.first v && eqb ((v - l.first) % n) 0)
star-values l u n h v k = star-has l u n h v k
