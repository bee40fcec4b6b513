-- A field of the rising dialect, with nothing that wraps: `proofs.Theorems.first-dialect-same` says that the wrapping dialect (W1 to W6)
-- changes nothing in it (T8).
-- Assumes nothing.
use Rattle.std.specs.Prelude.{ℕ, ◌+◌, ◌-◌, Bool, true, false, not, cond, ◌&&◌, ◌||◌, List, [], ◌∷◌, length, ltb, eqb, Option, Some, None, Ok, Err, Result}
use Rattle.octets.specs.Sets.{put}
use Rattle.field.specs.declared.Names.{Names}
use Rattle.field.specs.declared.Limits.{Limits}
use Rattle.field.specs.declared.Allowed.{Allowed}
use Rattle.field.specs.declared.Fault.{Fault}
use Rattle.field.specs.declared.element.Element.{Element}
use Rattle.field.specs.Parts.{contains, before, after, split}
use Rattle.field.specs.Numbers.{number_of}
use Rattle.field.specs.Names.{is_sunday}
use Rattle.field.specs.Elements.{is_element, ranging, dash, slash, end_of}
use Rattle.field.specs.Values.{values_of}
use Rattle.field.specs.Refusals.{malformed, out_of_limits, reversed, step_zero}
use Rattle.field.specs.Judgement.{refuses, means, outside}
use Rattle.field.specs.Fields.{comma, asterisk, star_element}

-- ---- values, and their bits: past the last counted from 0 again

-- F8: the bit of a value; past the last one it counts from 0 again
unfoldable pub first_bit : Limits → ℕ → ℕ
first_bit l v = cond (ltb v l.bits) v (v - l.bits)

-- F8: a set with values more
unfoldable pub first_including : Limits → ℕ → List ℕ → ℕ
first_including l set [] = set
first_including l set (v ∷ vs) = first_including l (put set (first_bit l v)) vs

-- ---- elements

-- F5: the upper end of a range
unfoldable pub first_upper : Names → List ℕ → List ℕ → Option ℕ
first_upper names low high = cond (is_sunday names high && not (is_sunday names low)) (Some 7) (end_of names high)

-- F2, F6: what follows the dash
unfoldable pub first_after_dash : Names → List ℕ → List ℕ → Option Element
first_after_dash names low s =
    cond (contains slash s)
    (ranging (end_of names low) (first_upper names low (before slash s)) (number_of (after slash s)))
    (ranging (end_of names low) (first_upper names low s) (Some 1))

-- F2, F6: any bytes as an element
unfoldable pub first_element : Names → List ℕ → Option Element
first_element names s =
    cond (contains dash s)
    (first_after_dash names (before dash s) (after dash s))
    (ranging (end_of names s) (end_of names s) (Some 1))

-- R6, R7, R8: the result so far, and with one element more
unfoldable pub first_judged : Limits → ℕ → Result Allowed Fault → Option Element → Result Allowed Fault
first_judged l column (Err fault) e = Err fault
first_judged l column (Ok v) None = refuses malformed column
first_judged l column (Ok v) (Some e) =
    cond (outside l e.low || outside l e.high)
    (refuses out_of_limits column)
    (cond (ltb e.high e.low)
    (refuses reversed column)
    (cond (eqb e.step 0)
    (refuses step_zero column)
    (means (first_including l v.set (values_of e.low e.high e.step)) v.star)))

-- ---- a field

-- F2: whether each part of a list is an element
unfoldable pub are_first : Names → List (List ℕ) → Bool
are_first names [] = true
are_first names (p ∷ ps) = is_element (first_element names p) && are_first names ps

-- R32: element by element from the left
unfoldable pub first_judged_all : Limits → ℕ → Result Allowed Fault → List (List ℕ) → Result Allowed Fault
first_judged_all l column so_far [] = so_far
first_judged_all l column so_far (p ∷ ps) = first_judged_all l (column + length p + 1) (first_judged l column so_far (first_element l.names p)) ps

-- R5, R32: a comma list
unfoldable pub first_list : Limits → ℕ → List ℕ → Result Allowed Fault
first_list l column s =
    cond (are_first l.names (split comma s)) (first_judged_all l column (means 0 false) (split comma s)) (refuses malformed column)

-- F2, R5: any bytes as a field
unfoldable pub first_field : Limits → ℕ → List ℕ → Result Allowed Fault
first_field l column [] = refuses malformed column
first_field l column (b ∷ s) = cond (eqb b asterisk) (first_judged l column (means 0 true) (star_element l s)) (first_list l column (b ∷ s))
