-- Any bytes as a field (F2): `*`, `*/step`, or a comma list. Its form is judged before its elements (R32). A column is that of the field's
-- first byte.
-- Assumes nothing.
use Rattle.std.specs.Prelude.{ℕ, ◌+◌, Bool, true, false, cond, ◌&&◌, List, [], ◌∷◌, length, eqb, Option, Some, None, Result}
use Rattle.field.specs.declared.Limits.{Limits}
use Rattle.field.specs.declared.Allowed.{Allowed}
use Rattle.field.specs.declared.Fault.{Fault}
use Rattle.field.specs.declared.element.Element.{Element}
use Rattle.field.specs.Parts.{split}
use Rattle.field.specs.Numbers.{number_of}
use Rattle.field.specs.Elements.{from_to, ranging, is_element, element_of, slash}
use Rattle.field.specs.Refusals.{malformed}
use Rattle.field.specs.Judgement.{refuses, means, judged}

-- F2: between elements
abbrev pub comma : ℕ
comma = 44

-- F2: every value
abbrev pub asterisk : ℕ
asterisk = 42

-- ---- a comma list

-- F2: whether each part of a list is an element
unfoldable pub are_elements : Limits → List (List ℕ) → Bool
are_elements l [] = true
are_elements l (p ∷ ps) = is_element (element_of l p) && are_elements l ps

-- R32, F8: element by element from the left; the next one starts a comma after this one
unfoldable pub judged_all : Limits → ℕ → Result Allowed Fault → List (List ℕ) → Result Allowed Fault
judged_all l column so_far [] = so_far
judged_all l column so_far (p ∷ ps) = judged_all l (column + length p + 1) (judged l column so_far (element_of l p)) ps

-- R5, R32: a comma list
unfoldable pub list_field : Limits → ℕ → List ℕ → Result Allowed Fault
list_field l column s =
    cond (are_elements l (split comma s)) (judged_all l column (means 0 false) (split comma s)) (refuses malformed column)

-- ---- an asterisk, by what follows it: nothing, or a slash and a step

-- F7: first to last
unfoldable pub star_element : Limits → List ℕ → Option Element
star_element l [] = from_to l.first l.last 1
star_element l (b ∷ s) = cond (eqb b slash) (ranging (Some l.first) (Some l.last) (number_of s)) None

-- F7, F9: a field that begins with `*`
unfoldable pub star_field : Limits → ℕ → List ℕ → Result Allowed Fault
star_field l column s = judged l column (means 0 true) (star_element l s)

-- ---- any bytes as a field

-- F2, R5: any bytes as a field
unfoldable pub read_field : Limits → ℕ → List ℕ → Result Allowed Fault
read_field l column [] = refuses malformed column
read_field l column (b ∷ s) = cond (eqb b asterisk) (star_field l column s) (list_field l column (b ∷ s))
