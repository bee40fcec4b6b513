-- The elements of a field's list (F2): `n`, `n-m` and `n-m/step`, with numbers (F3) and names (F4, F5, W4).
-- Assumes nothing.
use Rattle.std.specs.Prelude.{ℕ, Bool, true, false, not, cond, ◌&&◌, List, Option, Some, None}
use Rattle.field.specs.declared.element.Element.{Element}
use Rattle.field.specs.Parts.{contains, before, after}
use Rattle.field.specs.declared.Names.{Names}
use Rattle.field.specs.declared.Limits.{Limits}
use Rattle.field.specs.Numbers.{number_of}
use Rattle.field.specs.Names.{name_of, is_sunday}

-- F6: the values from low to high, each step-th
abbrev pub from_to : ℕ → ℕ → ℕ → Option Element
from_to low high step = Some (record { low = low; high = high; step = step })

-- F2: whether bytes were read as an element
unfoldable pub is_element : Option Element → Bool
is_element (Some e) = true
is_element None = false

-- F6: from low to high, each step-th, if all three are numbers
unfoldable pub ranging : Option ℕ → Option ℕ → Option ℕ → Option Element
ranging (Some low) (Some high) (Some step) = from_to low high step
ranging (Some low) (Some high) None = None
ranging (Some low) None step = None
ranging None high step = None

-- F2: between the ends of a range
abbrev pub dash : ℕ
dash = 45

-- F2: before a step
abbrev pub slash : ℕ
slash = 47

-- ---- the ends of a range

-- F4: a number, or else a name
unfoldable pub number_or : Option ℕ → Option ℕ → Option ℕ
number_or (Some n) name = Some n
number_or None name = name

-- F4: one end of a range
unfoldable pub end_of : Names → List ℕ → Option ℕ
end_of names s = number_or (number_of s) (name_of names s)

-- F5, W4: the upper end, by how both ends are written
unfoldable pub upper_of : Limits → List ℕ → List ℕ → Option ℕ
upper_of l low high = cond ((is_sunday l.names high && not (is_sunday l.names low)) && not l.wraps) (Some 7) (end_of l.names high)

-- ---- an element

-- F2, F6: what follows the dash: `m`, or `m/step`
unfoldable pub after_dash : Limits → List ℕ → List ℕ → Option Element
after_dash l low s =
    cond (contains slash s)
    (ranging (end_of l.names low) (upper_of l low (before slash s)) (number_of (after slash s)))
    (ranging (end_of l.names low) (upper_of l low s) (Some 1))

-- F2, F6: any bytes as an element
unfoldable pub element_of : Limits → List ℕ → Option Element
element_of l s =
    cond (contains dash s)
    (after_dash l (before dash s) (after dash s))
    (ranging (end_of l.names s) (end_of l.names s) (Some 1))
