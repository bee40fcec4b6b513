-- What a field's set has, in other words than those that build it (F6, F7, F8, W1). The laws that say so are in `proofs.Theorems`.
-- Assumes nothing.
use Rattle.std.specs.Prelude.{ℕ, ◌+◌, ◌-◌, ◌%◌, Bool, false, cond, ◌&&◌, ◌||◌, List, [], ◌∷◌, ◌++◌, map, ltb, leb, eqb, Option, Some, None}
use Rattle.field.specs.declared.Limits.{Limits}
use Rattle.field.specs.declared.element.Element.{Element}
use Rattle.field.specs.Parts.{split}
use Rattle.field.specs.Elements.{element_of}
use Rattle.field.specs.Values.{range_of, bit_of}
use Rattle.field.specs.Fields.{comma, asterisk, star_element}

-- F8: whether a value is among some
unfoldable pub is_in : ℕ → List ℕ → Bool
is_in n [] = false
is_in n (v ∷ vs) = eqb v n || is_in n vs

-- F6: in the range, and a multiple of the step above its low end
unfoldable pub is_step : ℕ → ℕ → ℕ → ℕ → Bool
is_step low high step v = leb low v && (leb v high && eqb ((v - low) % step) 0)

-- W1: how far it is from low up to v, past the last value and on from the first if v is below
unfoldable pub distance : Limits → ℕ → ℕ → ℕ
distance l low v = cond (ltb v low) (v + (l.bits - l.first) - low) (v - low)

-- F6, W1, W2: no further from low than high is, and a multiple of the step
unfoldable pub is_in_range : Limits → ℕ → ℕ → ℕ → ℕ → Bool
is_in_range l low high step v = leb (distance l low v) (distance l low high) && eqb (distance l low v % step) 0

-- F9: begins with `*`
unfoldable pub is_star : List ℕ → Bool
is_star [] = false
is_star (b ∷ s) = eqb b asterisk

-- F2: the elements of a field, whatever its form
unfoldable pub elements_of : Limits → List ℕ → List (Option Element)
elements_of l [] = []
elements_of l (b ∷ s) = cond (eqb b asterisk) (star_element l s ∷ []) (map (element_of l) (split comma (b ∷ s)))

-- F8: the bits of an element's values
unfoldable pub element_bits : Limits → Option Element → List ℕ
element_bits l (Some e) = map (bit_of l) (range_of l e.low e.high e.step)
element_bits l None = []

-- F8: the bits of all elements' values
unfoldable pub bits_of : Limits → List (Option Element) → List ℕ
bits_of l [] = []
bits_of l (e ∷ es) = element_bits l e ++ bits_of l es
