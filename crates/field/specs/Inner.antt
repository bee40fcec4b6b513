-- What the functions inside promise each other. What a reader must believe is in Values and Written.
-- Assumes nothing.
use Rattle.std.specs.Prelude.{map, ◌≡◌, ℕ, ◌-◌, ◌*◌, ◌≤◌, ◌<◌, min, Bool, true, false, cond, ◌&&◌, List, [], ◌∷◌, eqb, ltb, length}
use Rattle.octets.specs.Sets.{has_bit}
use Rattle.field.specs.Names.{lower}
use Rattle.octets.specs.Passing.{count_below}
use Rattle.field.specs.declared.Limits.{Limits}
use Rattle.field.specs.Written.{after_commas, list_text}

-- the last value of a range that says something new: where all bits are in it, the value after the last doesn't
unfoldable pub last_new : Limits → ℕ → ℕ → ℕ
last_new l low high = cond ((eqb low 0 && ltb l.first high) && eqb high l.bits) (high - 1) high

-- limits whose values have bits in a word
abbrev pub InWord : Limits → Type 0
InWord l = (l.first ≤ l.last) × (l.last < 64) × (l.first ≤ l.bits)

-- what is left of a list to write: all of it where nothing is written yet, otherwise with a comma in front
unfoldable pub list_rest : Bool → List ℕ → List ℕ
list_rest true vs = list_text vs
list_rest false vs = after_commas vs

-- a value alone
unfoldable pub member_text : Bool → ℕ → List ℕ
member_text first v = list_rest first (v ∷ [])

-- how many bytes the values below n have in a list, each with a comma: three, less one for each of one digit
abbrev pub size_below : ℕ → ℕ → ℕ
size_below set n = 3 * count_below (has_bit set) n - count_below (has_bit set) (min n 10)

-- names of three letters that are in lower case
abbrev pub InLower : List (List ℕ) → Type 0
InLower names = (map (map lower) names ≡ names) × (map length names ≡ map (λ _. 3) names)
