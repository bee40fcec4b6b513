-- The one text of a field's set and star flag (P4, P5), and which of them a field can mean (P11).
-- Assumes nothing.
use Rattle.std.specs.Prelude.{ℕ, suc, ◌-◌, Bool, true, false, not, cond, ◌&&◌, List, [], ◌∷◌, ◌++◌, eqb}
use Rattle.octets.specs.Search.{from}
use Rattle.octets.specs.Digits.{number_text}
use Rattle.octets.specs.Sets.{has_bit, from_on}
use Rattle.field.specs.declared.Limits.{Limits}
use Rattle.field.specs.Elements.{slash}
use Rattle.field.specs.Values.{values_of, including}
use Rattle.field.specs.Fields.{comma, asterisk}

-- ---- with its star flag

-- P4: the set of `*/n`; `*` is `*/1`
unfoldable pub star_set : Limits → ℕ → ℕ
star_set l n = including l 0 (values_of l.first l.last n)

-- P4: whether `*/n` gives the set
unfoldable pub gives : Limits → ℕ → ℕ → Bool
gives l set n = eqb (star_set l n) set

-- P4: the smallest n that gives the set. All past the last value give the first value alone, so the search ends there, with that n if none
-- gives the set.
unfoldable pub step_of : Limits → ℕ → ℕ
step_of l set = from (gives l set) (suc l.last) 1

-- P4: `*`, or `*/n`
unfoldable pub star_text : ℕ → List ℕ
star_text n = asterisk ∷ cond (eqb n 1) [] (slash ∷ number_text n)

-- ---- without it

-- P5: those of some values that a set has
unfoldable pub having : ℕ → List ℕ → List ℕ
having set [] = []
having set (v ∷ vs) = let more = having set vs in cond (has_bit set v) (v ∷ more) more

-- P5: all values of a set, rising. Only those with bits of their own are asked, so Sunday is 0.
unfoldable pub members : Limits → ℕ → List ℕ
members l set = having set (from_on l.first (l.bits - l.first))

-- P5: numbers, each after a comma
unfoldable pub after_commas : List ℕ → List ℕ
after_commas [] = []
after_commas (v ∷ vs) = comma ∷ number_text v ++ after_commas vs

-- P5: numbers, with commas between them
unfoldable pub list_text : List ℕ → List ℕ
list_text [] = []
list_text (v ∷ vs) = number_text v ++ after_commas vs

-- ---- a field

-- P4, P5: the text of a set and a star flag
unfoldable pub field_text : Limits → ℕ → Bool → List ℕ
field_text l set true = star_text (step_of l set)
field_text l set false = list_text (members l set)

-- P11: whether a field can mean them: some step gives the set; or the set isn't empty, and has values of the field only
unfoldable pub is_field : Limits → ℕ → Bool → Bool
is_field l set true = gives l set (step_of l set)
is_field l set false = not (eqb set 0) && eqb (including l 0 (members l set)) set
