-- The names of months and weekdays (F4).
-- Assumes nothing.
use Rattle.std.specs.Prelude.{ℕ, suc, ◌+◌, Bool, true, false, cond, ◌&&◌, List, [], ◌∷◌, leb, eqb, Option, Some, None}
use Rattle.octets.specs.Texts.{text}
use Rattle.field.specs.declared.Names.{Names}
use Rattle.field.specs.declared.Names.TheVariants.{Months, Weekdays}
use Rattle.field.specs.declared.Names.TheVariants as names

-- F4: a letter in lower case; any other byte as it is
unfoldable pub lower : ℕ → ℕ
lower b = cond (leb 65 b && leb b 90) (b + 32) b

-- F4: the bytes of a name, in any letter case
unfoldable pub alike : List ℕ → List ℕ → Bool
alike [] [] = true
alike (b ∷ s) (x ∷ name) = eqb (lower b) x && alike s name
alike [] (x ∷ name) = false
alike (b ∷ s) [] = false

-- F4: 1 to 12
unfoldable pub month_names : List (List ℕ)
month_names =
    text "jan" ∷ text "feb" ∷ text "mar" ∷ text "apr" ∷ text "may" ∷ text "jun"
    ∷ text "jul" ∷ text "aug" ∷ text "sep" ∷ text "oct" ∷ text "nov" ∷ text "dec"
    ∷ []

-- F5: the name that can be 0 or 7
abbrev pub sunday : List ℕ
sunday = text "sun"

-- F4: 0 to 6
unfoldable pub weekday_names : List (List ℕ)
weekday_names = sunday ∷ text "mon" ∷ text "tue" ∷ text "wed" ∷ text "thu" ∷ text "fri" ∷ text "sat" ∷ []

-- F4: the number of a name in a list, of which the first has the number n
unfoldable pub named : ℕ → List (List ℕ) → List ℕ → Option ℕ
named n [] s = None
named n (name ∷ names) s = let later = named (suc n) names s in cond (alike s name) (Some n) later

-- F4: the number of a name, by which names a field has
unfoldable pub name_of : Names → List ℕ → Option ℕ
name_of names.None s = None
name_of Months s = named 1 month_names s
name_of Weekdays s = named 0 weekday_names s

-- F5: whether bytes are the name `sun` in a weekday field
unfoldable pub is_sunday : Names → List ℕ → Bool
is_sunday names.None s = false
is_sunday Months s = false
is_sunday Weekdays s = alike s sunday
