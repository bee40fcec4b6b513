-- The rules of the proleptic Gregorian calendar (G2, G3). How minutes are counted is in Dates.
-- Assumes nothing.
use Rattle.std.specs.Prelude.{ℕ, ◌-◌, ◌%◌, Bool, not, cond, ◌&&◌, ◌||◌, List, [], ◌∷◌, leb, eqb, get_or}

-- G2: divisible by 4 and not by 100, or divisible by 400
unfoldable pub leap : ℕ → Bool
leap y = eqb (y % 4) 0 && (not (eqb (y % 100) 0) || eqb (y % 400) 0)

-- G3: how many days a year has
unfoldable pub year_days : ℕ → ℕ
year_days y = cond (leap y) 366 365

-- G3: the lengths of January to December in a year that isn't leap
unfoldable pub month_table : List ℕ
month_table = 31 ∷ 28 ∷ 31 ∷ 30 ∷ 31 ∷ 30 ∷ 31 ∷ 31 ∷ 30 ∷ 31 ∷ 30 ∷ 31 ∷ []

-- G3: how long month m is, given whether the year is leap; a number that is no month has no days
unfoldable pub month_length : Bool → ℕ → ℕ
month_length b m = cond (leb 1 m && leb m 12) (cond (b && eqb m 2) 29 (get_or month_table (m - 1) 0)) 0

-- G3: how long a month of a year is
unfoldable pub month_days : ℕ → ℕ → ℕ
month_days y m = month_length (leap y) m
