-- The order of dates (G10).
-- Assumes nothing.
use Rattle.std.specs.Prelude.{ℕ, ◌<◌, ◌≡◌, ◌⊎◌, List, [], ◌∷◌}
use Rattle.calendar.specs.declared.Date.{Date}

-- G10: what distinguishes a date from others, the greatest part first
unfoldable pub parts : Date → List ℕ
parts d = d.year ∷ d.month ∷ d.day ∷ d.hour ∷ d.minute ∷ []

-- G10: the first numbers that differ decide
unfoldable pub Earlier : List ℕ → List ℕ → Type 0
Earlier [] ys = ⊥
Earlier (x ∷ xs) [] = ⊥
Earlier (x ∷ xs) (y ∷ ys) = (x < y) ⊎ ((x ≡ y) × Earlier xs ys)
