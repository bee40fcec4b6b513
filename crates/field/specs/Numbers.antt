-- Numbers and steps (F3).
-- Assumes nothing.
use Rattle.std.specs.Prelude.{ℕ, ◌+◌, ◌-◌, ◌*◌, Bool, true, cond, ◌&&◌, List, [], ◌∷◌, length, leb, Option, Some, None}

-- F3: a decimal digit
unfoldable pub is_digit : ℕ → Bool
is_digit b = leb 48 b && leb b 57

-- F3: all are digits
unfoldable pub are_digits : List ℕ → Bool
are_digits [] = true
are_digits (b ∷ s) = is_digit b && are_digits s

-- F3: the value of digits after those that have a value
unfoldable pub value_from : ℕ → List ℕ → ℕ
value_from v [] = v
value_from v (b ∷ s) = value_from (v * 10 + (b - 48)) s

-- F3: four
abbrev pub max_digits : ℕ
max_digits = 4

-- F3: any bytes as a number
unfoldable pub number_of : List ℕ → Option ℕ
number_of s = cond (leb 1 (length s) && leb (length s) max_digits && are_digits s) (Some (value_from 0 s)) None
