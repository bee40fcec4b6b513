-- Numbers in decimal digits (P5).
-- Assumes nothing.
use Rattle.std.specs.Prelude.{ℕ, ◌+◌, ◌/◌, ◌%◌, cond, List, [], ◌∷◌, ltb}

-- P5: the byte of a digit
abbrev pub digit : ℕ → ℕ
digit n = 48 + n

-- P5: a number below 100, with no zero in front
unfoldable pub number_text : ℕ → List ℕ
number_text n = cond (ltb n 10) (digit n ∷ []) (digit (n / 10) ∷ digit (n % 10) ∷ [])
