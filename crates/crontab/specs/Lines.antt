-- The lines of a table (T2).
-- Assumes nothing.
use Rattle.std.specs.Prelude.{ℕ, Bool, true, false, cond, not, List, [], ◌∷◌, eqb}
use Rattle.octets.specs.Classes.{newline}

-- T2: a byte more at the front of the first line
unfoldable pub onto : ℕ → List (List ℕ) → List (List ℕ)
onto b [] = (b ∷ []) ∷ []
onto b (line ∷ lines) = (b ∷ line) ∷ lines

-- T2: a newline ends a line; bytes after the last one are a line, too
unfoldable pub lines_of : List ℕ → List (List ℕ)
lines_of [] = []
lines_of (b ∷ s) = let later = lines_of s in cond (eqb b newline) ([] ∷ later) (onto b later)

-- T3: not empty, and the last byte isn't a newline
unfoldable pub is_cut : List ℕ → Bool
is_cut [] = false
is_cut (b ∷ []) = not (eqb b newline)
is_cut (b ∷ c ∷ s) = is_cut (c ∷ s)

-- T3: whether no line follows
unfoldable pub is_last : List (List ℕ) → Bool
is_last [] = true
is_last (line ∷ lines) = false
