-- A text at a place of a buffer that may be too short: the bytes that fit are written, all others stay, and the place after the text is
-- answered either way. So a text is measured by writing it to a buffer of a byte. Only contracts of inner functions cite these.
-- Assumes nothing.
use Rattle.std.specs.Prelude.{◌≡◌, cond, List, [], ◌∷◌, ℕ, zero, suc, ◌+◌, ◌≤◌, leb, length}

-- at the front
unfoldable pub clipped_front : List ℕ → List ℕ → List ℕ
clipped_front [] b = b
clipped_front (x ∷ t) [] = []
clipped_front (x ∷ t) (y ∷ b) = x ∷ clipped_front t b

-- at a place
unfoldable pub clipped : ℕ → List ℕ → List ℕ → List ℕ
clipped zero t b = clipped_front t b
clipped (suc at) t [] = []
clipped (suc at) t (y ∷ b) = y ∷ clipped at t b

-- the last number of 64 bits
abbrev pub last_place : ℕ
last_place = 18446744073709551615

-- a place, as far as 64 bits can say it
unfoldable pub saturated : ℕ → ℕ
saturated n = cond (leb n last_place) n last_place

-- a text was written at a place, and the place after it was answered
pub record Wrote (at : ℕ) (t before : List ℕ) (next : ℕ) (now : List ℕ) : Type 0 where
  pub short : length before ≤ last_place
  pub bytes : now ≡ clipped at t before
  pub size : length now ≡ length before
  pub place : next ≡ saturated (at + length t)
