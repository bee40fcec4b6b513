-- What holds of each byte of a text.
-- Assumes nothing.
use mathlib.Core.List.{List, [], ◌∷◌, ◌++◌}
use Prim.Native.Nat.{ℕ}

abbrev pub Each : (ℕ → Type 0) → List ℕ → Type 0
Each P [] = Unit {0}
Each P (b ∷ s) = P b × Each P s

pub each_append : (P : ℕ → Type 0) (s t : List ℕ) → Each P s → Each P t → Each P (s ++ t)
each_append P [] t h k = k
each_append P (b ∷ s) t h k = (h.0, each_append P s t h.1 k)

-- what follows for a byte follows for each
pub each-so : (P Q : ℕ → Type 0) → ((b : ℕ) → P b → Q b) → (s : List ℕ) → Each P s → Each Q s
each-so P Q so [] h = tt
each-so P Q so (b ∷ s) h = (so b h.0, each-so P Q so s h.1)
