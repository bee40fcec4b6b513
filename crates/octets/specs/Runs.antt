-- Runs of bytes of one class (E3), and parts of bytes. Places count from 0.
-- Assumes nothing.
use Rattle.std.specs.Prelude.{ℕ, suc, ◌+◌, ◌-◌, Bool, true, cond, ◌&&◌, List, [], ◌∷◌, take, drop, eqb}
use Rattle.octets.specs.declared.class.Class.{Class}
use Rattle.octets.specs.Classes.{is_blank, of_class}

-- E3: how many bytes of a class are at the front
unfoldable pub run : Class → List ℕ → ℕ
run k [] = 0
run k (b ∷ s) = let more = run k s in cond (of_class k b) (suc more) 0

-- P11: whether all bytes are of a class
unfoldable pub are_of : Class → List ℕ → Bool
are_of k [] = true
are_of k (b ∷ s) = of_class k b && are_of k s

-- E3: where the run of a class that starts at a place ends
unfoldable pub skipped : Class → List ℕ → ℕ → ℕ
skipped k s at = at + run k (drop at s)

-- S5: how many bytes are left without the blanks at the end
unfoldable pub trimmed : List ℕ → ℕ
trimmed [] = 0
trimmed (b ∷ s) = let n = trimmed s in cond (is_blank b && eqb n 0) 0 (suc n)

-- S6, E7: the bytes from one place up to another, that one left out
unfoldable pub between : List ℕ → ℕ → ℕ → List ℕ
between s start end = take (end - start) (drop start s)
