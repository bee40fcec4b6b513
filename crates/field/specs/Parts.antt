-- Bytes divided by a byte (F2): what is before the first one, what is after it, and all parts between them.
-- Assumes nothing.
use Rattle.std.specs.Prelude.{ℕ, suc, Bool, cond, List, [], ◌∷◌, length, take, drop, eqb, ltb}
use Rattle.octets.specs.declared.class.Class.TheVariants.{Not}
use Rattle.octets.specs.Runs.{run}

-- F2: whether the byte is there
unfoldable pub contains : ℕ → List ℕ → Bool
contains b s = ltb (run (Not b) s) (length s)

-- F2: up to the first one
unfoldable pub before : ℕ → List ℕ → List ℕ
before b s = take (run (Not b) s) s

-- F2: after the first one
unfoldable pub after : ℕ → List ℕ → List ℕ
after b s = drop (suc (run (Not b) s)) s

-- F2: a part after each b, up to the next
unfoldable pub after_each : ℕ → List ℕ → List (List ℕ)
after_each b [] = []
after_each b (x ∷ s) = let more = after_each b s in cond (eqb x b) (before b s ∷ more) more

-- F2: all parts: the first, and one after each b
unfoldable pub split : ℕ → List ℕ → List (List ℕ)
split b s = before b s ∷ after_each b s
