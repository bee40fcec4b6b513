-- The numbers of a range that pass a test, rising (I1, I6), and how many there are (L2).
-- Assumes nothing.
use Rattle.std.specs.Prelude.{ℕ, zero, suc, ◌+◌, ◌-◌, Bool, cond, ◌&&◌, List, [], ◌∷◌, eqb}

-- I1: among n numbers from a on
unfoldable pub passing : (ℕ → Bool) → ℕ → ℕ → List ℕ
passing p zero a = []
passing p (suc n) a = let later = passing p n (suc a) in cond (p a) (a ∷ later) later

-- I1, I6: from a on and up to b
unfoldable pub passing_up_to : (ℕ → Bool) → ℕ → ℕ → List ℕ
passing_up_to p b a = passing p (b + 1 - a) a

-- L2: how many numbers below n pass
unfoldable pub count_below : (ℕ → Bool) → ℕ → ℕ
count_below p zero = 0
count_below p (suc n) = let before = count_below p n in cond (p n) (suc before) before

-- L3: a number that passes and has this rank among those that do
unfoldable pub is_ranked : (ℕ → Bool) → ℕ → ℕ → Bool
is_ranked p rank k = p k && eqb (count_below p k) rank
