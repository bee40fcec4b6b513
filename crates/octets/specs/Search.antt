-- The least number that passes a test (N1).
-- Assumes nothing.
use Rattle.std.specs.Prelude.{ℕ, zero, suc, ◌+◌, ◌-◌, Bool, cond, leb}

-- N1: among n numbers from a on, the first that passes, or the number after them if none does
unfoldable pub least_of : (ℕ → Bool) → ℕ → ℕ → ℕ
least_of p zero a = a
least_of p (suc n) a = let later = least_of p n (suc a) in cond (p a) a later

-- N1: from a on and below e; e if none passes
unfoldable pub from : (ℕ → Bool) → ℕ → ℕ → ℕ
from p e a = least_of p (e - a) a

-- Q5: whether a number above a and up to b passes
unfoldable pub passes : (ℕ → Bool) → ℕ → ℕ → Bool
passes p a b = leb (from p (b + 1) (a + 1)) b
