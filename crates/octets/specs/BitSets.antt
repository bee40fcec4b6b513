-- Sets of numbers in words of 64 bits: number n is bit n % 64 of word n / 64. A word that isn't there has no bit. Only contracts of inner
-- functions cite these.
-- Assumes nothing.
use Rattle.std.specs.Prelude.{ℕ, zero, suc, ◌/◌, ◌%◌, Bool, cond, List, get_or, set, replicate}
use Rattle.octets.specs.Sets.{has_bit, with_bit}

unfoldable pub has_member : List ℕ → ℕ → Bool
has_member words n = has_bit (get_or words (n / 64) 0) (n % 64)

unfoldable pub with_member : List ℕ → ℕ → List ℕ
with_member words n = set words (n / 64) (with_bit (get_or words (n / 64) 0) (n % 64))

-- in so many words, the numbers below n that pass a test
unfoldable pub bit_set_of : ℕ → (ℕ → Bool) → ℕ → List ℕ
bit_set_of w p zero = replicate w 0
bit_set_of w p (suc n) = let m = bit_set_of w p n in cond (p n) (with_member m n) m
