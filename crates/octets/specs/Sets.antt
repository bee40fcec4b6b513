-- A field's set as a number: bit n is value n (F8).
-- Assumes nothing.
use Rattle.std.specs.Prelude.{ℕ, zero, suc, ◌-◌, ◌/◌, ◌%◌, ◌^◌, Bool, cond, List, [], ◌∷◌, ltb, eqb}
use Rattle.std.specs.Int.Bits.{bit_or}

-- F8: whether a set has a value
unfoldable pub has_bit : ℕ → ℕ → Bool
has_bit set n = eqb (set / 2 ^ n % 2) 1

-- F8: the set with one value more
unfoldable pub with_bit : ℕ → ℕ → ℕ
with_bit set n = bit_or set (2 ^ n)

-- F8: the same in a word, which has no bit from 64 on
unfoldable pub put : ℕ → ℕ → ℕ
put set n = cond (ltb n 64) (with_bit set n) set

-- ---- sets by their values, for examples

-- F8: the set with all of some values
unfoldable pub with_all : ℕ → List ℕ → ℕ
with_all set [] = set
with_all set (n ∷ ns) = with_all (with_bit set n) ns

-- F8: the set of some values
unfoldable pub set_of : List ℕ → ℕ
set_of ns = with_all 0 ns

-- F8: so many values from n on
unfoldable pub from_on : ℕ → ℕ → List ℕ
from_on n zero = []
from_on n (suc count) = n ∷ from_on (suc n) count

-- F8: the values from first to last
unfoldable pub up_to : ℕ → ℕ → List ℕ
up_to first last = from_on first (suc last - first)
