-- The values of a range with its step (F6, W1), and their bits in the set (F8).
-- Assumes nothing.
use Rattle.std.specs.Prelude.{ℕ, zero, suc, ◌+◌, ◌-◌, ◌/◌, cond, List, [], ◌∷◌, ltb}
use Rattle.field.specs.declared.Limits.{Limits}
use Rattle.octets.specs.Sets.{put}

-- F6: n values from v on, each step-th
unfoldable pub every_step : ℕ → ℕ → ℕ → List ℕ
every_step v step zero = []
every_step v step (suc n) = v ∷ every_step (v + step) step n

-- F6: low, and each step-th value after it, up to high
unfoldable pub values_of : ℕ → ℕ → ℕ → List ℕ
values_of low high step = every_step low step (suc ((high - low) / step))

-- W1: the last value of a range; if its high end is below its low end, as far past the last bit as the high end is past the first value
unfoldable pub last_of : Limits → ℕ → ℕ → ℕ
last_of l low high = cond (ltb high low) (l.bits + (high - l.first)) high

-- F6, W1: the values of a range, the step counting on across the join
unfoldable pub range_of : Limits → ℕ → ℕ → ℕ → List ℕ
range_of l low high step = values_of low (last_of l low high) step

-- F8, W1: the bit of a value: its own, or past the last one counted on from the first value
unfoldable pub bit_of : Limits → ℕ → ℕ
bit_of l v = cond (ltb v l.bits) v (l.first + (v - l.bits))

-- F8: a set with values more
unfoldable pub including : Limits → ℕ → List ℕ → ℕ
including l set [] = set
including l set (v ∷ vs) = including l (put set (bit_of l v)) vs
