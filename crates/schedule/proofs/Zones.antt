-- Which number stands for an offset, in plain numbers.
-- Assumes nothing.
use mathlib.Core.Path.{◌≡◌, refl}
use Rattle.schedule.specs.Local.{max_west}
use Prim.Native.Nat.{ℕ, suc, ◌+◌, ◌<◌}
use native.Mathlib.Omega.{arith}
use lib.IntN.{pos, negsuc}
use Rattle.schedule.specs.Local.{biased_offset}

-- 720 more than the offset, which is -(n + 1) for the second kind
pub biased-offset-is : ((n : ℕ) → biased_offset (pos n) ≡ max_west + n) × ((n : ℕ) → n < max_west → biased_offset (negsuc n) + suc n ≡ max_west)
biased-offset-is = ((λ n. refl), (λ n h. omega arith))
