-- `calendar::direct::date_at` meets its contract: the walk comes to the same date (`direct-is-walk`).
-- Assumes nothing.
use Prim.Native.Nat.{ℕ, ◌+◌, ◌*◌, ◌/◌, ◌%◌}
use native.Mathlib.Omega.{arith}
use lib.Dec.{leb}
use Rattle.calendar.specs.Dates.{weekday_of}
use Rattle.calendar.proofs.DirectDates.{direct_at, direct-is-walk, bit-small, months-left}
use Rattle.calendar.proofs.direct.date_at.Goals as goal

-- the day of the year that begins in March
abbrev from_march : ℕ → ℕ
from_march minute = (4 * ((4 * (minute / 1440 + 719468) + 3) % 146097 / 4) + 3) % 1461 / 4

pub overflow_add-result-2 : goal.overflow_add-result-2
overflow_add-result-2 c = omega (arith, bit-small (leb 306 (from_march c.args.minute)))

pub overflow_mul-result-2 : goal.overflow_mul-result-2
overflow_mul-result-2 c = omega (arith, bit-small (leb 306 (from_march c.args.minute)))

pub overflow_sub-result : goal.overflow_sub-result
overflow_sub-result c = months-left (from_march c.args.minute)

pub returns : goal.returns
unfolding direct_at weekday_of
returns c = direct-is-walk c.args.minute c.requires
