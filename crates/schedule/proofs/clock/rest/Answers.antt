-- `schedule::clock::rest` meets its contract.
-- Assumes nothing.
use mathlib.Core.Path.{◌≡◌, ◌∙◌}
use Prim.Native.Nat.{◌+◌, ◌-◌}
use native.Mathlib.Omega.{arith}
use lib.IntN.{ℤ}
use Rattle.calendar.specs.Dates.{last_minute}
use Rattle.schedule.specs.Local.{biased_offset}
use Rattle.schedule.specs.Clocks.{clock}
use Rattle.schedule.proofs.Offsets.{passed}
use Rattle.schedule.proofs.clock.rest.Goals as goal

pub returns-then-minute-ge-LAST_MINUTE : goal.returns-then-minute-ge-LAST_MINUTE
unfolding clock
returns-then-minute-ge-LAST_MINUTE c = let e : last_minute - c.args.minute ≡ 0 = omega arith in rw e

pub returns : goal.returns
returns c =
    c.clock.ensures ∙ passed (λ (z : ℤ). clock c.args.s (biased_offset z) (last_minute - c.args.minute) (c.args.minute + 1)) c.ranges.offset
