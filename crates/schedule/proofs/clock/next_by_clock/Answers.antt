-- `schedule::clock::next_by_clock` meets its contract, by what the walk over the cycle found.
-- Assumes nothing.
use mathlib.Core.Path.{◌∙◌}
use Prim.Native.Nat.{◌+◌, ◌-◌}
use lib.IntN.{ℤ}
use Rattle.calendar.specs.Dates.{last_minute}
use Rattle.schedule.specs.Local.{biased_offset}
use Rattle.schedule.specs.Clocks.{clock, if_found, clock_after_in}
use Rattle.schedule.proofs.Offsets.{passed}
use Rattle.schedule.proofs.clock.next_by_clock.Goals as goal

pub returns-in-Ok : goal.returns-in-Ok
unfolding clock_after_in if_found
returns-in-Ok c =
    rw (← c.clock.ensures, c.in-Ok.is)
    (c.rest.ensures ∙ passed (λ (z : ℤ). clock c.args.s (biased_offset z) (last_minute - c.args.minute) (c.args.minute + 1)) c.ranges.offset)

pub returns-in-Err : goal.returns-in-Err
unfolding clock_after_in if_found
returns-in-Err c = rw (← c.clock.ensures, c.in-Err.is)
