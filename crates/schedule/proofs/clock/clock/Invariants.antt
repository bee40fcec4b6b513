-- `schedule::clock::clock` meets its contract: what is left of the minutes gives the same.
-- Assumes nothing.
use mathlib.Core.Path.{◌≡◌}
use Prim.Native.Nat.{◌+◌, ◌-◌}
use Rattle.schedule.specs.Local.{biased_offset}
use Rattle.schedule.specs.Clocks.{clock}
use Rattle.schedule.proofs.clock.clock.Given as goal

abbrev pub invariant-loop-minute : goal.invariant-loop-minute
invariant-loop-minute l = let o = biased_offset l.offset in clock l.s o (l.from + l.minutes - l.minute) l.minute ≡ clock l.s o l.minutes l.from
