-- `calendar::walk::year_of` meets its contract: after the whole cycles, and then after each year, it is on the walk (`Going`).
-- Assumes nothing.
use Prim.Native.Nat.{◌-◌}
use Rattle.calendar.specs.Gregorian.{year_days}
use Rattle.calendar.proofs.Spans.{Going}
use Rattle.calendar.proofs.walk.year_of.Given as goal

abbrev pub invariant-loop-rest : goal.invariant-loop-rest
invariant-loop-rest l = Going year_days 1970 8030 l.day l.at l.rest

abbrev pub decreases-loop-rest : goal.decreases-loop-rest
decreases-loop-rest l = 10000 - l.at
