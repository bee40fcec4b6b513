-- `calendar::walk::month_of` meets its contract: after each month it is on the walk (`Going`).
-- Assumes nothing.
use Prim.Native.Nat.{◌-◌}
use Rattle.calendar.specs.Gregorian.{month_days}
use Rattle.calendar.proofs.Spans.{Going}
use Rattle.calendar.proofs.walk.month_of.Given as goal

abbrev pub invariant-loop-rest : goal.invariant-loop-rest
invariant-loop-rest l = Going (month_days l.year) 1 12 l.day l.at l.rest

abbrev pub decreases-loop-rest : goal.decreases-loop-rest
decreases-loop-rest l = 13 - l.at
