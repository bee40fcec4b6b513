-- `schedule::day::day_from` meets its contract: from the month of the day on, the search goes on with the same answer (`Searching`).
-- Assumes nothing.
use Prim.Native.Nat.{◌-◌}
use Rattle.schedule.proofs.Days.{Searching}
use Rattle.schedule.proofs.day.day_from.Given as goal

abbrev pub invariant-loop-at : goal.invariant-loop-at
invariant-loop-at l = Searching l.s l.day l.count l.first l.at

abbrev pub decreases-loop-at : goal.decreases-loop-at
decreases-loop-at l = 120000 - l.count
