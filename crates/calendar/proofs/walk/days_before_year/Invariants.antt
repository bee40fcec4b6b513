-- `calendar::walk::days_before_year` meets its contract: after the whole cycles, and then after each year, it has the days so far.
-- Assumes nothing.
use mathlib.Core.Path.{◌≡◌}
use Prim.Native.Nat.{◌-◌, ◌≤◌}
use Rattle.calendar.specs.Gregorian.{year_days}
use Rattle.calendar.specs.Walk.{span}
use Rattle.calendar.proofs.walk.days_before_year.Given as goal

abbrev pub invariant-loop-at : goal.invariant-loop-at
invariant-loop-at l = (1970 ≤ l.at) × (l.days ≡ span year_days 1970 (l.at - 1970))
