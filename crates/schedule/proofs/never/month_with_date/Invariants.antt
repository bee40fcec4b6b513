-- `schedule::never::month_with_date` meets its contract: the search goes on with the same answer after each month that has no date.
-- Assumes nothing.
use mathlib.Core.Path.{◌≡◌}
use Rattle.schedule.specs.Search.{from}
use Rattle.schedule.specs.Days.{has_date}
use Rattle.schedule.proofs.never.month_with_date.Given as goal

abbrev pub invariant-loop-month : goal.invariant-loop-month
invariant-loop-month l = from (has_date l.s) 13 l.month ≡ from (has_date l.s) 13 1
