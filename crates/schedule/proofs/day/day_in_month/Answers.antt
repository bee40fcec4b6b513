-- `schedule::day::day_in_month` meets its contract: the least day of the month's set.
-- Assumes nothing.
use mathlib.Core.Path.{sym, ◌∙◌}
use Prim.Native.Nat.{◌+◌, ◌-◌}
use native.Mathlib.Omega.{arith}
use Rattle.octets.specs.Sets.{has_bit}
use Rattle.schedule.proofs.Search.{Least, from-none, from-least}
use Rattle.schedule.proofs.Days.{month-out}
use Rattle.schedule.proofs.MonthSets.{day-by-set}
use Rattle.schedule.proofs.day.day_in_month.Goals as goal
use Rattle.schedule.proofs.day.day_in_month.Goals.{After-next}

-- the least value that was found
least : (c : After-next) → let a = c.args in
    Least (has_bit c.month_set-set.result) (a.end - a.first + 1) (a.at - a.first + 1) c.next.result
least c = rw c.next.ensures (from-least _ _ _ (omega (arith, c.requires)))

pub overflow_add-result : goal.overflow_add-result
overflow_add-result c = omega (arith, (least c).high, c.requires)

pub overflow_sub-result : goal.overflow_sub-result
overflow_sub-result c = omega (arith, (least c).low)

pub returns-then-has : goal.returns-then-has
returns-then-has c =
    let p = c.requires in
    rw (c.next.ensures, c.month_set-set.ensures)
    (day-by-set _ _ _ _ (sym c.has.ensures ∙ c.if-has.true) p.3 _ p.0 p.1)

pub returns : goal.returns
returns c = from-none _ _ _ (omega arith) (λ k _ _. month-out _ _ _ _ (sym c.has.ensures ∙ c.if-has.false))
