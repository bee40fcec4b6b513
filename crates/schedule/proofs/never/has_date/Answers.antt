-- `schedule::never::has_date` meets its contract: each return is a case of the definition.
-- Assumes nothing.
use native.Mathlib.Omega.{arith}
use Rattle.schedule.specs.Days.{has_date}
use Rattle.schedule.proofs.Dates.{month-days-small}
use Rattle.schedule.proofs.never.has_date.Goals as goal

pub overflow_add-end : goal.overflow_add-end
overflow_add-end c = omega (arith, c.month_days-end.ensures, month-days-small 2000 c.args.month)

pub next-requires : goal.next-requires
next-requires c = omega (arith, c.month_days-end.ensures, month-days-small 2000 c.args.month)

pub returns-then-has : goal.returns-then-has
unfolding has_date
returns-then-has c =
    rw (← c.has.ensures, c.if-has.true, c.next.ensures, c.month_days-end.ensures)

pub returns : goal.returns
unfolding has_date
returns c = rw (← c.has.ensures, c.if-has.false)
