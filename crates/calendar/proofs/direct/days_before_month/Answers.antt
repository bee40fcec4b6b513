-- `calendar::direct::days_before_month` meets its contract, by the law of the table (`month-start`).
-- Assumes nothing.
use Prim.Native.Nat.{◌-◌}
use native.Mathlib.Omega.{arith}
use Rattle.calendar.proofs.Dates.{month_starts, start_of, starts-small, month-start}
use Rattle.calendar.proofs.direct.days_before_month.Goals as goal

pub overflow_cast-days : goal.overflow_cast-days
unfolding month_starts
overflow_cast-days c = omega (arith, starts-small (c.args.month - 1) (omega arith))

pub overflow_add-result : goal.overflow_add-result
unfolding month_starts
overflow_add-result c = omega (arith, starts-small (c.args.month - 1) (omega arith))

pub returns-then-is_leap-month : goal.returns-then-is_leap-month
unfolding start_of
returns-then-is_leap-month c =
    rw (← month-start c.args.year c.args.month (omega arith))
    (rw (← c.is_leap.ensures, c.if-is_leap-month.true))

pub returns-else-is_leap-month : goal.returns-else-is_leap-month
unfolding start_of
returns-else-is_leap-month c =
    rw (← month-start c.args.year c.args.month (omega arith))
    (rw (← c.is_leap.ensures, c.if-is_leap-month.false))
