-- `calendar::gregorian::month_days` meets its contract: each return is a case of the definition.
-- Assumes nothing.
use Prim.Native.Nat.{◌-◌}
use native.Mathlib.Omega.{arith}
use borrow.Author.Tests.{le-leb, lt-leb}
use Rattle.calendar.specs.Gregorian.{month_table, month_length, month_days}
use Rattle.calendar.proofs.Years.{lengths-small}
use Rattle.calendar.proofs.gregorian.month_days.Goals as goal

pub returns-then-month-lt1 : goal.returns-then-month-lt1
unfolding month_days month_length month_table
returns-then-month-lt1 c = simp (lt-leb 1 _ c.if-month-lt1.true)

pub returns-then-month-gt12 : goal.returns-then-month-gt12
unfolding month_days month_length month_table
returns-then-month-gt12 c = simp (le-leb 1 _ c.if-month-lt1.false, lt-leb _ 12 c.if-month-gt12.true)

pub returns-then-is_leap-month : goal.returns-then-is_leap-month
unfolding month_days month_length month_table
returns-then-is_leap-month c =
    simp (le-leb 1 _ c.if-month-lt1.false, le-leb _ 12 c.if-month-gt12.false)
    (rw (← c.is_leap.ensures, c.if-is_leap-month.true))

pub overflow_cast-result : goal.overflow_cast-result
unfolding month_table
overflow_cast-result c = omega (arith, lengths-small (c.args.month - 1) (omega arith))

pub returns : goal.returns
unfolding month_days month_length month_table
returns c =
    simp (le-leb 1 _ c.if-month-lt1.false, le-leb _ 12 c.if-month-gt12.false)
    (rw (← c.is_leap.ensures, c.if-is_leap-month.false))
