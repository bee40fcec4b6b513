-- `calendar::walk::date_by_walk` meets its contract: the day falls in the year and the month that the two walks find.
-- Assumes nothing.
use Prim.Native.Nat.{◌/◌}
use native.Mathlib.Omega.{arith}
use borrow.Author.Tests.{le-leb}
use Rattle.calendar.specs.Gregorian.{year_days, month_days}
use Rattle.calendar.specs.Dates.{last_minute, weekday_of, date_at, date_of}
use Rattle.calendar.proofs.Spans.{Falls}
use Rattle.calendar.proofs.Dates.{year-falls, month-falls}
use Rattle.calendar.proofs.Minutes.{date_of-off}
use Rattle.calendar.proofs.walk.date_by_walk.Goals as goal
use Rattle.calendar.proofs.walk.date_by_walk.Goals.{After-month_of-month, After-year_of-year}

in-year : (c : After-year_of-year) → Falls year_days 1970 8030 (c.args.minute / 1440) c.year_of-year.result
in-year c = rw c.year_of-year.ensures (year-falls _ (omega arith))

in-month : (c : After-month_of-month)
    → Falls (month_days c.year_of-year.result.at) 1 12 c.year_of-year.result.rest c.month_of-month.result
in-month c = rw c.month_of-month.ensures (month-falls _ _ (in-year c.before).inside)

pub returns-then-minute-gt-LAST_MINUTE : goal.returns-then-minute-gt-LAST_MINUTE
returns-then-minute-gt-LAST_MINUTE c = date_of-off _ c.if-minute-gt-LAST_MINUTE.true

pub month_of-month-requires : goal.month_of-month-requires
month_of-month-requires c = (in-year c).inside

pub overflow_add-result : goal.overflow_add-result
overflow_add-result c = omega (arith, (in-year c.before.before).sum, (in-month c.before).sum)

pub returns : goal.returns
unfolding date_of date_at weekday_of
returns c =
    rw (le-leb c.args.minute last_minute c.if-minute-gt-LAST_MINUTE.false)
    (simp (c.month_of-month.ensures, c.year_of-year.ensures))
