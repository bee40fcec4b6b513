-- `calendar::minute_in` meets its contract: of a date on the calendar every part is within its limits.
-- Assumes nothing.
use Prim.Native.Nat.{◌+◌, ◌-◌, ◌<◌}
use native.Mathlib.Omega.{arith}
use Rattle.calendar.specs.Dates.{calendar_days, days_before, minute_at}
use Rattle.calendar.proofs.Dates.{OnCalendar, on-calendar, days_before-small}
use Rattle.calendar.proofs.minute_in.Goals as goal
use Rattle.calendar.proofs.minute_in.Goals.{After-days_before_month, Start}

on : (c : Start) → let a = c.args in OnCalendar a.year a.month a.day a.hour a.minute
on c = on-calendar c.requires.last_year_value

days-small : (c : After-days_before_month)
    → c.args.start + c.days_before_month.result + (c.args.day - 1) < calendar_days
unfolding days_before
days-small c = omega (arith, days_before-small (on c.before), c.days_before_month.ensures, c.requires.start_value)

pub days_before_month-requires : goal.days_before_month-requires
days_before_month-requires c = ((on c).month_from, (on c).month_to)

pub overflow_add-days : goal.overflow_add-days
overflow_add-days c = omega (arith, days-small c)

pub overflow_sub-days : goal.overflow_sub-days
overflow_sub-days c = (on c.before).day_from

pub overflow_add-days-2 : goal.overflow_add-days-2
overflow_add-days-2 c = omega (arith, days-small c)

pub overflow_mul-result : goal.overflow_mul-result
overflow_mul-result c = omega (arith, days-small c)

pub overflow_mul-result-2 : goal.overflow_mul-result-2
overflow_mul-result-2 c = omega (arith, (on c.before).hour_to)

pub overflow_add-result : goal.overflow_add-result
overflow_add-result c = omega (arith, days-small c, (on c.before).hour_to)

pub overflow_add-result-2 : goal.overflow_add-result-2
overflow_add-result-2 c = omega (arith, days-small c, (on c.before).hour_to, (on c.before).minute_to)

pub returns : goal.returns
unfolding minute_at days_before
returns c = simp (c.days_before_month.ensures, c.requires.start_value)
