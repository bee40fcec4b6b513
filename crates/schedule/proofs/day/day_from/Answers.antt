use mathlib.Core.Path.{◌∙◌}
use Prim.Native.Nat.{◌+◌, ◌*◌, ◌-◌, ◌/◌, ◌%◌, ◌≤◌, ◌<◌}
use native.Mathlib.Omega.{arith}
use Rattle.calendar.specs.Dates.{calendar_days}
use Rattle.calendar.proofs.Theorems.{OnCalendar, date_at-on}
use Rattle.calendar.proofs.Months.{length_of, InMonth, day-in-month}
use Rattle.schedule.proofs.Search.{from_past}
use Rattle.schedule.proofs.Days.{Searching, searching-starts, searching-inside, searching-end, searching-found, searching-after}
use Rattle.schedule.proofs.Dates.{month-days-small}
use Rattle.schedule.proofs.day.day_from.Goals as goal
use Rattle.schedule.proofs.day.day_from.Goals.{After-date_at-date, After-month_days, Else-found-end}

date-on : (c : After-date_at-date)
    → let d = c.date_at-date.result in OnCalendar d.year d.month d.day d.hour d.minute
date-on c = rw (c.date_at-date.ensures) (date_at-on (c.args.day * 1440) (omega arith))

in-month : (c : After-date_at-date)
    → let d = c.date_at-date.result in InMonth c.args.day (d.year * 12 + (d.month - 1)) (d.day - 1)
in-month c = rw (c.date_at-date.ensures) (day-in-month c.args.day (omega arith))

begins : (c : After-date_at-date)
    → let d = c.date_at-date.result in
    let a = c.args in
    Searching a.s a.day (d.year * 12 + (d.month - 1)) (a.day - (d.day - 1)) a.day
begins c = rw (c.date_at-date.ensures) (searching-starts c.args.s c.args.day (omega arith))

-- the month ends on the calendar
end_on : (c : After-month_days) → c.loop-at.first + c.month_days.result ≤ calendar_days
unfolding length_of
end_on c = rw c.month_days.ensures (searching-end c.loop-at.invariant c.loop-at-test.true)

inside : (c : Else-found-end) → c.loop-at.count < 120000
inside c = searching-inside c.loop-at.invariant c.loop-at-test.true

pub returns-then-day-ge-CALENDAR_DAYS : goal.returns-then-day-ge-CALENDAR_DAYS
returns-then-day-ge-CALENDAR_DAYS c = from_past _ _ _ c.if-day-ge-CALENDAR_DAYS.true

pub overflow_mul-count : goal.overflow_mul-count
overflow_mul-count c = omega (arith, (date-on c.before).year_to)

pub overflow_sub-count : goal.overflow_sub-count
overflow_sub-count c = (date-on c.before.before).month_from

pub overflow_add-count : goal.overflow_add-count
overflow_add-count c = omega (arith, (date-on c.before.before).year_to, (date-on c.before.before).month_to)

pub overflow_sub-first : goal.overflow_sub-first
overflow_sub-first c = (date-on c.before.before.before).day_from

pub overflow_sub-first-2 : goal.overflow_sub-first-2
overflow_sub-first-2 c = omega (arith, (in-month c.before.before.before).sum)

pub loop-at-init : goal.loop-at-init
loop-at-init c = begins c.before.before.before

pub overflow_add-end : goal.overflow_add-end
overflow_add-end c = omega (arith, end_on c)

pub day_in_month-found-requires : goal.day_in_month-found-requires
unfolding length_of
day_in_month-found-requires c =
    let n = c.loop-at.count in
    (c.loop-at.invariant.after, omega (arith, c.loop-at.invariant.within, c.month_days.ensures), end_on c, omega (arith, c.month_days.ensures, month-days-small (n / 12) (n % 12 + 1)))

pub returns-then-found-end : goal.returns-then-found-end
unfolding length_of
returns-then-found-end c =
    searching-found c.loop-at.invariant c.loop-at-test.true
    c.month_days.ensures c.day_in_month-found.ensures c.if-found-end.true

pub month_after-count-requires : goal.month_after-count-requires
month_after-count-requires c = (c.loop-at.invariant.low, inside c)

pub loop-at-smaller : goal.loop-at-smaller
loop-at-smaller c = omega (arith, inside c.before.before, c.month_after-count.ensures.later)

pub loop-at-preserved : goal.loop-at-preserved
unfolding length_of
loop-at-preserved c =
    rw c.month_start-first.ensures
    (searching-after c.loop-at.invariant c.loop-at-test.true
    c.month_days.ensures c.day_in_month-found.ensures c.if-found-end.false c.month_after-count.ensures)

pub returns : goal.returns
returns c = from_past _ _ _ c.loop-at-test.false ∙ c.loop-at.invariant.same
