-- `schedule::never::some_day` meets its contract: it tests what the definition does.
-- Assumes nothing.
use Rattle.schedule.specs.Days.{some_day}
use Rattle.schedule.proofs.never.some_day.Goals as goal

pub returns-then-both_must : goal.returns-then-both_must
unfolding some_day
returns-then-both_must c = rw (← c.both_must.ensures, c.if-both_must.true, c.month_with_date-by_date.ensures, c.next-by_weekday.ensures)

pub returns : goal.returns
unfolding some_day
returns c = rw (← c.both_must.ensures, c.if-both_must.false, c.month_with_date-by_date.ensures, c.next-by_weekday.ensures, c.next-by_month.ensures)
