-- `calendar::walk::minute_by_walk` meets its contract: a date on the calendar has its year there.
-- Assumes nothing.
use mathlib.Core.Path.{sym, ◌∙◌}
use Rattle.calendar.specs.Dates.{minute_of}
use Rattle.calendar.proofs.Dates.{on-calendar}
use Rattle.calendar.proofs.walk.minute_by_walk.Goals as goal

pub days_before_year-start-requires : goal.days_before_year-start-requires
days_before_year-start-requires c = let o = on-calendar (sym c.on_calendar.ensures ∙ c.if-on_calendar.true) in (o.year_from, o.year_to)

pub minute_in-requires : goal.minute_in-requires
minute_in-requires c = record { start_value = c.days_before_year-start.ensures; last_year_value = sym c.on_calendar.ensures ∙ c.if-on_calendar.true }

pub returns-then-on_calendar : goal.returns-then-on_calendar
unfolding minute_of
returns-then-on_calendar c = rw (← c.on_calendar.ensures, c.if-on_calendar.true, c.minute_in.ensures)

pub returns : goal.returns
unfolding minute_of
returns c = rw (← c.on_calendar.ensures, c.if-on_calendar.false)
