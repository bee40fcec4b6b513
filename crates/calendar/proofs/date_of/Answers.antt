-- `calendar::date_of` meets its contract: off the calendar there is no date, and on it there is.
-- Assumes nothing.
use borrow.Author.Tests.{le-leb}
use Rattle.calendar.specs.Dates.{last_minute, date_of}
use Rattle.calendar.proofs.Minutes.{date_of-off}
use Rattle.calendar.proofs.date_of.Goals as goal

pub returns-then-minute-gt-LAST_MINUTE : goal.returns-then-minute-gt-LAST_MINUTE
returns-then-minute-gt-LAST_MINUTE c = date_of-off _ c.if-minute-gt-LAST_MINUTE.true

pub returns : goal.returns
unfolding date_of
returns c = rw (le-leb _ last_minute c.if-minute-gt-LAST_MINUTE.false, c.date_at.ensures)
