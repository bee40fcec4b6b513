-- `calendar::is_date` meets its contract: it tests what the definition does.
-- Assumes nothing.
use Rattle.calendar.specs.Dates.{exists}
use Rattle.calendar.proofs.is_date.Goals as goal

pub returns : goal.returns
unfolding exists
returns c = rw c.month_days.ensures
