-- `calendar::gregorian::year_days` meets its contract, by the leap rule.
-- Assumes nothing.
use Rattle.calendar.specs.Gregorian.{year_days}
use Rattle.calendar.proofs.gregorian.year_days.Goals as goal

pub returns-then-is_leap : goal.returns-then-is_leap
unfolding year_days
returns-then-is_leap c = cc

pub returns-else-is_leap : goal.returns-else-is_leap
unfolding year_days
returns-else-is_leap c = cc
