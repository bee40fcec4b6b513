-- `schedule::matches_date` meets its contract: it tests what the definition does.
-- Assumes nothing.
use Rattle.schedule.specs.Match.{matches_time, matches_date}
use Rattle.schedule.proofs.matches_date.Goals as goal

pub returns : goal.returns
unfolding matches_date matches_time
returns c = rw (c.has-2.ensures, c.has.ensures, c.matches_day.ensures)
