-- `schedule::local::time_after` meets its contract: after a day's last minute none is left.
-- Assumes nothing.
use Rattle.schedule.proofs.Search.{from_past}
use Rattle.schedule.proofs.local.time_after.Goals as goal

pub returns : goal.returns
returns c = from_past _ _ _ c.if-next-lt-DAY_MINUTES.false
