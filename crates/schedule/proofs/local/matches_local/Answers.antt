-- `schedule::local::matches_local` meets its contract: each arm is a case of the definition.
-- Assumes nothing.
use Rattle.schedule.specs.Local.{matches_local}
use Rattle.schedule.proofs.local.matches_local.Goals as goal

pub returns-in-None : goal.returns-in-None
unfolding matches_local
returns-in-None c = rw c.in-None.is

pub returns-in-Some : goal.returns-in-Some
unfolding matches_local
returns-in-Some c = rw c.in-Some.is c.matches_date.ensures
