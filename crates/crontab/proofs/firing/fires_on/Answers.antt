-- `crontab::firing::fires_on` meets its contract.
-- Assumes nothing.
use Rattle.crontab.specs.Firings.{fires_on}
use Rattle.crontab.proofs.firing.fires_on.Goals as goal

-- src/firing.rt:46:25
-- src/firing.rt:47:21
-- src/firing.rt:47:31
-- src/firing.rt:41:1
pub returns-in-Reboot : goal.returns-in-Reboot
unfolding fires_on
returns-in-Reboot c = rw c.in-Reboot.is

-- src/firing.rt:41:1
pub returns-in-Timed : goal.returns-in-Timed
unfolding fires_on
returns-in-Timed c = rw c.in-Timed.is c.matches_local.ensures
