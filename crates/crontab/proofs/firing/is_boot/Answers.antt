-- `crontab::firing::is_boot` meets its contract.
-- Assumes nothing.
use Rattle.crontab.specs.Firings.{is_boot}
use Rattle.crontab.proofs.firing.is_boot.Goals as goal

-- src/firing.rt:35:25
-- src/firing.rt:36:27
-- src/firing.rt:30:1
pub returns-in-Reboot : goal.returns-in-Reboot
unfolding is_boot
returns-in-Reboot c = rw c.in-Reboot.is

-- src/firing.rt:30:1
pub returns-in-Timed : goal.returns-in-Timed
unfolding is_boot
returns-in-Timed c = rw c.in-Timed.is
