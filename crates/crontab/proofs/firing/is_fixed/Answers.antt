-- `crontab::firing::is_fixed` meets its contract, case by case.
-- Assumes nothing.
use Rattle.crontab.specs.Firings.{is_fixed}
use Rattle.crontab.proofs.firing.is_fixed.Goals as goal

pub returns-in_default : goal.returns-in_default
unfolding is_fixed
returns-in_default c = rw c.in_default.is

pub returns : goal.returns
unfolding is_fixed
returns c = rw c.in-Timed.is
