-- `crontab_firings::print_all` is safe and ends: each piece goes on later than the one before it, or is the last.
-- Assumes nothing.
use Rattle.std.proofs.Common.{◌-◌}
use Rattle.crontab_firings.proofs.print_all.Given as goal

abbrev pub decreases-loop-from : goal.decreases-loop-from
decreases-loop-from g l = l.b - l.from
