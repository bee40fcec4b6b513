-- `firings::after::minute_of` meets its contract: it is the definition, case by case.
-- Assumes nothing.
use Rattle.firings.specs.Keys.{minute_or_end}
use Rattle.firings.proofs.after.minute_of.Goals as goal

pub returns-in-Ok : goal.returns-in-Ok
unfolding minute_or_end
returns-in-Ok c = rw c.in-Ok.is

pub returns-in-Err : goal.returns-in-Err
unfolding minute_or_end
returns-in-Err c = rw c.in-Err.is
