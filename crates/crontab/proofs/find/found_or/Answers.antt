-- `crontab::find::found_or` meets its contract.
-- Assumes nothing.
use Rattle.crontab.proofs.find.found_or.Goals as goal

pub returns-then-this : goal.returns-then-this
returns-then-this c = rw c.if-this.true
