-- `crontab::select::add_if` meets its contract.
-- Assumes nothing.
use Rattle.crontab.proofs.select.add_if.Goals as goal

pub returns-then-chosen : goal.returns-then-chosen
returns-then-chosen c = rw c.if-chosen.true c.add.ensures
