-- `crontab::setting::name` meets its contract.
-- Assumes nothing.
use Rattle.crontab.specs.Settings.{name_in}
use Rattle.crontab.proofs.Theorems.{setting-inside}
use Rattle.crontab.proofs.setting.name.Goals as goal

pub returns-in_default : goal.returns-in_default
unfolding name_in
returns-in_default c = rw (← c.read.ensures, c.in_default.is)

pub part_of-requires : goal.part_of-requires
part_of-requires c = let i = rw (← c.read.ensures, c.in-Ok.is) at (setting-inside c.args.rules c.args.s.now c.args.line) in (i.name.order, i.name.within)

pub returns : goal.returns
unfolding name_in
returns c = rw (← c.read.ensures, c.in-Ok.is) c.part_of.ensures
