-- `crontab::setting::value` meets its contract.
-- Assumes nothing.
use Rattle.crontab.specs.Settings.{value_in}
use Rattle.crontab.proofs.Theorems.{setting-inside}
use Rattle.crontab.proofs.setting.value.Goals as goal

pub returns-in_default : goal.returns-in_default
unfolding value_in
returns-in_default c = rw (← c.read.ensures, c.in_default.is)

pub part_of-requires : goal.part_of-requires
part_of-requires c = let i = rw (← c.read.ensures, c.in-Ok.is) at (setting-inside c.args.rules c.args.s.now c.args.line) in (i.value.order, i.value.within)

pub returns : goal.returns
unfolding value_in
returns c = rw (← c.read.ensures, c.in-Ok.is) c.part_of.ensures
