-- `crontab::find::is_wanted` meets its contract: it is the definition, case by case.
-- Assumes nothing.
use Rattle.crontab.specs.Findings.{is_wanted}
use Rattle.crontab.proofs.find.is_wanted.Goals as goal

pub returns-in-Setting : goal.returns-in-Setting
unfolding is_wanted
returns-in-Setting c = rw c.in-Setting.is c.is_wanted_setting.ensures

pub returns-in-Entry : goal.returns-in-Entry
unfolding is_wanted
returns-in-Entry c = rw c.in-Entry.is c.is_wanted_entry.ensures

pub returns-in-Nothing : goal.returns-in-Nothing
unfolding is_wanted
returns-in-Nothing c = rw c.in-Nothing.is
