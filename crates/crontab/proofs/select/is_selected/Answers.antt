-- `crontab::select::is_selected` meets its contract, case by case.
-- Assumes nothing.
use Rattle.crontab.proofs.Selections.{selected-off, selected-at, date-at}
use Rattle.crontab.specs.Selections.{is_selected}
use mathlib.Core.Path.{sym, ◌∙◌}
use Rattle.crontab.proofs.select.is_selected.Goals as goal

pub returns-then-minute-gt-LAST_MINUTE : goal.returns-then-minute-gt-LAST_MINUTE
returns-then-minute-gt-LAST_MINUTE c = selected-off _ c.in-At.is c.if-minute-gt-LAST_MINUTE.true

pub is_called-requires : goal.is_called-requires
is_called-requires c = (c.requires.0, c.if-minute-gt-LAST_MINUTE.false, c.requires.1 ∙ date-at c.args.entry c.in-At.is c.if-minute-gt-LAST_MINUTE.false)

pub returns-in-AtBoot : goal.returns-in-AtBoot
unfolding is_selected
returns-in-AtBoot c = rw c.in-AtBoot.is c.is_boot.ensures

pub returns-else-minute-gt-LAST_MINUTE : goal.returns-else-minute-gt-LAST_MINUTE
returns-else-minute-gt-LAST_MINUTE c = c.is_called.ensures ∙ sym (selected-at _ c.in-At.is c.if-minute-gt-LAST_MINUTE.false)
