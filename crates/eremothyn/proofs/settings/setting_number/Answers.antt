-- `eremothyn::settings::setting_number` meets its contract, by what the reader promises.
-- Assumes nothing.
use mathlib.Core.Path.{sym, ◌∙◌}
use Rattle.crontab.proofs.Theorems.{setting-inside}
use Rattle.eremothyn.specs.Answer.{answer_of}
use Rattle.eremothyn.specs.Settings.{setting_number}
use Rattle.eremothyn.proofs.settings.setting_number.Goals as goal

pub shown_in-requires : goal.shown_in-requires
shown_in-requires c =
    let i = rw (sym c.read.ensures ∙ c.in-Ok.is) at (setting-inside c.rules_of.result c.args.table.now c.args.line) in
    (i.name.order, i.value.order)

pub returns-in-Ok : goal.returns-in-Ok
unfolding setting_number
returns-in-Ok c = rw (← c.rules_of.ensures, ← c.read.ensures, c.in-Ok.is) c.shown_in.ensures

pub returns-in-Err : goal.returns-in-Err
unfolding setting_number answer_of
returns-in-Err c = rw (← c.rules_of.ensures, ← c.read.ensures, c.in-Err.is) c.answer.ensures
