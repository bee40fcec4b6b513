-- `eremothyn::owners::owner_number` meets its contract, by what the reader promises.
-- Assumes nothing.
use mathlib.Core.Path.{sym, ◌∙◌}
use Rattle.crontab.proofs.Theorems.{owner-inside}
use Rattle.eremothyn.specs.Answer.{answer_of}
use Rattle.eremothyn.specs.Owners.{owner_number}
use Rattle.eremothyn.proofs.owners.owner_number.Goals as goal

pub owned_in-requires : goal.owned_in-requires
owned_in-requires c =
    let i = rw (sym c.read.ensures ∙ c.in-Ok.is) at (owner-inside c.rules_of.result c.args.table.now c.args.entry) in
    (i.user.order, i.group.order, i.class.order)

pub returns-in-Ok : goal.returns-in-Ok
unfolding owner_number
returns-in-Ok c = rw (← c.rules_of.ensures, ← c.read.ensures, c.in-Ok.is) c.owned_in.ensures

pub returns-in-Err : goal.returns-in-Err
unfolding owner_number answer_of
returns-in-Err c = rw (← c.rules_of.ensures, ← c.read.ensures, c.in-Err.is) c.answer.ensures
