-- `crontab::table::find_entry` meets its contract: it is what the item that was found says.
-- Assumes nothing.
use mathlib.Core.Path.{◌∙◌}
use Rattle.std.proofs.lemmas.Result.{err_from_is_err_and}
use Rattle.crontab.proofs.Findings.{as_entry, entry_told, found-entry, no-entry}
use Rattle.crontab.proofs.table.find_entry.Goals as goal

pub returns : goal.returns
unfolding entry_told as_entry
returns c = rw c.in-Entry.is at (found-entry c.args.rules c.args.s.now c.args.entry c.find.ensures c.in_ok-found.was)

pub returns-in_default : goal.returns-in_default
unfolding entry_told
returns-in_default c = no-entry _ c.in_default.not-Entry ∙ found-entry _ _ _ c.find.ensures c.in_ok-found.was

pub returns-in_err-found : goal.returns-in_err-found
unfolding entry_told
returns-in_err-found c =
    let p = err_from_is_err_and c.from_residual.result c.from_residual.ensures.1 in
    rw (p.1, p.2) (found-entry _ _ _ c.find.ensures c.in_err-found.was)
