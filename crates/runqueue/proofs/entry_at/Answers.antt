-- `runqueue::entry_at` meets its contract: each return is a law of the calls.
-- Assumes nothing.
use Rattle.std.proofs.lemmas.Result.{err_from_is_err_and}
use mathlib.Core.Path.{sym, ◌∙◌}
use Rattle.crontab.specs.Tables.{table_of}
use Rattle.crontab.proofs.Tables.{verdict-good}
use Rattle.crontab.proofs.Theorems.{verdict-bad}
use Rattle.runqueue.proofs.Exits.{entry-bad, entry-good}
use Rattle.runqueue.proofs.entry_at.Goals as goal

pub returns-in_err-count : goal.returns-in_err-count
returns-in_err-count c =
    let a = c.args in
    let err = err_from_is_err_and c.from_residual.result c.from_residual.ensures.1 in
    let is = verdict-bad a.rules a.table.now (sym c.in_err-count.was ∙ c.check.ensures) in
    rw (err.1, err.2) (entry-bad (table_of a.rules a.table.now) a.room.now is a.place)

pub returns : goal.returns
returns c =
    let a = c.args in
    let g = verdict-good (table_of a.rules a.table.now) (sym c.in_ok-count.was ∙ c.check.ensures) in
    rw (entry-good (table_of a.rules a.table.now) a.room.now g.0 a.place) (rw g.1 at c.entry_at.ensures)
