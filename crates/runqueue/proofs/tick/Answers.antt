-- `runqueue::tick` meets its contract: each return is a law of the calls.
-- Assumes nothing.
use Rattle.std.proofs.lemmas.Result.{err_from_is_err_and}
use mathlib.Core.Path.{sym, ◌∙◌}
use native.Mathlib.Omega.{arith}
use Rattle.crontab.specs.Tables.{table_of}
use Rattle.crontab.proofs.Selections.{selected-good}
use Rattle.crontab.proofs.Theorems.{table-sound, selected-bad}
use Rattle.runqueue.proofs.Exits.{tick-bad, tick-called}
use Rattle.runqueue.proofs.tick.Goals as goal

pub returns-in_err-jobs : goal.returns-in_err-jobs
returns-in_err-jobs c =
    let a = c.args in
    let err = err_from_is_err_and c.from_residual.result c.from_residual.ensures.1 in
    let (f, is, same) = selected-bad a.rules a.table.now _ (sym c.in_err-jobs.was ∙ c.read.ensures) in
    let law = tick-bad (table_of a.rules a.table.now) a.room.now is a.minute in
    record { answer = rw (err.1, err.2, ← same) law.0; room = law.1 }

pub overflow_cast-jobs : goal.overflow_cast-jobs
overflow_cast-jobs c =
    let a = c.args in
    let g = selected-good _ (table_of a.rules a.table.now) (sym c.in_ok-jobs.was ∙ c.read.ensures) in
    omega (arith, g.1, (table-sound a.rules a.table.now).few)

pub returns : goal.returns
returns c =
    let a = c.args in
    let is = sym c.in_ok-jobs.was ∙ (rw (c.case_of-case.ensures, c.mark_of.ensures) at c.read.ensures) in
    let law = tick-called (table_of a.rules a.table.now) (table-sound a.rules a.table.now).few a.room.now a.minute is in
    record { answer = rw law c.tick.ensures.answer; room = rw law c.tick.ensures.room }
