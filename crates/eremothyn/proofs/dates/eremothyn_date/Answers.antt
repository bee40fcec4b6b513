-- `eremothyn::dates::eremothyn_date` meets its contract, by what the calendar promises.
-- Assumes nothing.
use mathlib.Core.Path.{sym, ◌∙◌}
use native.Mathlib.Omega.{arith}
use Rattle.std.proofs.lemmas.Result.{IfOk-at_ok}
use Rattle.refusal.specs.Numbers.{number_of}
use Rattle.eremothyn.specs.Answer.{answer_of}
use Rattle.eremothyn.specs.Dates.{Small}
use Rattle.eremothyn.proofs.DateRuns.{date-small, date-off, date-short, date-put}
use Rattle.eremothyn.proofs.dates.eremothyn_date.Goals as goal

pub returns-in-Err : goal.returns-in-Err
unfolding answer_of
returns-in-Err c =
    let r = date-off c.args.minute c.args.run.now _ (sym c.date_of.ensures ∙ c.in-Err.is) in
    record { answer = c.answer.ensures ∙ r.0; run = r.1 }

pub returns-then-run-lt-DATE_PARTS : goal.returns-then-run-lt-DATE_PARTS
unfolding answer_of number_of
returns-then-run-lt-DATE_PARTS c =
    let r = date-short c.args.minute c.args.run.now _ (sym c.date_of.ensures ∙ c.in-Ok.is) c.if-run-lt-DATE_PARTS.true in
    record { answer = c.answer-then-run-lt-DATE_PARTS.ensures ∙ r.0; run = r.1 }

pub put-requires : goal.put-requires
put-requires c =
    (omega (arith, c.if-run-lt-DATE_PARTS.false), IfOk-at_ok Small (sym c.date_of.ensures ∙ c.in-Ok.is) (date-small c.args.minute))

pub returns : goal.returns
returns c =
    let r = date-put c.args.minute c.args.run.now _ (sym c.date_of.ensures ∙ c.in-Ok.is) (omega (arith, c.if-run-lt-DATE_PARTS.false)) in
    record { answer = r.0; run = c.put.ensures ∙ r.1 }
