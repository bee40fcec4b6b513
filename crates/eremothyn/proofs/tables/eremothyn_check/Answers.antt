-- `eremothyn::tables::eremothyn_check` meets its contract, by what the reader promises.
-- Assumes nothing.
use mathlib.Core.Path.{◌≡◌, refl, sym, ap, ◌∙◌}
use Prim.Native.Nat.{ℕ}
use Rattle.std.specs.Prelude.{Result, Ok, Err}
use Rattle.crontab.specs.declared.table.Table.{Table}
use Rattle.crontab.specs.declared.table.TableFault.{TableFault}
use Rattle.crontab.specs.Tables.{table_of, verdict_of}
use Rattle.eremothyn.specs.Answer.{answer_of}
use Rattle.eremothyn.specs.Tables.{check_number}
use Rattle.eremothyn.proofs.tables.eremothyn_check.Goals as goal

-- by a verdict
verdict_number : Result ℕ TableFault → ℕ
verdict_number (Ok n) = answer_of (Ok n)
verdict_number (Err f) = answer_of (Err f.refusal)

verdict-number : (t : Result Table TableFault) → verdict_number (verdict_of t) ≡ check_number t
unfolding verdict_number verdict_of check_number
verdict-number (Ok x) = refl
verdict-number (Err f) = refl

pub returns-in-Ok : goal.returns-in-Ok
unfolding verdict_number answer_of
returns-in-Ok c =
    rw (← c.rules_of.ensures) (ap verdict_number (sym c.in-Ok.is ∙ c.check.ensures) ∙ verdict-number (table_of c.rules_of.result c.args.table.now))

pub returns-in-Err : goal.returns-in-Err
unfolding verdict_number
returns-in-Err c =
    rw (← c.rules_of.ensures)
    (c.answer.ensures ∙ ap verdict_number (sym c.in-Err.is ∙ c.check.ensures) ∙ verdict-number (table_of c.rules_of.result c.args.table.now))
