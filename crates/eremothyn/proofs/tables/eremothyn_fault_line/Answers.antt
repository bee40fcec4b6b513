-- `eremothyn::tables::eremothyn_fault_line` meets its contract, by what the reader promises.
-- Assumes nothing.
use mathlib.Core.Path.{sym, ap, ◌∙◌}
use Prim.Native.Nat.{ℕ}
use Rattle.std.specs.Prelude.{Result}
use Rattle.crontab.specs.declared.table.TableFault.{TableFault}
use Rattle.crontab.specs.Tables.{table_of, line_in}
use Rattle.crontab.proofs.Tables.{verdict-line}
use Rattle.eremothyn.proofs.tables.eremothyn_fault_line.Goals as goal

pub returns-in-Ok : goal.returns-in-Ok
returns-in-Ok c =
    rw (← c.rules_of.ensures)
    (ap (λ (v : Result ℕ TableFault). line_in v) (sym c.in-Ok.is ∙ c.check.ensures) ∙ verdict-line (table_of c.rules_of.result c.args.table.now))

pub returns-in-Err : goal.returns-in-Err
returns-in-Err c =
    rw (← c.rules_of.ensures)
    (ap (λ (v : Result ℕ TableFault). line_in v) (sym c.in-Err.is ∙ c.check.ensures) ∙ verdict-line (table_of c.rules_of.result c.args.table.now))
