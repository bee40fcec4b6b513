-- A checked table as a C caller gets it (A8). Line and column of its fault are the table's own.
-- Assumes nothing.
use Rattle.std.specs.Prelude.{ℕ, Result, Ok, Err}
use Rattle.crontab.specs.declared.table.Table.{Table}
use Rattle.crontab.specs.declared.table.TableFault.{TableFault}
use Rattle.eremothyn.specs.Answer.{answer_of}

-- A2, A8: the count of entries
unfoldable pub check_number : Result Table TableFault → ℕ
check_number (Ok t) = answer_of (Ok t.count)
check_number (Err f) = answer_of (Err f.refusal)
