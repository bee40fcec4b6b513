-- A split, and the input's length, for one entry of a table as a C caller gets them (K6, A11). The order of refusals is R34; a refused call
-- leaves both buffers (R40).
-- Assumes nothing.
use Rattle.std.specs.Prelude.{ℕ, ◌+◌, List, Option, Some, None, Result, Ok, Err}
use Rattle.refusal.specs.declared.Refusal.{Refusal}
use Rattle.refusal.specs.Numbers.{number_of}
use Rattle.line.specs.declared.Rules.{Rules}
use Rattle.octets.specs.Runs.{between}
use Rattle.crontab.specs.Tables.{table_of, entry_in}
use Rattle.command.specs.declared.Lengths.{Lengths}
use Rattle.command.specs.Parts.{input_of, input_length}
use Rattle.command.specs.Buffers.{Split, split_step}
use Rattle.eremothyn.specs.Answer.{refused_from}
use Rattle.crontab.specs.declared.entry.Entry.{Entry}

-- A2, A11: the length of the shell line
unfoldable pub split_number : Result Lengths Refusal → ℕ
split_number (Ok lengths) = lengths.shell
split_number (Err refusal) = refused_from + number_of refusal

-- A3, A11: the length of the input; "no input" is no length
unfoldable pub input_number : Option ℕ → ℕ
input_number None = refused_from
input_number (Some n) = n

-- K6, R34: of an entry that is found or isn't
unfoldable pub split_in : List ℕ → Result Entry Refusal → List ℕ → List ℕ → Split
split_in table (Ok e) shell input = split_step (between table e.start e.end) shell input
split_in table (Err refusal) shell input = record { answer = Err refusal; shell = shell; input = input }

-- K6, R34: of an entry by its number
unfoldable pub split_of : Rules → List ℕ → ℕ → List ℕ → List ℕ → Split
split_of rules table i shell input = split_in table (entry_in (table_of rules table) i) shell input

-- A11, R34: of an entry that is found or isn't
unfoldable pub stdin_in : List ℕ → Result Entry Refusal → ℕ
stdin_in table (Ok e) = input_number (input_length (input_of (between table e.start e.end)))
stdin_in table (Err refusal) = refused_from + number_of refusal

-- A11, R34: of an entry by its number
unfoldable pub stdin_length : Rules → List ℕ → ℕ → ℕ
stdin_length rules table i = stdin_in table (entry_in (table_of rules table) i)
