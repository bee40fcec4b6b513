-- A reload by two tables and a buffer (L4, L5, L6). The order of refusals is R36.
-- Assumes nothing.
use Rattle.std.specs.Prelude.{ℕ, cond, ◌&&◌, List, length, Result, Ok, Err}
use Rattle.refusal.specs.declared.Refusal.{Refusal}
use Rattle.line.specs.declared.Rules.{Rules}
use Rattle.crontab.specs.declared.table.Table.{Table}
use Rattle.crontab.specs.declared.table.TableFault.{TableFault}
use Rattle.crontab.specs.Tables.{table_of, count_in}
use Rattle.fifo.specs.Refusals.{not_a_queue}
use Rattle.fifo.specs.Layout.{queue_of, roomy, is_queue}
use Rattle.fifo.specs.Steps.{Step, refilled}
use Rattle.reload.specs.Targets.{reloaded}

-- R40: the buffer stays
abbrev pub refused_reload : Refusal → List ℕ → Step (Result ℕ Refusal)
refused_reload refusal room = record { answer = Err refusal; room = room }

-- L4: the waiting entries after it
abbrev pub queue_in : Rules → List ℕ → List ℕ → List ℕ → List ℕ
queue_in rules old new room = reloaded rules old new (queue_of room).waiting

-- L5, L6, R28: the tables are good
unfoldable pub reload_step : Rules → List ℕ → List ℕ → List ℕ → Step (Result ℕ Refusal)
reload_step rules old new room =
    cond (is_queue (count_in (table_of rules old)) room && roomy (count_in (table_of rules new)) room)
    (record { answer = Ok (length (queue_in rules old new room)); room = refilled (queue_in rules old new room) room })
    (refused_reload not_a_queue room)

-- R36, inner: the old table's refusal, then the new one's
unfoldable pub reload_read : Result Table TableFault → Result Table TableFault → Step (Result ℕ Refusal) → List ℕ → Step (Result ℕ Refusal)
reload_read (Err f) u step room = refused_reload f.refusal room
reload_read (Ok t) (Err f) step room = refused_reload f.refusal room
reload_read (Ok t) (Ok u) step room = step

-- L4, L5, L6, R36: any tables and buffer
unfoldable pub reload_tables : Rules → List ℕ → List ℕ → List ℕ → Step (Result ℕ Refusal)
reload_tables rules old new room = reload_read (table_of rules old) (table_of rules new) (reload_step rules old new room) room
