-- The queue's calls by table and buffer. The table's refusal comes first, and R28 and R14 after it, as in fifo's Steps (R36). A refused
-- call leaves the buffer (R40).
-- Assumes nothing.
use Rattle.std.specs.Prelude.{ℕ, List, Option, Result, Ok, Err}
use Rattle.refusal.specs.declared.Refusal.{Refusal}
use Rattle.crontab.specs.declared.table.Table.{Table}
use Rattle.crontab.specs.declared.table.TableFault.{TableFault}
use Rattle.fifo.specs.Steps.{Step, init_step, tick_step, pop_step, entry_step}
use Rattle.runqueue.specs.Jobs.{jobs_of}

-- Q2, R36: a fresh queue
unfoldable pub init_table : Result Table TableFault → List ℕ → Step (Result ℕ Refusal)
init_table (Ok t) room = init_step (jobs_of (Ok t)) room
init_table (Err f) room = record { answer = Err f.refusal; room = room }

-- Q3, R36: an announcement
unfoldable pub tick_table : Result Table TableFault → ℕ → List ℕ → Step (Result ℕ Refusal)
tick_table (Ok t) minute room = tick_step (jobs_of (Ok t)) minute room
tick_table (Err f) minute room = record { answer = Err f.refusal; room = room }

-- Q9, R36: a request
unfoldable pub pop_table : Result Table TableFault → List ℕ → Step (Result (Option ℕ) Refusal)
pop_table (Ok t) room = pop_step t.count room
pop_table (Err f) room = record { answer = Err f.refusal; room = room }

-- Q10, R36: a look, which writes nothing
unfoldable pub entry_table : Result Table TableFault → ℕ → List ℕ → Result (Option ℕ) Refusal
entry_table (Ok t) place room = entry_step t.count place room
entry_table (Err f) place room = Err f.refusal
