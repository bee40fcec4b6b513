-- What is proved of the calls, by table bytes.
--   table-fair, table-fair-from, table-fair-in-buffer, table-fair-steady: the third demand and its companions, as specs/Demand has them
--   table-fair-every, table-fair-every-from: the same where requests come every k announcements; every-ends: its hypotheses up to the calendar's last minute
--   table-waits-exactly, table-waits-at-most: an entry at place p is named by request p + 1, and by no earlier one; so by the N-th at the latest
--   table-waits-every: it is named within k * (p + 1) - 1 minutes more, where requests come every k announcements
--   table-called-waits, table-called-every: an entry that an announcement calls is named by the N-th request, and within k * N - 1 minutes more
--   fair-last, called-last: used for the last of 512 entries of a system table in the second dialect, with a request a day
--   table-refused-only: a call is refused only for too little room or for a minute off the calendar
--   limit-reached: a case in which the demand's bound is met exactly
--   demand-ends: its last minute may be the last of the calendar, in UTC and locally
--   demand-begins: t may be its first, and where 720 minutes are added
--   few: a table has fewer entries than a queue can hold
--   matching-can-fire: an entry that any minute matches is one of those that can fire; due-can-fire: so is one that is due at any minute
--   chain-is-due: "starting from any minute and asking for next firing again and again yields exactly the later calendar minutes that match
--     the entry", none skipped or added (I6)
--   chain-is-ticks: "as announcements one by one would find on a line with no mark at first and emptied before each"
--   next-shifts: "shifting a start by 210,379,680 minutes shifts the answer by the same number, provided the start, the shifted start, both
--     answers and, under an offset, their local minutes are on the calendar"; answer-shifts: the one start has its answer just where the
--     other has it; shifts-last: used for entry 511
--   chain-goes-on: the same on a line whose mark is the start
--   fresh_unmarked, shift-met, shift-reaches, both_ends, both-starts: their hypotheses can be met; mark-needed, shift-fails: and are needed
--   table-steps, table-steps-good, table-due: the claims speak of what the functions promise
--   front-waits, request-moves: a look at place 0 tells who a request names, and a request moves everybody a place on
--   init-told, tick-told, pop-told, entry-told: what the calls can answer
--   init-stays, tick-stays, pop-stays: a refused call leaves the room as it was
--   Extremes uses these at their edges: fair-east, refused-four, due-last, chain-last, chain-ends, chain-goes-to-end, ticks-last, goes-on-last, shifts-ends,
--     moves-last
--   Plainly says the claims without their names, for any table, entry, minute and calls, so that no hypothesis can be added to one
--   TableAnswers: what a table says of its entries is what they say (jobs-are), what a refused one is answered (bad-table), and the other claims without their names
-- Assumes nothing.
use Rattle.std.specs.Prelude.{Result, Ok, Err}
use mathlib.Core.Path.{◌≡◌, refl}
use mathlib.Core.Bool.{true}
use mathlib.Core.List.{List}
use Prim.Native.Nat.{ℕ, suc, ◌≤◌, ◌<◌}
use native.Mathlib.Decide.{dec_le}
use native.Mathlib.Omega.{arith}
use borrow.Author.Tests.{lt-ltb, le-leb}
use Rattle.refusal.specs.declared.Refusal.{Refusal}
use Rattle.refusal.proofs.Numbers.{number-small}
use Rattle.calendar.specs.Dates.{last_minute}
use Rattle.line.specs.declared.Rules.{Rules}
use Rattle.crontab.specs.declared.table.Table.{Table}
use Rattle.crontab.specs.declared.table.TableFault.{TableFault}
use Rattle.crontab.specs.Tables.{table_of, entry_in, count_in, refusal_in}
use Rattle.crontab.specs.Firings.{due_of, due_answer, due_in}
use Rattle.crontab.proofs.Theorems.{table-sound}
use Rattle.fifo.specs.Layout.{is_queue}
use Rattle.fifo.proofs.Theorems as fifo
use Rattle.fifo.proofs.Theorems.{TickedWithin, PoppedWithin, init-within, tick-within, pop-within, entry-within}
use Rattle.runqueue.specs.Jobs.{job_at, jobs_of}
use Rattle.runqueue.specs.Calls.{init_table, tick_table, pop_table, entry_table}
use Rattle.runqueue.specs.Demand.{jobs_in, TableDue, TableSteps, TableStepsGood}
use Rattle.runqueue.proofs.Exits.{init-good, tick-good, pop-good}
use Rattle.runqueue.proofs.Exits as exits
pub use Rattle.runqueue.proofs.TableFair.{table-fair, table-fair-from, table-refused-only, table-fair-in-buffer, table-fair-steady}
pub use Rattle.runqueue.proofs.TableFair.{table-fair-every, table-fair-every-from, table-waits-exactly, table-waits-at-most, table-waits-every, table-called-waits, table-called-every, fair-last, called-last}
pub use Rattle.runqueue.proofs.Reached.{limit-reached, demand-ends, demand-begins, every-ends}
pub use Rattle.runqueue.proofs.TableJobs.{few, matching-can-fire, due-can-fire}
pub use Rattle.runqueue.proofs.Chains.{chain-is-due}
pub use Rattle.runqueue.proofs.ChainTicks.{chain-is-ticks, chain-goes-on}
pub use Rattle.runqueue.proofs.Shifts.{next-shifts, answer-shifts, shifts-last}
pub use Rattle.runqueue.proofs.ChainCases.{fresh_unmarked, mark-needed, shift-met, shift-reaches, both_ends, both-starts, shift-fails}

-- a table that has an entry isn't refused
pub entry-good : (rules : Rules) (table : List ℕ) (e : ℕ) → e < (jobs_in rules table).count → refusal_in (table_of rules table) ≡ 0
unfolding jobs_of
entry-good rules table e h =
    elim (dec_le (refusal_in (table_of rules table)) 0) [ yes p ↦ omega arith | no n ↦ absurd (let z = (table-sound rules table).empty (λ k. n (omega arith)) in omega arith) ]

-- the functions go by the steps of which the claims speak
pub table-steps-good : TableStepsGood
unfolding jobs_of
table-steps-good rules table g room minute =
    (init-good (table_of rules table) room g, tick-good (table_of rules table) room g minute, pop-good (table_of rules table) room g)

pub table-steps : TableSteps
table-steps rules table e h = table-steps-good rules table (entry-good rules table e h)

-- what `due` says of an entry is what the claims' jobs say
due-by-table : (t : Result Table TableFault) (e minute : ℕ) → e < (jobs_of t).count → minute ≤ last_minute → due_in t e minute ≡ Ok ((jobs_of t).matches e minute)
unfolding due_in due_answer entry_in due_of jobs_of job_at
due-by-table (Ok x) e minute h on = rw (lt-ltb e x.count h, le-leb minute last_minute on)
due-by-table (Err f) e minute h on = absurd (omega arith)

pub table-due : TableDue
table-due rules table = due-by-table (table_of rules table)

-- no more than the table's entries join, and an entry that is named is one of them
pub init-told : (t : Result Table TableFault) (room : List ℕ) → TickedWithin (count_in t) (init_table t room).answer
unfolding init_table jobs_of
init-told (Ok x) room = init-within (jobs_of (Ok x)) room
init-told (Err f) room = number-small f.refusal

pub tick-told : (t : Result Table TableFault) (room : List ℕ) (minute : ℕ) → TickedWithin (count_in t) (tick_table t minute room).answer
unfolding tick_table jobs_of
tick-told (Ok x) room minute = tick-within (jobs_of (Ok x)) minute room
tick-told (Err f) room minute = number-small f.refusal

pub pop-told : (t : Result Table TableFault) (room : List ℕ) → PoppedWithin (count_in t) (pop_table t room).answer
unfolding pop_table
pop-told (Ok x) room = pop-within x.count room
pop-told (Err f) room = number-small f.refusal

pub entry-told : (t : Result Table TableFault) (room : List ℕ) (place : ℕ) → PoppedWithin (count_in t) (entry_table t place room)
unfolding entry_table
entry-told (Ok x) room place = entry-within x.count place room
entry-told (Err f) room place = number-small f.refusal

-- a look at the line: the front is who a request names
pub front-waits : (t : Result Table TableFault) (room : List ℕ) → entry_table t 0 room ≡ (pop_table t room).answer
unfolding entry_table pop_table
front-waits (Ok x) room = fifo.front-waits x.count room
front-waits (Err f) room = refl

-- and a request of a line moves everybody a place on
pub request-moves : (rules : Rules) (table room : List ℕ) (place : ℕ)
    → let t = table_of rules table in
    refusal_in t ≡ 0 → is_queue (count_in t) room ≡ true → entry_table t place (pop_table t room).room ≡ entry_table t (suc place) room
request-moves rules table room place good e =
    let t = table_of rules table in
    rw (exits.entry-good t (pop_table t room).room good place, exits.entry-good t room good (suc place), pop-good t room good)
    (fifo.request-moves (count_in t) place room (omega (arith, (table-sound rules table).few)) e)

-- a refused call leaves the room as it was
pub init-stays : (t : Result Table TableFault) (room : List ℕ) (n : Refusal) → (init_table t room).answer ≡ Err n → (init_table t room).room ≡ room
unfolding init_table
init-stays (Ok x) room n e = fifo.init-stays (jobs_of (Ok x)) room n e
init-stays (Err f) room n e = refl

pub tick-stays : (t : Result Table TableFault) (room : List ℕ) (n : Refusal) (minute : ℕ) → (tick_table t minute room).answer ≡ Err n → (tick_table t minute room).room ≡ room
unfolding tick_table
tick-stays (Ok x) room n minute e = fifo.tick-stays (jobs_of (Ok x)) minute room n e
tick-stays (Err f) room n minute e = refl

pub pop-stays : (t : Result Table TableFault) (room : List ℕ) (n : Refusal) → (pop_table t room).answer ≡ Err n → (pop_table t room).room ≡ room
unfolding pop_table
pop-stays (Ok x) room n e = fifo.pop-stays x.count room n e
pop-stays (Err f) room n e = refl
