-- What a caller may rely on of a reload.
--   same-meaning-is: two entries pass the test exactly if they ask for the same; same-is: said of the entries of two tables
--   target-rank, target-last: an entry becomes the one of its rank among those that mean the same, or the last of them if there are fewer
--   reloaded-entries: the new queue names entries of the new table, none twice; reloaded-append: in the old order
--   still-waits: a queued entry stays queued as long as any entry of the new table means the same
--   was-waiting: and an entry that is queued then was queued before, as one that means the same: none joins
--   same-table: reloading the same table changes no byte
--   reload-leaves, reload-fair: what it leaves is a line of the new table, and demand 3 goes on from there
--   reload-told, reload-stays: what it can answer, and that a refused call leaves the room as it was
--   Extremes uses these at their edges: same-last, target-511, still-511, leaves-511, fair-511, same_bytes
--   ReloadAnswers has an equation for each way that a reload can go: old-refused, new-refused, no-old-queue, no-new-room, reload-says; target-queued, duty-is; and the
--     theorems above once more in full
-- Assumes nothing.
use mathlib.Core.Path.{◌≡◌, refl}
use mathlib.Core.Logic.{◌↔◌}
use mathlib.Core.Bool.{Bool, true, false, cond, ◌&&◌, and-eq-true_iff}
use mathlib.Core.List.{List}
use Prim.Native.Nat.{ℕ, ◌+◌}
use native.Mathlib.Omega.{arith}
use lib.ListN.{length}
use Rattle.refusal.specs.declared.Refusal.{Refusal}
use Rattle.refusal.specs.declared.Refusal.TheVariants.{NotAQueue}
use Rattle.refusal.proofs.Numbers.{number-small}
use Rattle.schedule.specs.Local.{OffsetInRange}
use Rattle.line.specs.declared.Rules.{Rules}
use Rattle.crontab.specs.declared.table.Table.{Table}
use Rattle.crontab.specs.declared.table.TableFault.{TableFault}
use Rattle.crontab.specs.Tables.{table_of, count_in}
use Rattle.std.specs.Prelude.{Result, Ok, Err}
use Rattle.fifo.specs.Queues.{Queue, proper}
use Rattle.fifo.specs.Layout.{queue_of, stored, roomy, is_queue}
use Rattle.fifo.specs.Steps.{Step, refilled}
use Rattle.fifo.specs.Fairness.{Call, Holds, Follows, unrefused, ConsecutiveTicks, up_to, Names}
use Rattle.octets.proofs.LittleEndian.{Bytes}
use Rattle.runqueue.specs.Jobs.{jobs_of}
use Rattle.runqueue.specs.Demand.{jobs_in, CanFire, OnCalendar, bound_from}
use Rattle.runqueue.proofs.Theorems.{table-fair-from}
use Rattle.fifo.proofs.Theorems.{TickedWithin, entries-length, is-queue, make-proper, holds-laid, laid-queue}
use Rattle.reload.specs.EntryMeanings.{EntryMeaning, same_meaning}
use Rattle.reload.specs.Calls.{refused_reload, queue_in, reload_step, reload_read, reload_tables}
use Rattle.reload.proofs.EntryMeanings.{same-meaning-eq, same-meaning-same}
use Rattle.reload.proofs.Reloads.{reloaded-entries, reloaded-self}
pub use Rattle.reload.proofs.Targets.{same-is, target-rank, target-last}
pub use Rattle.reload.proofs.Reloads.{reloaded-append, reloaded-entries, still-waits, was-waiting}

-- the test is equality, for offsets that may be
pub same-meaning-is : (a b : EntryMeaning) → OffsetInRange a.offset → OffsetInRange b.offset → (same_meaning a b ≡ true) ↔ (a ≡ b)
same-meaning-is a b h k = (same-meaning-eq a b h k, (λ e. rw e (same-meaning-same b)))

module _ (rules : Rules) (old new room : List ℕ) where
  -- the line that it leaves
  abbrev pub queue_after : Queue
  queue_after = record { mark = (queue_of room).mark; waiting = queue_in rules old new room }

  -- no more wait than the new table has entries
  step-told : TickedWithin (count_in (table_of rules new)) (reload_step rules old new room).answer
  unfolding reload_step
  step-told = go (is_queue (count_in (table_of rules old)) room && roomy (count_in (table_of rules new)) room) refl
    where
      go : (b : Bool) → (is_queue (count_in (table_of rules old)) room && roomy (count_in (table_of rules new)) room) ≡ b
          → TickedWithin (count_in (table_of rules new))
          (cond {A = Step (Result ℕ Refusal)} b (record { answer = Ok (length (queue_in rules old new room)); room = refilled (queue_in rules old new room) room }) (refused_reload NotAQueue room)).answer
      go true e =
          entries-length (count_in (table_of rules new)) (queue_in rules old new room) (reloaded-entries rules old new (queue_of room).waiting)
      go false e = number-small NotAQueue

  pub reload-told : TickedWithin (count_in (table_of rules new)) (reload_tables rules old new room).answer
  unfolding reload_tables reload_read
  reload-told = go (table_of rules old) (table_of rules new)
    where
      go : (t u : Result Table TableFault) → TickedWithin (count_in (table_of rules new)) (reload_read t u (reload_step rules old new room) room).answer
      go (Err f) u = number-small f.refusal
      go (Ok t) (Err f) = number-small f.refusal
      go (Ok t) (Ok u) = step-told

  -- a refused call leaves the room as it was
  step_stays : (n : Refusal) → (reload_step rules old new room).answer ≡ Err n → (reload_step rules old new room).room ≡ room
  unfolding reload_step
  step_stays n = go (is_queue (count_in (table_of rules old)) room && roomy (count_in (table_of rules new)) room)
    where
      go : (b : Bool)
          → let s : Step (Result ℕ Refusal) =
          cond b (record { answer = Ok (length (queue_in rules old new room)); room = refilled (queue_in rules old new room) room }) (refused_reload NotAQueue room)
          in
          s.answer ≡ Err n → s.room ≡ room
      go true e = absurd (let z : ◌≡◌ {A = ℕ} 0 1 = cc in omega arith)
      go false e = refl

  pub reload-stays : (n : Refusal) → (reload_tables rules old new room).answer ≡ Err n → (reload_tables rules old new room).room ≡ room
  unfolding reload_tables reload_read
  reload-stays n = go (table_of rules old) (table_of rules new)
    where
      go : (t u : Result Table TableFault) → let s = reload_read t u (reload_step rules old new room) room in s.answer ≡ Err n → s.room ≡ room
      go (Err f) u e = refl
      go (Ok t) (Err f) e = refl
      go (Ok t) (Ok u) e = step_stays n e

  -- ---- what it leaves

  -- a line of the new table, with the old mark
  step-leaves : (k : ℕ) → (reload_step rules old new room).answer ≡ Ok k
      → (proper (count_in (table_of rules new)) queue_after ≡ true) × (Holds queue_after (reload_step rules old new room).room)
  unfolding reload_step refilled queue_of
  step-leaves k e = go (is_queue (count_in (table_of rules old)) room && roomy (count_in (table_of rules new)) room) refl e
    where
      go : (b : Bool) → (is_queue (count_in (table_of rules old)) room && roomy (count_in (table_of rules new)) room) ≡ b
          → let s : Step (Result ℕ Refusal) =
          cond b (record { answer = Ok (length (queue_in rules old new room)); room = refilled (queue_in rules old new room) room }) (refused_reload NotAQueue room)
          in
          s.answer ≡ Ok k → (proper (count_in (table_of rules new)) queue_after ≡ true) × (Holds queue_after s.room)
      go false f e = absurd (let z : ◌≡◌ {A = ℕ} 0 1 = cc in omega arith)
      go true f e =
          let line = ((and-eq-true_iff (is_queue (count_in (table_of rules old)) room) (roomy (count_in (table_of rules new)) room)).0 f).0 in
          let is = is-queue (count_in (table_of rules old)) room line in
          (make-proper (count_in (table_of rules new)) queue_after is.0 (reloaded-entries rules old new (queue_of room).waiting), holds-laid queue_after room)

  pub reload-leaves : (k : ℕ) → (reload_tables rules old new room).answer ≡ Ok k
      → (proper (count_in (table_of rules new)) queue_after ≡ true) × (Holds queue_after (reload_tables rules old new room).room)
  unfolding reload_tables reload_read
  reload-leaves k = go (table_of rules old) (table_of rules new)
    where
      go : (t u : Result Table TableFault)
          → let s = reload_read t u (reload_step rules old new room) room in
          s.answer ≡ Ok k → (proper (count_in (table_of rules new)) queue_after ≡ true) × (Holds queue_after s.room)
      go (Err f) u e = absurd (let z : ◌≡◌ {A = ℕ} 0 1 = cc in omega arith)
      go (Ok t) (Err f) e = absurd (let z : ◌≡◌ {A = ℕ} 0 1 = cc in omega arith)
      go (Ok t) (Ok u) e = step-leaves k e

  -- demand 3 goes on from there: any list of calls with the new table that goes on from the line which a reload left
  pub reload-fair : (k e t : ℕ) (second : List Call)
      → let jobs = jobs_in rules new in
      (reload_tables rules old new room).answer ≡ Ok k
      → CanFire rules new e
      → Follows jobs queue_after second
      → OnCalendar rules new e t
      → ConsecutiveTicks (t + 1) (bound_from rules new e t) true (unrefused jobs second)
      → Names jobs e (up_to (bound_from rules new e t) (unrefused jobs second))
  unfolding jobs_of
  reload-fair k e t second done can follows on consecutive =
      table-fair-from rules new e t queue_after second can (reload-leaves k done).0 follows on consecutive

-- ---- the same table

-- reloading the same table changes no byte
pub same-table : (rules : Rules) (s room : List ℕ) → Bytes room → (reload_tables rules s s room).room ≡ room
unfolding reload_tables reload_read reload_step refilled
same-table rules s room f = outer (table_of rules s)
  where
    n : ℕ
    n = count_in (table_of rules s)

    inner : (b : Bool) → (is_queue n room && roomy n room) ≡ b
        → (cond {A = Step (Result ℕ Refusal)} b (record { answer = Ok (length (queue_in rules s s room)); room = stored (queue_after rules s s room) room }) (refused_reload NotAQueue room)).room ≡ room
    inner false e = refl
    inner true e =
        let line = ((and-eq-true_iff (is_queue n room) (roomy n room)).0 e).0 in
        rw (reloaded-self rules s (queue_of room).waiting (is-queue n room line).1) (laid-queue n room f line)

    outer : (t : Result Table TableFault) → (reload_read t t (reload_step rules s s room) room).room ≡ room
    outer (Ok t) = inner (is_queue n room && roomy n room) refl
    outer (Err g) = refl
