-- What a reload answers and leaves, an equation for each way that it can go, and the theorems about it once more in full, for any rules, tables and buffers.
-- Assumes nothing.
use mathlib.Core.Path.{◌≡◌, refl, sym, ap, ◌∙◌}
use mathlib.Core.Bool.{Bool, true, false, cond, ◌||◌, true≢false}
use mathlib.Core.List.{List, [], ◌∷◌, ◌++◌}
use Prim.Native.Nat.{ℕ, ◌+◌, ◌<◌}
use lib.IntN.{ℤ, pos}
use lib.ListN.{length}
use lib.Dec.{eqb}
use borrow.Author.Tests.{eq-eqb, eqb-true, lt-ltb}
use Rattle.std.specs.Prelude.{Ok}
use Rattle.refusal.specs.declared.Refusal.TheVariants.{NotAQueue}
use Rattle.octets.specs.Runs.{between}
use Rattle.octets.proofs.LittleEndian.{Bytes}
use Rattle.line.specs.declared.Rules.{Rules}
use Rattle.line.specs.Assignments.{part_bytes}
use Rattle.line.specs.declared.time.When.TheVariants.{Reboot, Timed}
use Rattle.schedule.specs.declared.Schedule.{Schedule}
use Rattle.crontab.specs.declared.entry.Entry.{Entry}
use Rattle.crontab.specs.declared.table.TableFault.{TableFault}
use Rattle.crontab.specs.Tables.{table_of, entry_in, count_in, refusal_in}
use Rattle.crontab.specs.Owners.{owner_of}
use Rattle.crontab.proofs.Tables.{good-is}
use Rattle.std.specs.Prelude.{Ok, Err}
use Rattle.fifo.specs.Queues.{Queue, is_waiting, proper}
use Rattle.fifo.specs.Layout.{queue_of, stored, roomy, is_queue}
use Rattle.fifo.specs.Steps.{refilled}
use Rattle.fifo.specs.Fairness.{Call, Holds, Follows, unrefused, ConsecutiveTicks, up_to, Names}
use Rattle.runqueue.specs.Demand.{jobs_in, CanFire, OnCalendar, bound_from}
use Rattle.fifo.proofs.Theorems.{waits-append}
use Rattle.runqueue.proofs.TableAnswers.{job_is}
use Rattle.reload.specs.EntryMeanings.{clock_of, duty_of}
use Rattle.reload.specs.Targets.{duty_in, same_in, target_in, joins, joined, reloaded_from, reloaded}
use Rattle.reload.specs.Calls.{reload_step, reload_read, reload_tables}
use Rattle.reload.proofs.Theorems.{still-waits, was-waiting, reload-leaves, reload-fair, same-table}

module _ (rules : Rules) (old new room : List ℕ) where
  pub old-refused : {f : TableFault} → table_of rules old ≡ Err f → reload_tables rules old new room ≡ record { answer = Err f.refusal; room = room }
  unfolding reload_tables reload_read
  old-refused bad = rw bad

  module _ (good : refusal_in (table_of rules old) ≡ 0) where
    pub new-refused : {f : TableFault} → table_of rules new ≡ Err f → reload_tables rules old new room ≡ record { answer = Err f.refusal; room = room }
    unfolding reload_tables reload_read
    new-refused bad = rw ((good-is (table_of rules old) good).1, bad)

    module _ (fine : refusal_in (table_of rules new) ≡ 0) where
      goes : reload_tables rules old new room ≡ reload_step rules old new room
      unfolding reload_tables reload_read
      goes = rw ((good-is (table_of rules old) good).1, (good-is (table_of rules new) fine).1)

      -- no queue of the old table
      pub no-old-queue : is_queue (count_in (table_of rules old)) room ≡ false → reload_tables rules old new room ≡ record { answer = Err NotAQueue; room = room }
      unfolding reload_step
      no-old-queue none = goes ∙ rw none

      -- too little room for the new one
      pub no-new-room : is_queue (count_in (table_of rules old)) room ≡ true → roomy (count_in (table_of rules new)) room ≡ false
          → reload_tables rules old new room ≡ record { answer = Err NotAQueue; room = room }
      unfolding reload_step
      no-new-room line short = goes ∙ rw (line, short)

      -- it answers how many are queued, and keeps the mark
      pub reload-says : is_queue (count_in (table_of rules old)) room ≡ true → roomy (count_in (table_of rules new)) room ≡ true
          → let queue = reloaded rules old new (queue_of room).waiting in
          reload_tables rules old new room ≡ record { answer = Ok (length queue); room = stored (record { mark = (queue_of room).mark; waiting = queue }) room }
      unfolding reload_step refilled
      reload-says line enough = goes ∙ rw (line, enough)

  -- ---- what it leaves

  pub leaves-plainly : (k : ℕ) → (reload_tables rules old new room).answer ≡ Ok k
      → let after : Queue = record { mark = (queue_of room).mark; waiting = reloaded rules old new (queue_of room).waiting } in
      (proper (count_in (table_of rules new)) after ≡ true) × Holds after (reload_tables rules old new room).room
  leaves-plainly k done = reload-leaves rules old new room k done

  pub reload-fair-plainly : (k e m : ℕ) (second : List Call)
      → let jobs = jobs_in rules new in
      let n = bound_from rules new e m in
      (reload_tables rules old new room).answer ≡ Ok k → CanFire rules new e
      → Follows jobs (record { mark = (queue_of room).mark; waiting = reloaded rules old new (queue_of room).waiting }) second
      → OnCalendar rules new e m → ConsecutiveTicks (m + 1) n true (unrefused jobs second) → Names jobs e (up_to n (unrefused jobs second))
  reload-fair-plainly k e m second = reload-fair rules old new room k e m second

-- ---- who is queued then

module _ (n : ℕ) (queue : List ℕ) (j : ℕ) where
  joined_keeps : (x : ℕ) → is_waiting x queue ≡ true → is_waiting x (joined n queue j) ≡ true
  unfolding joined
  joined_keeps x t = go (joins n queue j)
    where
      go : (b : Bool) → is_waiting x (cond b (queue ++ j ∷ []) queue) ≡ true
      go true = waits-append x queue (j ∷ []) ∙ rw t
      go false = t

  joined-there : j < n → is_waiting j (joined n queue j) ≡ true
  unfolding joined is_waiting
  joined-there h = go (is_waiting j queue) refl
    where
      go : (b : Bool) → is_waiting j queue ≡ b → is_waiting j (cond (joins n queue j) (queue ++ j ∷ []) queue) ≡ true
      go true e = rw (lt-ltb j n h, e) e
      go false e = rw (lt-ltb j n h, e) (waits-append j queue (j ∷ []) ∙ rw (e, eq-eqb j j refl))

module _ (rules : Rules) (old new : List ℕ) where
  abbrev count : ℕ
  count = count_in (table_of rules new)

  stays : (queue l : List ℕ) (x : ℕ) → is_waiting x queue ≡ true → is_waiting x (reloaded_from rules old new queue l) ≡ true
  unfolding reloaded_from
  stays queue [] x t = t
  stays queue (y ∷ l) x t = stays (joined count queue (target_in rules old new y)) l x (joined_keeps count queue (target_in rules old new y) x t)

  queued-from : (queue l : List ℕ) (e : ℕ) → is_waiting e l ≡ true → target_in rules old new e < count → is_waiting (target_in rules old new e) (reloaded_from rules old new queue l) ≡ true
  unfolding is_waiting reloaded_from
  queued-from queue [] e w h = absurd (true≢false (sym w))
  queued-from queue (y ∷ l) e w h = go (eqb y e) refl w (queued-from (joined count queue (target_in rules old new y)) l e)
    where
      go : (b : Bool) → eqb y e ≡ b → (b || is_waiting e l) ≡ true
          → (is_waiting e l ≡ true → target_in rules old new e < count → is_waiting (target_in rules old new e) (reloaded_from rules old new (joined count queue (target_in rules old new y)) l) ≡ true)
          → is_waiting (target_in rules old new e) (reloaded_from rules old new (joined count queue (target_in rules old new y)) l) ≡ true
      go false q v later = later v h
      go true q v later =
          rw (ap (target_in rules old new) (eqb-true y e q))
          (stays (joined count queue (target_in rules old new e)) l (target_in rules old new e) (joined-there count queue (target_in rules old new e) h))

  -- a queued entry's target, if it has one
  pub target-queued : (l : List ℕ) (e : ℕ) → is_waiting e l ≡ true → target_in rules old new e < count_in (table_of rules new) → is_waiting (target_in rules old new e) (reloaded rules old new l) ≡ true
  target-queued l e w h = queued-from [] l e w h

module _ (rules : Rules) (old new l : List ℕ) where
  pub still-plainly : (e j : ℕ) → is_waiting e l ≡ true → j < count_in (table_of rules new) → same_in rules old e new j ≡ true
      → (k : ℕ) × (is_waiting k (reloaded rules old new l) ≡ true) × (same_in rules old e new k ≡ true)
  still-plainly = still-waits rules old new l

  pub was-plainly : (j : ℕ) → is_waiting j (reloaded rules old new l) ≡ true
      → (e : ℕ) × (is_waiting e l ≡ true) × (target_in rules old new e ≡ j) × (same_in rules old e new j ≡ true)
  was-plainly = was-waiting rules old new l

pub same-plainly : (rules : Rules) (s room : List ℕ) → Bytes room → (reload_tables rules s s room).room ≡ room
same-plainly rules s room bytes = same-table rules s room bytes

-- ---- what an entry asks for

pub duty-is : (rules : Rules) (s : List ℕ) (i : ℕ) {x : Entry} → entry_in (table_of rules s) i ≡ Ok x
    → duty_in rules s i
    ≡ record {
      when = x.when;
      offset = clock_of x.when x.offset;
      command = between s x.start x.end;
      user = part_bytes s (owner_of rules s x).user;
      group = part_bytes s (owner_of rules s x).group;
      class = part_bytes s (owner_of rules s x).class;
    }
unfolding duty_in duty_of
duty-is rules s i is = rw (job_is (table_of rules s) i is)

-- a boot entry has no offset
pub clock-is : (offset : ℤ) → (clock_of Reboot offset ≡ pos 0) × ((times : Schedule) → clock_of (Timed times) offset ≡ offset)
unfolding clock_of
clock-is offset = (refl, (λ times. refl))
