-- The minutes at which `due` says yes are those whose announcement lets the entry join, one by one, on a line that is emptied before each and
-- keeps its mark. Where the table is refused, so is every call.
-- Assumes nothing.
use mathlib.Core.Path.{◌≡◌, refl, sym, ap, ◌∙◌}
use mathlib.Core.Bool.{Bool, true, false, cond, not, ◌&&◌}
use mathlib.Core.List.{List}
use Prim.Native.Nat.{ℕ, zero, suc, ◌+◌, ◌-◌, ◌≤◌, ◌<◌}
use native.Mathlib.Omega.{arith}
use lib.Dec.{ltb}
use lib.ListN.{get_or}
use Rattle.std.specs.Prelude.{Ok, Err, Result}
use Rattle.refusal.specs.declared.Refusal.{Refusal}
use Rattle.refusal.specs.declared.Refusal.TheVariants.{NoSuchEntry}
use Rattle.refusal.proofs.Numbers.{number-small}
use Rattle.octets.specs.Passing.{passing, passing_up_to}
use Rattle.calendar.specs.Dates.{last_minute}
use Rattle.schedule.specs.Local.{biased_offset, matches_in}
use Rattle.line.specs.declared.time.When.{When}
use Rattle.line.specs.declared.time.When.TheVariants.{Reboot, Timed}
use Rattle.crontab.specs.declared.entry.Entry.{Entry}
use Rattle.crontab.specs.declared.table.Table.{Table}
use Rattle.crontab.specs.declared.table.TableFault.{TableFault}
use Rattle.crontab.specs.Tables.{table_of, entry_in, blank_entry, count_in, refusal_in}
use Rattle.crontab.specs.Firings.{by_when, is_boot, fires_at, due_answer, due_in}
use Rattle.fifo.specs.Queues.{Queue, is_waiting}
use Rattle.fifo.specs.Layout.{limit, queue_of, stored, is_queue}
use Rattle.std.specs.Prelude.{Result}
use Rattle.fifo.specs.Steps.{Step, tick_step, refilled}
use Rattle.fifo.proofs.Theorems.{is_called, Before, without, emptied-queue, emptied-is, announced-is, announced-mark, announced-waits}
use Rattle.runqueue.specs.Jobs.{job_at, jobs_of}
use Rattle.runqueue.specs.Chain.{is_yes, due_after, emptied, announced, joins_over, joins_after, ChainIsTicks, ChainGoesOn}
use Rattle.runqueue.proofs.Exits.{tick-bad, tick-good}
use Rattle.runqueue.proofs.TableJobs.{few}
use Rattle.runqueue.proofs.Chains.{yes-fires, chain-is-due}

-- ---- what `due` says, and whom a minute calls

-- a boot job fires at no minute
timed-fires : (x : Entry) (m : ℕ) → (not (is_boot x) && fires_at x m) ≡ fires_at x m
unfolding is_boot fires_at
timed-fires x m = go x.when
  where
    go : (w : When) → (not (by_when w true (λ s. false)) && by_when w false (λ s. matches_in s (biased_offset x.offset) m)) ≡ by_when w false (λ s. matches_in s (biased_offset x.offset) m)
    go Reboot = refl
    go (Timed s) = refl

due-called : (t : Result Table TableFault) (e m : ℕ) → refusal_in t ≡ 0 → m ≤ last_minute → is_called (jobs_of t) m e ≡ is_yes (due_in t e m)
unfolding is_called jobs_of job_at due_in due_answer entry_in
due-called (Err f) e m good on = absurd (let small = number-small f.refusal in omega (arith, small.0, good))
due-called (Ok y) e m good on = go (ltb e y.count)
  where
    x : Entry
    x = get_or y.entries e blank_entry

    go : (b : Bool) → (b && (not (is_boot x) && fires_at x m)) ≡ is_yes (due_answer (cond b (Ok x) (Err NoSuchEntry)) m)
    go true = timed-fires x m ∙ sym (yes-fires x m on)
    go false = refl

due-none : (t : Result Table TableFault) (e m : ℕ) {f : TableFault} → t ≡ Err f → is_yes (due_in t e m) ≡ false
unfolding due_in due_answer entry_in
due-none t e m bad = rw bad

-- ---- minute by minute, while something holds of each minute and its room

module _ (t : Result Table TableFault) (e : ℕ) where
  abbrev is_due : ℕ → Bool
  is_due m = is_yes (due_in t e m)

  -- what a minute and the room before it have, the next has, and it lets the entry join just where it is due
  record Steps (Has : ℕ → List ℕ → Type 0) : Type 0 where
    next : (m : ℕ) (room : List ℕ) → m ≤ last_minute → Has m room → Has (suc m) (announced t m room)
    joins : (m : ℕ) (room : List ℕ) → m ≤ last_minute → Has m room → is_waiting e (queue_of (announced t m room)).waiting ≡ is_due m

  joins-due : {Has : ℕ → List ℕ → Type 0} → Steps Has → (n m : ℕ) (room : List ℕ) → n ≤ last_minute + 1 - m → Has m room
      → joins_over t e n m room ≡ passing is_due n m
  unfolding joins_over passing
  joins-due s zero m room h has = refl
  joins-due s (suc n) m room h has =
      rw (s.joins m room (omega arith) has, joins-due s n (suc m) (announced t m room) (omega arith) (s.next m room (omega arith) has))

-- ---- the two kinds of table

module _ (t : Result Table TableFault) (small : count_in t < limit) (e : ℕ) where
  -- a good one: the room has a line of it, and no mark or the minute before
  abbrev Follows : ℕ → List ℕ → Type 0
  Follows m room = (is_queue (count_in t) room ≡ true) × Before (queue_of room).mark m

  good-room : refusal_in t ≡ 0 → (m : ℕ) (room : List ℕ) → announced t m room ≡ (tick_step (jobs_of t) m (stored (without (queue_of room)) room)).room
  unfolding announced emptied refilled
  good-room good m room = ap (λ (s : Step (Result ℕ Refusal)). s.room) (tick-good t (stored (without (queue_of room)) room) good m)

  good-next : refusal_in t ≡ 0 → (m : ℕ) (room : List ℕ) → m ≤ last_minute → Follows m room → Follows (suc m) (announced t m room)
  unfolding jobs_of
  good-next good m room on (line, before) =
      let next : suc m ≡ m + 1 = omega arith in
      rw (good-room good m room) (announced-is (jobs_of t) small m on room line, rw (announced-mark (jobs_of t) small m on room line before) next)

  good-joins : refusal_in t ≡ 0 → (m : ℕ) (room : List ℕ) → m ≤ last_minute → Follows m room
      → is_waiting e (queue_of (announced t m room)).waiting ≡ is_yes (due_in t e m)
  unfolding jobs_of
  good-joins good m room on (line, before) =
      rw (good-room good m room) (announced-waits (jobs_of t) small m on room line before e ∙ due-called t e m good on)

  -- a refused one: the room stays a line of none
  bad-room : {f : TableFault} → t ≡ Err f → (m : ℕ) (room : List ℕ) → stored (without (queue_of room)) room ≡ announced t m room
  unfolding announced emptied refilled
  bad-room bad m room = (tick-bad t (stored (without (queue_of room)) room) bad m).1

  bad-next : {f : TableFault} → t ≡ Err f → (m : ℕ) (room : List ℕ) → is_queue (count_in t) room ≡ true → is_queue (count_in t) (announced t m room) ≡ true
  bad-next bad m room line = rw (← bad-room bad m room) (emptied-is (count_in t) small room line)

  bad-joins : {f : TableFault} → t ≡ Err f → (m : ℕ) (room : List ℕ) → is_queue (count_in t) room ≡ true
      → is_waiting e (queue_of (announced t m room)).waiting ≡ is_yes (due_in t e m)
  unfolding is_waiting
  bad-joins bad m room line =
      rw (← bad-room bad m room) (ap (λ (l : Queue). is_waiting e l.waiting) (emptied-queue (count_in t) small room line))
      ∙ sym (due-none t e m bad)

  -- either way
  joins-all : (n m : ℕ) (room : List ℕ) → n ≤ last_minute + 1 - m → is_queue (count_in t) room ≡ true → Before (queue_of room).mark m
      → joins_over t e n m room ≡ passing (λ k. is_yes (due_in t e k)) n m
  joins-all n m room h line before = go t refl
    where
      go : (u : Result Table TableFault) → t ≡ u → joins_over t e n m room ≡ passing (λ k. is_yes (due_in t e k)) n m
      go (Ok x) is =
          let good : refusal_in t ≡ 0 = ap (λ (v : Result Table TableFault). refusal_in v) is in
          joins-due t e {Has = Follows} (record { next = good-next good; joins = good-joins good }) n m room h (line, before)
      go (Err f) is =
          joins-due t e {Has = λ m room. is_queue (count_in t) room ≡ true} (record { next = λ m room on. bad-next is m room; joins = λ m room on. bad-joins is m room }) n m room h line

  pub joins-are-due : (m : ℕ) (room : List ℕ) → is_queue (count_in t) room ≡ true → Before (queue_of room).mark (m + 1) → joins_after t e m room ≡ due_after t e m
  unfolding joins_after due_after passing_up_to
  joins-are-due m room line before =
      let n : last_minute + 1 - (m + 1) ≡ last_minute - m = omega arith in
      joins-all (last_minute - m) (m + 1) room (omega arith) line before ∙ rw n

pub chain-is-ticks : ChainIsTicks
unfolding jobs_of
chain-is-ticks rules table e m room chain line none =
    rw (joins-are-due (table_of rules table) (few rules table) e m room line (rw none tt)) (chain-is-due rules table e m chain)

pub chain-goes-on : ChainGoesOn
unfolding jobs_of
chain-goes-on rules table e m room chain line is =
    rw (joins-are-due (table_of rules table) (few rules table) e m room line (rw is refl)) (chain-is-due rules table e m chain)
