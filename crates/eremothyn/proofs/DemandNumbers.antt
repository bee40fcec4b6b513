-- The third demand in plain numbers, for any table, kind, dialect, entry, minute and lists of calls: what C hands in and gets back, and no name for a bound.
-- Assumes nothing.
use mathlib.Core.Path.{◌≡◌}
use mathlib.Core.Bool.{true}
use mathlib.Core.List.{List}
use Prim.Native.Nat.{ℕ, suc, ◌+◌, ◌-◌, ◌*◌, ◌≤◌, ◌<◌}
use native.Mathlib.Omega.{arith}
use lib.ListN.{take, get_or}
use borrow.Author.Tests.{lt-ltb, le-ltb}
use Rattle.line.specs.declared.Rules.{Rules}
use Rattle.fifo.specs.Fairness.{Call, ConsecutiveTicks, up_to}
use Rattle.fifo.specs.FairEvery.{ConsecutiveTicksEvery, steady_every}
use Rattle.fifo.specs.Waits.{requests, up_to_request}
use Rattle.fifo.specs.Buffer.{Use}
use Rattle.runqueue.specs.Jobs.{jobs_of}
use Rattle.runqueue.specs.Demand.{jobs_in, CanFire, biased_offset_of, bound_from, bound_every_from, OnCalendarEvery}
use Rattle.runqueue.proofs.Theorems.{entry-good}
use Rattle.crontab.specs.Tables.{table_of}
use Rattle.crontab.proofs.Tables.{good-is}
use Rattle.eremothyn.specs.Answer.{answer_of}
use Rattle.eremothyn.specs.Rules.{rules_of}
use Rattle.eremothyn.specs.Tables.{check_number}
use Rattle.eremothyn.specs.Calls.{check_call, due_call, queue_init_call, queue_entry_call}
use Rattle.eremothyn.specs.Demand.{buffer_made, buffer_left_by, calls_made, answered, Answers}
use Rattle.eremothyn.proofs.Demand.{due-can-fire, queue-fair, queue-fair-every, queue-fair-steady, queue-waits-exactly, queue-waits-at-most, queue-waits-every}

-- an entry that is due at any minute, of a table for which a queue was made; any calls, and then those of a second list
module _ (table : List ℕ) (kind dialect e m size : ℕ) (buffer : List ℕ) (first second : List Use)
    (due : due_call table kind dialect e m ≡ 1) (made : queue_init_call table kind dialect (take size buffer) ≤ 4294967296) (t : ℕ) where
  abbrev before : List ℕ
  before = buffer_left_by table kind dialect (buffer_made table kind dialect size buffer) first

  abbrev rules : Rules
  rules = rules_of kind dialect

  -- local time is so many minutes and 720 less ahead of UTC
  abbrev biased_offset : ℕ
  biased_offset = biased_offset_of rules table e

  can : CanFire rules table e
  can = due-can-fire table kind dialect e m due

  count-is : (jobs_in rules table).count ≡ check_call table kind dialect
  unfolding check_number answer_of jobs_of
  count-is = rw (good-is (table_of rules table) (entry-good rules table e can.entry)).1

  module _ (n k : ℕ) (utc : t + n ≤ 4223371679) (local : t + n + biased_offset ≤ 4223372399) (some : 0 < k) where
    abbrev calls : List Call
    calls = answered table kind dialect (calls_made table kind dialect before second)

    abbrev Fair : Type 0
    Fair =
        (ConsecutiveTicksEvery k (t + 1) n 0 calls → Answers table kind dialect e (up_to n calls))
        × Answers table kind dialect e (up_to n (calls_made table kind dialect before (steady_every size k (t + 1) n 0)))
        × (k ≡ 1 → ConsecutiveTicks (t + 1) n true calls → Answers table kind dialect e (up_to n calls))

    from-bound : bound_every_from rules table k e t ≡ n → Fair
    from-bound is =
        let on : OnCalendarEvery rules table k e t = record { utc = omega (arith, is); local = omega (arith, is) } in (
          rw is at (queue-fair-every table kind dialect k e t size buffer first second can made on),
          rw is at (queue-fair-steady table kind dialect k e t size buffer first can made on some),
          (λ one.
              let times : k * (jobs_in rules table).count ≡ (jobs_in rules table).count = rw one (let z : 1 * (jobs_in rules table).count ≡ (jobs_in rules table).count = omega arith in z) in
              let same : bound_from rules table e t ≡ n = omega (arith, is, times) in
              rw same at (queue-fair table kind dialect e t size buffer first second can made (record { utc = omega (arith, same); local = omega (arith, same) }))),
        )

    -- from 1970 on locally: 21,036,960 + 180 + k * N - 1 minutes
    pub fair-in-numbers : 720 ≤ t + biased_offset → n ≡ 21036960 + 180 + k * check_call table kind dialect - 1 → Fair
    fair-in-numbers on is = from-bound (rw (le-ltb (t + biased_offset) 720 on, count-is) (omega (arith, is)))

    -- and 720 more where t falls before 1970 locally
    pub fair-from-before : t + biased_offset < 720 → n ≡ 21036960 + 720 + 180 + k * check_call table kind dialect - 1 → Fair
    fair-from-before on is = from-bound (rw (lt-ltb (t + biased_offset) 720 on, count-is) (omega (arith, is)))

-- how long the entry at a place waits, for any of them
pub waits-in-numbers : (table : List ℕ) (kind dialect e p size : ℕ) (buffer : List ℕ) (us : List Use)
    → ((i : ℕ) → get_or buffer i 0 < 256) → queue_entry_call table kind dialect (take size buffer) p ≡ e → e < 4294967296
    → let calls = answered table kind dialect (calls_made table kind dialect buffer us) in
    (Answers table kind dialect e (up_to_request p calls) → ⊥)
    × (p < requests calls → Answers table kind dialect e (up_to_request (suc p) calls))
    × (check_call table kind dialect ≤ requests calls → Answers table kind dialect e (up_to_request (check_call table kind dialect) calls))
    × ((k m : ℕ) → ConsecutiveTicksEvery k m (k * suc p - 1) 1 calls → Answers table kind dialect e (up_to (k * suc p - 1) calls))
waits-in-numbers table kind dialect e p size buffer us bytes at h =
    let (before, then) = queue-waits-exactly table kind dialect e p size buffer us bytes at h in (
      before,
      then,
      queue-waits-at-most table kind dialect e p size buffer us bytes at h,
      (λ k m. queue-waits-every table kind dialect k e p m size buffer us bytes at h),
    )
