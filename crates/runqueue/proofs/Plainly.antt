-- The claims of specs/Demand and specs/Chain said once more without their names, for any table, entry, minute and calls: each hypothesis and each part of a
-- conclusion is here, so none can be added there or dropped.
-- Assumes nothing.
use mathlib.Core.Path.{◌≡◌}
use mathlib.Core.Bool.{true}
use mathlib.Core.List.{List, ◌++◌}
use Prim.Native.Nat.{ℕ, ◌+◌, ◌≤◌, ◌<◌}
use lib.ListN.{take}
use Rattle.std.specs.Prelude.{Ok, Some, None, Result}
use Rattle.line.specs.declared.Rules.{Rules}
use Rattle.crontab.specs.declared.table.Table.{Table}
use Rattle.crontab.specs.declared.table.TableFault.{TableFault}
use Rattle.crontab.specs.Tables.{table_of, count_in, refusal_in}
use Rattle.crontab.specs.Firings.{due_in, next_in}
use Rattle.fifo.specs.Queues.{Queue, proper}
use Rattle.fifo.specs.Layout.{queue_of, roomy, is_queue}
use Rattle.fifo.specs.Steps.{Jobs, fresh, init_step, tick_step, pop_step}
use Rattle.fifo.specs.Fairness.{Call, unrefused, Follows, ConsecutiveTicks, up_to, Names}
use Rattle.fifo.specs.FairEvery.{ConsecutiveTicksEvery}
use Rattle.fifo.specs.RefusedCalls.{Expected}
use Rattle.fifo.specs.Buffer.{Use, calls_on, buffer_after_all, started}
use Rattle.fifo.specs.Steady.{steady}
use Rattle.runqueue.specs.Calls.{init_table, tick_table, pop_table}
use Rattle.runqueue.specs.Demand.{jobs_in, CanFire, biased_offset_of, bound_from, OnCalendar, bound_every_from}
use Rattle.runqueue.specs.Chain.{Chain, due_after, joins_after, OnBoth}
use Rattle.runqueue.proofs.Theorems.{table-fair, table-fair-from, table-fair-steady, table-fair-every-from, table-refused-only, table-due, table-steps-good, chain-is-due, chain-is-ticks, chain-goes-on, next-shifts, answer-shifts, fresh_unmarked}

module _ (rules : Rules) (table : List ℕ) where
  abbrev t : Result Table TableFault
  t = table_of rules table

  abbrev jobs : Jobs
  jobs = jobs_in rules table

  -- ---- the third demand, from any minute m after which all is on the calendar

  module _ (e m : ℕ) (can : CanFire rules table e) where
    abbrev bound : ℕ
    bound = bound_from rules table e m

    module _ (utc : m + bound ≤ 4223371679) (local : m + bound + biased_offset_of rules table e ≤ 4223372399) where
      on : OnCalendar rules table e m
      on = record { utc = utc; local = local }

      pub fair-plainly : (first second : List Call)
          → Follows jobs (fresh jobs) (first ++ second) → ConsecutiveTicks (m + 1) bound true (unrefused jobs second) → Names jobs e (up_to bound (unrefused jobs second))
      fair-plainly first second follows = table-fair rules table e m first second can follows on

      pub fair-from-plainly : (l : Queue) (second : List Call) → proper jobs.count l ≡ true
          → Follows jobs l second → ConsecutiveTicks (m + 1) bound true (unrefused jobs second) → Names jobs e (up_to bound (unrefused jobs second))
      fair-from-plainly l second good follows = table-fair-from rules table e m l second can good follows on

      pub steady-plainly : (size : ℕ) (buffer : List ℕ) (first : List Use) → roomy jobs.count (take size buffer) ≡ true
          → Names jobs e (up_to bound (calls_on jobs (buffer_after_all jobs (started jobs size buffer) first) (steady size (m + 1) bound)))
      steady-plainly size buffer first room = table-fair-steady rules table e m size buffer first can room on

    pub every-plainly : (k : ℕ) (l : Queue) (second : List Call)
        → let n = bound_every_from rules table k e m in
        m + n ≤ 4223371679 → m + n + biased_offset_of rules table e ≤ 4223372399 → proper jobs.count l ≡ true
        → Follows jobs l second → ConsecutiveTicksEvery k (m + 1) n 0 (unrefused jobs second) → Names jobs e (up_to n (unrefused jobs second))
    every-plainly k l second utc local good follows = table-fair-every-from rules table k e m l second can good follows (record { utc = utc; local = local })

  -- ---- what the calls do

  pub steps-plainly : refusal_in t ≡ 0 → (room : List ℕ) (minute : ℕ)
      → (init_table t room ≡ init_step jobs room) × (tick_table t minute room ≡ tick_step jobs minute room) × (pop_table t room ≡ pop_step jobs.count room)
  steps-plainly good room minute = table-steps-good rules table good room minute

  pub refused-plainly : (cs : List Call) → refusal_in t ≡ 0 → Follows jobs (fresh jobs) cs → Expected jobs cs
  refused-plainly cs good follows = table-refused-only rules table cs good follows

  pub due-plainly : (e minute : ℕ) → e < jobs.count → minute ≤ 4223371679 → due_in t e minute ≡ Ok (jobs.matches e minute)
  due-plainly e minute h on = table-due rules table e minute h on

  -- ---- the chain

  module _ (e m : ℕ) (chain : List ℕ) where
    pub chain-plainly : (Chain t e m chain → chain ≡ due_after t e m) × (chain ≡ due_after t e m → Chain t e m chain)
    chain-plainly = ((chain-is-due rules table e m chain).0, (chain-is-due rules table e m chain).1)

    module _ (room : List ℕ) (line : is_queue (count_in t) room ≡ true) where
      pub ticks-plainly : (queue_of room).mark ≡ None
          → (Chain t e m chain → chain ≡ joins_after t e m room) × (chain ≡ joins_after t e m room → Chain t e m chain)
      ticks-plainly none = ((chain-is-ticks rules table e m room chain line none).0, (chain-is-ticks rules table e m room chain line none).1)

      pub goes-on-plainly : (queue_of room).mark ≡ Some m
          → (Chain t e m chain → chain ≡ joins_after t e m room) × (chain ≡ joins_after t e m room → Chain t e m chain)
      goes-on-plainly at = ((chain-goes-on rules table e m room chain line at).0, (chain-goes-on rules table e m room chain line at).1)

  pub fresh-plainly : (room : List ℕ) → refusal_in t ≡ 0 → roomy (count_in t) room ≡ true
      → (is_queue (count_in t) (init_table t room).room ≡ true) × ((queue_of (init_table t room).room).mark ≡ None)
  fresh-plainly room good enough = fresh_unmarked rules table room good enough

  -- 400 years on: the start, the later start and both answers are on the calendar, in UTC and locally
  module _ (e m n : ℕ) (start : OnBoth (biased_offset_of rules table e) m) (later : OnBoth (biased_offset_of rules table e) (m + 210379680)) (answer : OnBoth (biased_offset_of rules table e) n) where
    pub shifts-plainly : (k : ℕ) → OnBoth (biased_offset_of rules table e) k → next_in t e m ≡ Ok n → next_in t e (m + 210379680) ≡ Ok k → k ≡ n + 210379680
    shifts-plainly k other = next-shifts rules table e m n k (record { start = start; shifted = later; answer = answer; other = other })

    pub answers-plainly : OnBoth (biased_offset_of rules table e) (n + 210379680)
        → (next_in t e m ≡ Ok n → next_in t e (m + 210379680) ≡ Ok (n + 210379680)) × (next_in t e (m + 210379680) ≡ Ok (n + 210379680) → next_in t e m ≡ Ok n)
    answers-plainly other =
        let both = answer-shifts rules table e m n (record { start = start; shifted = later; answer = answer; other = other }) in
        (both.0, both.1)
