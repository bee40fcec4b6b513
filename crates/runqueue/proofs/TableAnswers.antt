-- What the calls by table answer, and what a table says of its entries, for any table; and the rest of the claims said once more without their names.
-- Assumes nothing.
use mathlib.Core.Path.{◌≡◌, refl}
use Rattle.std.specs.Prelude.{Ok, Some, Err, Result}
use Rattle.refusal.specs.declared.Refusal.{Refusal}
use Rattle.refusal.specs.declared.Refusal.TheVariants.{NoSuchEntry}
use Rattle.schedule.specs.Local.{max_west}
use mathlib.Core.Bool.{Bool, true, false, cond}
use mathlib.Core.List.{List, [], ◌∷◌}
use Prim.Native.Nat.{ℕ, suc, ◌+◌, ◌-◌, ◌*◌, ◌≤◌, ◌<◌}
use native.Mathlib.Omega.{arith}
use lib.Dec.{ltb}
use lib.ListN.{take}
use Rattle.octets.specs.Texts.{text}
use Rattle.line.specs.declared.Rules.{Rules}
use Rattle.line.specs.declared.Kind.TheVariants.{User}
use Rattle.field.specs.declared.Dialect.TheVariants.{Rising}
use Rattle.crontab.specs.declared.entry.Entry.{Entry}
use Rattle.crontab.specs.declared.table.Table.{Table}
use Rattle.crontab.specs.declared.table.TableFault.{TableFault}
use Rattle.crontab.specs.Tables.{table_of, entry_in, count_in}
use Rattle.crontab.specs.Firings.{is_boot, is_fixed, fires_at, due_in, next_in}
use Rattle.std.specs.Prelude.{Some, Err}
use Rattle.fifo.specs.Queues.{Queue, is_waiting, proper}
use Rattle.fifo.specs.Layout.{queue_of, roomy, is_queue}
use Rattle.fifo.specs.Steps.{Jobs, calls, standing}
use Rattle.fifo.specs.Fairness.{Call, tick, is_refused, unrefused, Follows, up_to, Names}
use Rattle.fifo.specs.FairEvery.{ConsecutiveTicksEvery}
use Rattle.fifo.specs.Waits.{requests, up_to_request}
use Rattle.fifo.specs.Buffer.{calls_on, buffer_after_all, started}
use Rattle.fifo.specs.Steady.{steady}
use Rattle.runqueue.specs.Jobs.{job_at, jobs_of}
use Rattle.runqueue.specs.Calls.{init_table, tick_table, pop_table, entry_table}
use Rattle.runqueue.specs.Demand.{jobs_in, CanFire, OnCalendar, biased_offset_of, bound_from}
use Rattle.runqueue.specs.Chain.{joins_over, OnBoth}
use Rattle.runqueue.proofs.Theorems.{table-waits-exactly, table-waits-at-most, table-waits-every, table-called-waits, table-called-every, limit-reached, mark-needed, both_ends, shift-met, shift-fails}

-- ---- what a table says of its entries is what they say

found-is : (b : Bool) (x y : Entry) → cond {A = Result Entry Refusal} b (Ok y) (Err NoSuchEntry) ≡ Ok x → y ≡ x
found-is true x y e = cc
found-is false x y e = absurd (let z : ◌≡◌ {A = ℕ} 0 1 = cc in omega arith)

pub job_is : (t : Result Table TableFault) (e : ℕ) {x : Entry} → entry_in t e ≡ Ok x → job_at t e ≡ x
unfolding entry_in job_at
job_is (Ok y) e {x} is = found-is (ltb e y.count) x _ is
job_is (Err f) e {x} is = absurd (let z : ◌≡◌ {A = ℕ} 0 1 = cc in omega arith)

pub jobs-are : (t : Result Table TableFault) (e : ℕ) {x : Entry} → entry_in t e ≡ Ok x
    → ((jobs_of t).boot e ≡ is_boot x) × ((jobs_of t).fixed e ≡ is_fixed x) × ((m : ℕ) → (jobs_of t).matches e m ≡ fires_at x m)
unfolding jobs_of
jobs-are t e is = rw (job_is t e is) (refl, refl, (λ m. refl))

-- and it has as many jobs as entries
pub jobs-count : (t : Result Table TableFault) → (jobs_of t).count ≡ count_in t
unfolding jobs_of
jobs-count t = refl

-- ---- a refused table is answered by its own refusal, and the room stays

module _ (t : Result Table TableFault) {f : TableFault} (bad : t ≡ Err f) (room : List ℕ) where
  pub bad-table : (init_table t room ≡ record { answer = Err f.refusal; room = room })
      × ((minute : ℕ) → tick_table t minute room ≡ record { answer = Err f.refusal; room = room })
      × (pop_table t room ≡ record { answer = Err f.refusal; room = room })
      × ((place : ℕ) → entry_table t place room ≡ Err f.refusal)
  unfolding init_table tick_table pop_table entry_table
  bad-table = (rw bad, (λ minute. rw bad), rw bad, (λ place. rw bad))

-- ---- the claims of specs/Waits

module _ (rules : Rules) (table : List ℕ) where
  abbrev jobs : Jobs
  jobs = jobs_in rules table

  module _ (e : ℕ) (l : Queue) (cs : List Call) (good : proper jobs.count l ≡ true) (follows : Follows jobs l cs) where
    pub exactly-plainly : (p : ℕ) → standing p l.waiting ≡ Some e
        → (Names jobs e (up_to_request p (unrefused jobs cs)) → ⊥) × (p < requests (unrefused jobs cs) → Names jobs e (up_to_request (suc p) (unrefused jobs cs)))
    exactly-plainly p at = table-waits-exactly rules table e p l cs good at follows

    pub at-most-plainly : is_waiting e l.waiting ≡ true → jobs.count ≤ requests (unrefused jobs cs) → Names jobs e (up_to_request jobs.count (unrefused jobs cs))
    at-most-plainly queued = table-waits-at-most rules table e l cs good queued follows

    pub waits-every-plainly : (k p m : ℕ) → standing p l.waiting ≡ Some e
        → ConsecutiveTicksEvery k m (k * suc p - 1) 1 (unrefused jobs cs) → Names jobs e (up_to (k * suc p - 1) (unrefused jobs cs))
    waits-every-plainly k p m at = table-waits-every rules table k e p m l cs good at follows

  module _ (e minute : ℕ) (l : Queue) (room : List ℕ) (cs : List Call) (good : proper jobs.count l ≡ true)
      (entry : e < jobs.count) (timed : jobs.boot e ≡ false) (called : calls jobs l.mark minute e ≡ true)
      (follows : Follows jobs l (tick minute room ∷ cs)) (done : is_refused jobs (tick minute room) ≡ false) where
    pub called-plainly : jobs.count ≤ requests (unrefused jobs cs) → Names jobs e (up_to_request jobs.count (unrefused jobs cs))
    called-plainly = table-called-waits rules table e minute l room cs good entry timed called follows done

    pub called-every-plainly : (k : ℕ) → ConsecutiveTicksEvery k (minute + 1) (k * jobs.count - 1) 1 (unrefused jobs cs) → Names jobs e (up_to (k * jobs.count - 1) (unrefused jobs cs))
    called-every-plainly k = table-called-every rules table k e minute l room cs good entry timed called follows done

-- ---- the cases that show what the claims take

pub limit-plainly : (size : ℕ) (buffer : List ℕ)
    → let rules : Rules = record { kind = User; dialect = Rising } in
    let table = text "0 0 29 2 */7 a\n" in
    let jobs = jobs_in rules table in
    let n = bound_from rules table 0 62147340 in
    let calls = calls_on jobs (buffer_after_all jobs (started jobs size buffer) (steady size 62147520 1)) (steady size 62147341 n) in
    roomy 1 (take size buffer) ≡ true
    → CanFire rules table 0 × OnCalendar rules table 0 62147340 × (62147340 + n ≡ 83184480) × Names jobs 0 (up_to n calls) × (Names jobs 0 (up_to (n - 1) calls) → ⊥)
limit-plainly size buffer enough = limit-reached size buffer enough

abbrev first : Rules
first = record { kind = User; dialect = Rising }

abbrev midnight : Result Table TableFault
midnight = table_of first (text "0 0 * * * a\n")

abbrev evenings : List ℕ
evenings = text "CRON_TZ=-12:00\n0 18 * * * a\n"

pub mark-plainly : (room : List ℕ) → is_queue (count_in midnight) room ≡ true → (queue_of room).mark ≡ Some 1440
    → (due_in midnight 0 1440 ≡ Ok true) × (joins_over midnight 0 1 1440 room ≡ [])
mark-plainly room line at = mark-needed room line at

pub ends-plainly : OnBoth 1560 4223370839 × OnBoth 0 4223371679
ends-plainly = both_ends

pub met-plainly :
    let o = biased_offset_of first evenings 0 in
    OnBoth o max_west × OnBoth o 210380400 × OnBoth o 1800 × OnBoth o 210381480
    × (next_in (table_of first evenings) 0 max_west ≡ Ok 1800) × (next_in (table_of first evenings) 0 210380400 ≡ Ok 210381480)
met-plainly = let (s, a, b) = shift-met in (s.start, s.shifted, s.answer, s.other, a, b)

pub fails-plainly :
    let o = biased_offset_of first evenings 0 in
    OnBoth o 210379680 × OnBoth o 1800 × OnBoth o 210380040
    × (next_in (table_of first evenings) 0 0 ≡ Ok 1800) × (next_in (table_of first evenings) 0 210379680 ≡ Ok 210380040)
fails-plainly = shift-fails
