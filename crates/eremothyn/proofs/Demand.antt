-- The third demand and how long an entry waits, over the calls that C makes: for a table that isn't refused they are the calls of which runqueue's
-- theorems speak, and C's numbers say the same as its answers.
-- Assumes nothing.
use mathlib.Core.Path.{◌≡◌, refl, sym, ap, ◌∙◌}
use mathlib.Core.Logic.{inl, inr}
use mathlib.Core.Bool.{Bool, true, false, not, cond, ◌&&◌, and-eq-true_iff}
use mathlib.Core.List.{List, [], ◌∷◌, ◌++◌}
use Prim.Native.Nat.{ℕ, zero, suc, ◌+◌, ◌-◌, ◌*◌, ◌≤◌, ◌<◌}
use native.Mathlib.Omega.{arith}
use lib.Dec.{ltb, leb, eqb}
use lib.ListN.{length, take, drop, get_or, replicate}
use borrow.Author.Tests.{ltb-true, leb-true, ne_eqb, le-leb, lt-leb}
use Rattle.std.specs.Prelude.{Result, Ok, Err}
use Rattle.refusal.specs.declared.Refusal.{Refusal}
use Rattle.refusal.specs.declared.Refusal.TheVariants.{NotAQueue}
use Rattle.refusal.specs.Numbers.{number_of}
use Rattle.octets.specs.Texts.{text}
use Rattle.calendar.specs.Dates.{last_minute}
use Rattle.line.specs.declared.Rules.{Rules}
use Rattle.crontab.specs.Limits.{max_entries}
use Rattle.crontab.specs.declared.table.Table.{Table}
use Rattle.crontab.specs.declared.table.TableFault.{TableFault}
use Rattle.crontab.specs.Tables.{table_of, count_in, refusal_in}
use Rattle.crontab.specs.Firings.{due_in}
use Rattle.crontab.specs.Computing.{reading}
use Rattle.crontab.proofs.Theorems.{table-sound}
use Rattle.crontab.proofs.Tables.{good-is}
use Rattle.std.specs.Prelude.{Option, Some, None, Result, Ok, Err}
use Rattle.fifo.specs.Layout.{queue_of, stored, roomy, is_queue}
use Rattle.fifo.specs.Refusals.{tick_refusal, pop_refusal}
use Rattle.fifo.specs.Steps.{Jobs, Step, fresh, init_step, standing, entry_step}
use Rattle.fifo.specs.Fairness.{Call, tick, pop, room_after, refusal, is_refused, unrefused, ConsecutiveTicks, up_to, Names}
use Rattle.fifo.specs.FairEvery.{ConsecutiveTicksEvery, steady_every}
use Rattle.fifo.specs.Waits.{requests, up_to_request}
use Rattle.fifo.specs.Buffer.{Use, tick_in, call_on, buffer_after, calls_on, buffer_after_all, started}
use Rattle.fifo.proofs.Theorems.{TickedWithin, PoppedWithin, buffer-follows, found-follows, standing-in, steady-every-consecutive}
use Rattle.runqueue.specs.Calls.{tick_table, pop_table, entry_table}
use Rattle.runqueue.specs.Jobs.{job_at, jobs_of}
use Rattle.runqueue.specs.Demand.{jobs_in, CanFire, bound_from, OnCalendar, bound_every_from, OnCalendarEvery}
use Rattle.runqueue.proofs.Theorems as runqueue
use Rattle.runqueue.proofs.Theorems.{entry-good, few, table-steps-good, tick-told, pop-told, table-fair-in-buffer, table-fair-every, table-waits-exactly, table-waits-at-most, table-waits-every}
use Rattle.eremothyn.specs.Answer.{refused_from, answer_of}
use Rattle.eremothyn.specs.Rules.{rules_of}
use Rattle.eremothyn.specs.Tables.{check_number}
use Rattle.eremothyn.specs.Entries.{due_number}
use Rattle.eremothyn.specs.Queue.{tick_number, pop_number}
use Rattle.eremothyn.specs.Calls.{check_call, due_call, queue_init_call, queue_entry_call}
use Rattle.eremothyn.specs.Computing.{answering}
use Rattle.eremothyn.specs.Demand.{answer_to, bytes_after, buffer_made, buffer_left, buffer_left_by, calls_made, answered, Answers, whole}
use Rattle.eremothyn.specs.Demand.{QueueFair, QueueFairEvery, QueueFairSteady, QueueWaitsExactly, QueueWaitsAtMost, QueueWaitsEvery}

-- ---- numbers

-- an answer is above 4,294,967,296 just where it is a refusal
tick-above : (n : ℕ) (a : Result ℕ Refusal) → n ≤ max_entries → TickedWithin n a → leb (tick_number a) refused_from ≡ eqb (tick_refusal a) 0
unfolding tick_number tick_refusal
tick-above n (Ok k) h w = le-leb k refused_from (omega arith)
tick-above n (Err refusal) h w =
    lt-leb (refused_from + number_of refusal) refused_from (omega (arith, w.0)) ∙ sym (ne_eqb (number_of refusal) 0 (λ z. omega (arith, w.0, z)))

pop-above : (n : ℕ) (a : Result (Option ℕ) Refusal) → n ≤ max_entries → PoppedWithin n a → leb (pop_number a) refused_from ≡ eqb (pop_refusal a) 0
unfolding pop_number pop_refusal
pop-above n (Ok (Some e)) h w = le-leb e refused_from (omega arith)
pop-above n (Ok None) h w = refl
pop-above n (Err refusal) h w =
    lt-leb (refused_from + number_of refusal) refused_from (omega (arith, w.0)) ∙ sym (ne_eqb (number_of refusal) 0 (λ z. omega (arith, w.0, z)))

-- a number below it names an entry
pop-names : (a : Result (Option ℕ) Refusal) (e : ℕ) → e < refused_from → pop_number a ≡ e → a ≡ Ok (Some e)
unfolding pop_number
pop-names (Ok (Some x)) e h q = rw q
pop-names (Ok None) e h q = absurd (omega (arith, q))
pop-names (Err refusal) e h q = absurd (omega (arith, q))

-- ---- the calls of a good table

module _ (table : List ℕ) (kind dialect : ℕ) (good : refusal_in (table_of (rules_of kind dialect) table) ≡ 0) where
  abbrev rules : Rules
  rules = rules_of kind dialect

  abbrev jobs : Jobs
  jobs = jobs_in rules table

  bytes-is : (c : Call) → bytes_after table kind dialect c ≡ room_after jobs c
  unfolding bytes_after room_after
  bytes-is (tick minute room) = ap (λ (s : Step (Result ℕ Refusal)). s.room) (table-steps-good rules table good room minute).1
  bytes-is (pop room) = ap (λ (s : Step (Result (Option ℕ) Refusal)). s.room) (table-steps-good rules table good room 0).2

  above-is : (c : Call) → leb (answer_to table kind dialect c) refused_from ≡ eqb (refusal jobs c) 0
  unfolding answer_to refusal
  above-is (tick minute room) =
      let t = table_of rules table in
      tick-above (count_in t) (tick_table t minute room).answer (table-sound rules table).few (tick-told t room minute)
      ∙ ap (λ (s : Step (Result ℕ Refusal)). eqb (tick_refusal s.answer) 0) (table-steps-good rules table good room minute).1
  above-is (pop room) =
      let t = table_of rules table in
      pop-above (count_in t) (pop_table t room).answer (table-sound rules table).few (pop-told t room)
      ∙ ap (λ (s : Step (Result (Option ℕ) Refusal)). eqb (pop_refusal s.answer) 0) (table-steps-good rules table good room 0).2

  answered-is : (cs : List Call) → answered table kind dialect cs ≡ unrefused jobs cs
  unfolding answered unrefused is_refused
  answered-is [] = refl
  answered-is (c ∷ cs) = rw (above-is c, answered-is cs) (go (eqb (refusal jobs c) 0))
    where
      go : (b : Bool) → cond b (c ∷ unrefused jobs cs) (unrefused jobs cs) ≡ cond (not b) (unrefused jobs cs) (c ∷ unrefused jobs cs)
      go true = refl
      go false = refl

  left_is : (buffer : List ℕ) (u : Use) → buffer_left table kind dialect buffer u ≡ buffer_after jobs buffer u
  unfolding buffer_left buffer_after
  left_is buffer u = rw (bytes-is (call_on buffer u))

  left-by-is : (us : List Use) (buffer : List ℕ) → buffer_left_by table kind dialect buffer us ≡ buffer_after_all jobs buffer us
  unfolding buffer_left_by buffer_after_all
  left-by-is [] buffer = refl
  left-by-is (u ∷ us) buffer = rw (left_is buffer u) (left-by-is us (buffer_after jobs buffer u))

  made-is : (size : ℕ) (buffer : List ℕ) → buffer_made table kind dialect size buffer ≡ started jobs size buffer
  unfolding buffer_made started
  made-is size buffer = ap (λ (s : Step (Result ℕ Refusal)). s.room ++ drop size buffer) (table-steps-good rules table good (take size buffer) 0).0

  calls_is : (us : List Use) (buffer : List ℕ) → calls_made table kind dialect buffer us ≡ calls_on jobs buffer us
  unfolding calls_made calls_on
  calls_is [] buffer = refl
  calls_is (u ∷ us) buffer = rw (left_is buffer u, calls_is us (buffer_after jobs buffer u))

  names-answers : (e : ℕ) (cs : List Call) → Names jobs e cs → Answers table kind dialect e cs
  unfolding pop_number
  names-answers e [] named = elim named [ ]
  names-answers e (tick minute room ∷ cs) named = names-answers e cs named
  names-answers e (pop room ∷ cs) (inl named) = inl (rw ((table-steps-good rules table good room 0).2, named))
  names-answers e (pop room ∷ cs) (inr named) = inr (names-answers e cs named)

  answers-names : (e : ℕ) (cs : List Call) → e < refused_from → Answers table kind dialect e cs → Names jobs e cs
  answers-names e [] h told = elim told [ ]
  answers-names e (tick minute room ∷ cs) h told = answers-names e cs h told
  answers-names e (pop room ∷ cs) h (inl told) = inl (rw (table-steps-good rules table good room 0).2 at (pop-names _ e h told))
  answers-names e (pop room ∷ cs) h (inr told) = inr (answers-names e cs h told)

  -- a queue that was made had room
  made-roomy : (room : List ℕ) → queue_init_call table kind dialect room ≤ refused_from → roomy jobs.count room ≡ true
  unfolding init_step tick_number number_of
  made-roomy room h = go (roomy jobs.count room) (rw (table-steps-good rules table good room 0).0 at h)
    where
      go : (b : Bool)
          → tick_number
          (cond {A = Step (Result ℕ Refusal)} b (record { answer = Ok (length (fresh jobs).waiting); room = stored (fresh jobs) room }) (record { answer = Err NotAQueue; room = room })).answer
          ≤ refused_from
          → b ≡ true
      go true k = refl
      go false k = absurd (omega arith)

  check-is : check_call table kind dialect ≡ jobs.count
  unfolding check_number answer_of jobs_of
  check-is = rw (good-is (table_of (rules_of kind dialect) table) good).1

-- the calls that come after a first list on a buffer in which a queue was made
after-made : (table : List ℕ) (kind dialect : ℕ) (good : refusal_in (table_of (rules_of kind dialect) table) ≡ 0) (size : ℕ) (buffer : List ℕ) (first second : List Use)
    → let jobs = jobs_in (rules_of kind dialect) table in
    calls_made table kind dialect (buffer_left_by table kind dialect (buffer_made table kind dialect size buffer) first) second
    ≡ calls_on jobs (buffer_after_all jobs (started jobs size buffer) first) second
after-made table kind dialect good size buffer first second =
    let jobs = jobs_in (rules_of kind dialect) table in
    rw (made-is table kind dialect good size buffer, left-by-is table kind dialect good first (started jobs size buffer))
    (calls_is table kind dialect good second (buffer_after_all jobs (started jobs size buffer) first))

-- ---- the third demand

-- an entry that is due at any minute can fire
pub due-can-fire : (table : List ℕ) (kind dialect e m : ℕ) → due_call table kind dialect e m ≡ 1 → CanFire (rules_of kind dialect) table e
unfolding due_number
due-can-fire table kind dialect e m q = runqueue.due-can-fire (rules_of kind dialect) table e m (go (due_in (table_of (rules_of kind dialect) table) e m) q)
  where
    go : (a : Result Bool Refusal) → due_number a ≡ 1 → a ≡ Ok true
    go (Ok true) q = refl
    go (Ok false) q = absurd (omega (arith, q))
    go (Err refusal) q = absurd (omega (arith, q))

pub queue-fair : QueueFair
queue-fair table kind dialect e t size buffer first second f made on consecutive =
    let rules = rules_of kind dialect in
    let jobs = jobs_in rules table in
    let good = entry-good rules table e f.entry in
    let calls = calls_on jobs (buffer_after_all jobs (started jobs size buffer) first) second in
    let same = after-made table kind dialect good size buffer first second in
    let all = answered-is table kind dialect good calls in
    let room = made-roomy table kind dialect good (take size buffer) made in
    rw (same, all)
    (names-answers table kind dialect good e (up_to (bound_from rules table e t) (unrefused jobs calls))
    (table-fair-in-buffer rules table e t size buffer first second f room on (rw (same, all) at consecutive)))

pub queue-fair-every : QueueFairEvery
queue-fair-every table kind dialect k e t size buffer first second f made on consecutive =
    let rules = rules_of kind dialect in
    let jobs = jobs_in rules table in
    let good = entry-good rules table e f.entry in
    let begun = started jobs size buffer in
    let calls = calls_on jobs (buffer_after_all jobs begun first) second in
    let same = after-made table kind dialect good size buffer first second in
    let all = answered-is table kind dialect good calls in
    let follows = buffer-follows jobs (few rules table) size buffer (made-roomy table kind dialect good (take size buffer) made) first second in
    rw (same, all)
    (names-answers table kind dialect good e (up_to (bound_every_from rules table k e t) (unrefused jobs calls))
    (table-fair-every rules table k e t (calls_on jobs begun first) calls f follows on (rw (same, all) at consecutive)))

pub queue-fair-steady : QueueFairSteady
queue-fair-steady table kind dialect k e t size buffer first f made on some =
    let rules = rules_of kind dialect in
    let jobs = jobs_in rules table in
    let good = entry-good rules table e f.entry in
    let n = bound_every_from rules table k e t in
    let second = steady_every size k (t + 1) n 0 in
    let same = after-made table kind dialect good size buffer first second in
    let calls = calls_on jobs (buffer_after_all jobs (started jobs size buffer) first) second in
    let room = made-roomy table kind dialect good (take size buffer) made in
    let (taken, consecutive) = steady-every-consecutive jobs k t n size buffer first (few rules table) room on.utc some in
    let all = answered-is table kind dialect good calls ∙ taken in
    rw same
    (rw (same, all) at (queue-fair-every table kind dialect k e t size buffer first second f made on (rw (same, all) consecutive)))

-- at its edges: a request once a day, up to the calendar's last minute
pub queue-fair-ends : (size : ℕ) (buffer : List ℕ)
    → let table = text "* * * * * a\n" in
    let t = 4223371679 - 21038579 in
    let n = bound_every_from (rules_of 0 0) table 1440 0 t in
    queue_init_call table 0 0 (take size buffer) ≤ refused_from
    → (t + n ≡ last_minute) × Answers table 0 0 0 (up_to n (calls_made table 0 0 (buffer_made table 0 0 size buffer) (steady_every size 1440 (t + 1) n 0)))
unfolding answering buffer_left_by
queue-fair-ends size buffer made =
    let table = text "* * * * * a\n" in
    let can = due-can-fire table 0 0 0 0 refl in
    (refl, queue-fair-steady table 0 0 1440 0 (4223371679 - 21038579) size buffer [] can made (runqueue.every-ends).0 (omega arith))

-- The last entry of a system table in the second dialect, at -12:00, where minute 0 falls before 1970 locally: after any calls, with a request each
-- minute, and with one a day.
abbrev west : List ℕ
west = text "CRON_TZ=-12:00\n@reboot root a\n0 23-1 * * * root b\n"

west-on : OnCalendar (rules_of 1 1) west 1 0 × OnCalendarEvery (rules_of 1 1) west 1440 1 0
unfolding jobs_of job_at reading
west-on = (record { utc = leb-true _ _ refl; local = leb-true _ _ refl }, record { utc = leb-true _ _ refl; local = leb-true _ _ refl })

west-bounds : (bound_from (rules_of 1 1) west 1 0 ≡ 21037861) × (bound_every_from (rules_of 1 1) west 1440 1 0 ≡ 21040739)
unfolding jobs_of job_at reading
west-bounds = (refl, refl)

west-fires : CanFire (rules_of 1 1) west 1
unfolding answering
west-fires = due-can-fire west 1 1 1 2100 refl

pub queue-fair-west : (size : ℕ) (buffer : List ℕ) (first second : List Use)
    → queue_init_call west 1 1 (take size buffer) ≤ refused_from
    → let before = buffer_left_by west 1 1 (buffer_made west 1 1 size buffer) first in
    let calls = answered west 1 1 (calls_made west 1 1 before second) in
    (ConsecutiveTicks 1 21037861 true calls → Answers west 1 1 1 (up_to 21037861 calls))
    × (ConsecutiveTicksEvery 1440 1 21040739 0 calls → Answers west 1 1 1 (up_to 21040739 calls))
    × Answers west 1 1 1 (up_to 21040739 (calls_made west 1 1 before (steady_every size 1440 1 21040739 0)))
queue-fair-west size buffer first second made =
    let can = west-fires in (
      rw west-bounds.0 at (queue-fair west 1 1 1 0 size buffer first second can made west-on.0),
      rw west-bounds.1 at (queue-fair-every west 1 1 1440 1 0 size buffer first second can made west-on.1),
      rw west-bounds.1 at (queue-fair-steady west 1 1 1440 1 0 size buffer first can made west-on.1 (omega arith)),
    )

-- ---- how long a queued entry waits

-- who is at a place: the table isn't refused, and the bytes hold a queue
entry-there : (table : List ℕ) (kind dialect e p : ℕ) (room : List ℕ) → queue_entry_call table kind dialect room p ≡ e → e < refused_from
    → let t = table_of (rules_of kind dialect) table in
    (refusal_in t ≡ 0) × (is_queue (count_in t) room ≡ true) × (standing p (queue_of room).waiting ≡ Some e)
unfolding entry_table entry_step
entry-there table kind dialect e p room q h =
    let t = table_of (rules_of kind dialect) table in
    let (good, at) = outer t (pop-names (entry_table t p room) e h q) in
    let (is, there) = inner (is_queue (count_in t) room) at in
    (good, is, there)
  where
    outer : (t : Result Table TableFault) → entry_table t p room ≡ Ok (Some e) → (refusal_in t ≡ 0) × (entry_step (count_in t) p room ≡ Ok (Some e))
    outer (Ok x) k = (refl, k)
    outer (Err f) k = absurd (let z : ◌≡◌ {A = ℕ} 0 1 = cc in omega arith)

    inner : (b : Bool) → cond {A = Result (Option ℕ) Refusal} b (Ok (standing p (queue_of room).waiting)) (Err NotAQueue) ≡ Ok (Some e)
        → (b ≡ true) × (standing p (queue_of room).waiting ≡ Some e)
    inner true k = (refl, cc)
    inner false k = absurd (let z : ◌≡◌ {A = ℕ} 0 1 = cc in omega arith)

pub queue-waits-exactly : QueueWaitsExactly
unfolding jobs_of
queue-waits-exactly table kind dialect e p size buffer us bytes q h =
    let rules = rules_of kind dialect in
    let jobs = jobs_in rules table in
    let (good, is, at) = entry-there table kind dialect e p (take size buffer) q h in
    let (proper, follows) = found-follows jobs (few rules table) size buffer bytes is us in
    let (before, then) = table-waits-exactly rules table e p (queue_of (take size buffer)) (calls_on jobs buffer us) proper at follows in
    let calls = unrefused jobs (calls_on jobs buffer us) in
    rw (calls_is table kind dialect good us buffer, answered-is table kind dialect good (calls_on jobs buffer us)) (
      λ told. before (answers-names table kind dialect good e (up_to_request p calls) h told),
      λ more. names-answers table kind dialect good e (up_to_request (suc p) calls) (then more),
    )

pub queue-waits-at-most : QueueWaitsAtMost
unfolding jobs_of
queue-waits-at-most table kind dialect e p size buffer us bytes q h =
    let rules = rules_of kind dialect in
    let jobs = jobs_in rules table in
    let (good, is, at) = entry-there table kind dialect e p (take size buffer) q h in
    let (proper, follows) = found-follows jobs (few rules table) size buffer bytes is us in
    let waits = standing-in e p (queue_of (take size buffer)).waiting at in
    rw (check-is table kind dialect good, calls_is table kind dialect good us buffer, answered-is table kind dialect good (calls_on jobs buffer us))
    (λ enough. names-answers table kind dialect good e (up_to_request jobs.count (unrefused jobs (calls_on jobs buffer us)))
    (table-waits-at-most rules table e (queue_of (take size buffer)) (calls_on jobs buffer us) proper waits follows enough))

pub queue-waits-every : QueueWaitsEvery
unfolding jobs_of
queue-waits-every table kind dialect k e p m size buffer us bytes q h =
    let rules = rules_of kind dialect in
    let jobs = jobs_in rules table in
    let (good, is, at) = entry-there table kind dialect e p (take size buffer) q h in
    let (proper, follows) = found-follows jobs (few rules table) size buffer bytes is us in
    rw (calls_is table kind dialect good us buffer, answered-is table kind dialect good (calls_on jobs buffer us))
    (λ consecutive. names-answers table kind dialect good e (up_to (k * suc p - 1) (unrefused jobs (calls_on jobs buffer us)))
    (table-waits-every rules table k e p m (queue_of (take size buffer)) (calls_on jobs buffer us) proper at follows consecutive))

-- used at the last place of a table of three, after the announcement of minute 60: entry 2 is the answer of the third request, and of none before
abbrev are_bytes : List ℕ → Bool
are_bytes [] = true
are_bytes (b ∷ s) = ltb b 256 && are_bytes s

are-bytes : (s : List ℕ) → are_bytes s ≡ true → (i : ℕ) → get_or s i 0 < 256
are-bytes [] e i = omega arith
are-bytes (b ∷ s) e zero = ltb-true b 256 ((and-eq-true_iff (ltb b 256) (are_bytes s)).0 e).0
are-bytes (b ∷ s) e (suc i) = are-bytes s ((and-eq-true_iff (ltb b 256) (are_bytes s)).0 e).1 i

pub waits-third : (us : List Use)
    → let buffer = buffer_left_by whole 0 0 (buffer_made whole 0 0 88 (replicate 90 7)) (tick_in 60 88 ∷ []) in
    let calls = answered whole 0 0 (calls_made whole 0 0 buffer us) in
    (Answers whole 0 0 2 (up_to_request 2 calls) → ⊥) × (2 < requests calls → Answers whole 0 0 2 (up_to_request 3 calls))
unfolding answering bytes_after buffer_made buffer_left buffer_left_by
waits-third us =
    let buffer = buffer_left_by whole 0 0 (buffer_made whole 0 0 88 (replicate 90 7)) (tick_in 60 88 ∷ []) in
    queue-waits-exactly whole 0 0 2 2 88 buffer us (are-bytes buffer refl) refl (omega arith)

-- The last place of a table of 512 entries, in the second dialect of system tables: the answer of request 512, and of none before, and with a request a
-- day within 737,279 minutes.
pub waits-last : (table : List ℕ) (size : ℕ) (buffer : List ℕ) (us : List Use)
    → ((i : ℕ) → get_or buffer i 0 < 256)
    → queue_entry_call table 1 1 (take size buffer) 511 ≡ 511
    → let calls = answered table 1 1 (calls_made table 1 1 buffer us) in
    (Answers table 1 1 511 (up_to_request 511 calls) → ⊥)
    × (511 < requests calls → Answers table 1 1 511 (up_to_request 512 calls))
    × (check_call table 1 1 ≡ 512 → 512 ≤ requests calls → Answers table 1 1 511 (up_to_request 512 calls))
    × ((m : ℕ) → ConsecutiveTicksEvery 1440 m 737279 1 calls → Answers table 1 1 511 (up_to 737279 calls))
waits-last table size buffer us bytes q =
    let (before, then) = queue-waits-exactly table 1 1 511 511 size buffer us bytes q (omega arith) in (
      before,
      then,
      (λ all enough. rw all at (queue-waits-at-most table 1 1 511 511 size buffer us bytes q (omega arith)) enough),
      (λ m. queue-waits-every table 1 1 1440 511 511 m size buffer us bytes q (omega arith)),
    )
