-- Demand 3 for tables (D1): the claims of fifo's Fairness, in its words, where the jobs are a table's, the calendar ends with its last
-- minute, and the gap is the schedule's. They are made of the steps that `init`, `tick` and `pop` promise (`TableSteps`). docs/PROMISES.md
-- puts the demand's own words beside `TableFair`. That the claims hold is proved in proofs/Theorems.
-- Assumes nothing.
use Rattle.std.specs.Prelude.{◌≡◌, ℕ, ◌+◌, ◌-◌, ◌≤◌, ◌<◌, true, false, List, ◌++◌, take, Ok}
use Rattle.schedule.specs.Local.{max_west}
use Rattle.octets.specs.Texts.{text}
use Rattle.calendar.specs.Dates.{last_minute, cycle_minutes}
use Rattle.schedule.specs.Match.{matches}
use Rattle.schedule.specs.Local.{biased_offset, gap_in}
use Rattle.line.specs.declared.Rules.{Rules}
use Rattle.field.specs.declared.Dialect.TheVariants.{Rising}
use Rattle.line.specs.declared.Kind.TheVariants.{User}
use Rattle.crontab.specs.Tables.{table_of, refusal_in}
use Rattle.crontab.specs.Firings.{by_when, due_in}
use Rattle.fifo.specs.Queues.{Queue, proper}
use Rattle.fifo.specs.Layout.{roomy}
use Rattle.fifo.specs.Steps.{Jobs, fresh, init_step, tick_step, pop_step}
use Rattle.fifo.specs.Fairness.{Call, Follows, unrefused, ConsecutiveTicks, up_to, Names, bound}
use Rattle.fifo.specs.FairEvery.{ConsecutiveTicksEvery, bound_every}
use Rattle.fifo.specs.RefusedCalls.{Expected}
use Rattle.fifo.specs.Buffer.{Use, calls_on, buffer_after_all, started}
use Rattle.fifo.specs.Steady.{steady}
use Rattle.runqueue.specs.Jobs.{job_at, jobs_of}
use Rattle.runqueue.specs.Calls.{init_table, tick_table, pop_table}

-- D1: the jobs of a table's bytes, read by the rules for its kind and dialect
abbrev pub jobs_in : Rules → List ℕ → Jobs
jobs_in rules table = jobs_of (table_of rules table)

-- D1, N2: a timed entry that some minute of the cycle matches, as its local minute
pub record CanFire (rules : Rules) (table : List ℕ) (e : ℕ) : Type 0 where
  pub entry : e < (jobs_in rules table).count
  pub timed : (jobs_in rules table).boot e ≡ false
  pub minute : ℕ
  pub cycle : minute < cycle_minutes
  pub matched : by_when (job_at (table_of rules table) e).when false (λ s. matches s minute) ≡ true

-- ---- the bound

-- O3: the offset that an entry is under, as a number from 0 to 1,560
abbrev pub biased_offset_of : Rules → List ℕ → ℕ → ℕ
biased_offset_of rules table e = biased_offset (job_at (table_of rules table) e).offset

-- D4: a mark can hold a fixed entry back for so many minutes
abbrev pub hold : ℕ
hold = 180

-- D4: the bound from minute t on
abbrev pub bound_from : Rules → List ℕ → ℕ → ℕ → ℕ
bound_from rules table e t = bound (jobs_in rules table) (gap_in (biased_offset_of rules table e) t + hold)

-- D5: the last minute is on the calendar, in UTC and locally
pub record OnCalendar (rules : Rules) (table : List ℕ) (e t : ℕ) : Type 0 where
  pub utc : t + bound_from rules table e t ≤ last_minute
  pub local : t + bound_from rules table e t + biased_offset_of rules table e ≤ last_minute + max_west

-- ---- the claims

-- D1: demand 3
abbrev pub TableFair : Type 0
TableFair = (rules : Rules) (table : List ℕ) (e t : ℕ) (first second : List Call)
    → let jobs = jobs_in rules table in
    CanFire rules table e
    → Follows jobs (fresh jobs) (first ++ second)
    → OnCalendar rules table e t
    → ConsecutiveTicks (t + 1) (bound_from rules table e t) true (unrefused jobs second)
    → Names jobs e (up_to (bound_from rules table e t) (unrefused jobs second))

-- D7: the same from any queue of the table, such as one that a reload left
abbrev pub TableFairFrom : Type 0
TableFairFrom = (rules : Rules) (table : List ℕ) (e t : ℕ) (l : Queue) (second : List Call)
    → let jobs = jobs_in rules table in
    CanFire rules table e
    → proper jobs.count l ≡ true
    → Follows jobs l second
    → OnCalendar rules table e t
    → ConsecutiveTicks (t + 1) (bound_from rules table e t) true (unrefused jobs second)
    → Names jobs e (up_to (bound_from rules table e t) (unrefused jobs second))

-- D2: what the three functions promise for a table is the steps of which the claims speak
abbrev pub ByTheSteps : Rules → List ℕ → Type 0
ByTheSteps rules table = (room : List ℕ) (minute : ℕ)
    → let jobs = jobs_in rules table in
    (init_table (table_of rules table) room ≡ init_step jobs room)
    × (tick_table (table_of rules table) minute room ≡ tick_step jobs minute room)
    × (pop_table (table_of rules table) room ≡ pop_step jobs.count room)

-- D2: so it is for a table that has an entry, as each does of which the claims speak
abbrev pub TableSteps : Type 0
TableSteps = (rules : Rules) (table : List ℕ) (e : ℕ) → e < (jobs_in rules table).count → ByTheSteps rules table

-- D2: and for every table that isn't refused
abbrev pub TableStepsGood : Type 0
TableStepsGood = (rules : Rules) (table : List ℕ) → refusal_in (table_of rules table) ≡ 0 → ByTheSteps rules table

-- D1, M5: the jobs of which the claims speak are due when the table's entries are
abbrev pub TableDue : Type 0
TableDue = (rules : Rules) (table : List ℕ) (e minute : ℕ) → e < (jobs_in rules table).count → minute ≤ last_minute
    → due_in (table_of rules table) e minute ≡ Ok ((jobs_in rules table).matches e minute)

-- D6: in a list from the fresh queue of a good table
abbrev pub TableRefusedOnly : Type 0
TableRefusedOnly = (rules : Rules) (table : List ℕ) (cs : List Call)
    → let jobs = jobs_in rules table in
    refusal_in (table_of rules table) ≡ 0 → Follows jobs (fresh jobs) cs → Expected jobs cs

-- D1: the same claim for one buffer, of which each call is lent the first bytes
abbrev pub TableFairInBuffer : Type 0
TableFairInBuffer = (rules : Rules) (table : List ℕ) (e t : ℕ) (size : ℕ) (buffer : List ℕ) (first second : List Use)
    → let jobs = jobs_in rules table in
    CanFire rules table e
    → roomy jobs.count (take size buffer) ≡ true
    → OnCalendar rules table e t
    → let calls = unrefused jobs (calls_on jobs (buffer_after_all jobs (started jobs size buffer) first) second) in
    ConsecutiveTicks (t + 1) (bound_from rules table e t) true calls → Names jobs e (up_to (bound_from rules table e t) calls)

-- D1, D3: the claim with no hypothesis about calls: whatever went before, each minute is announced and one request follows
abbrev pub TableFairSteady : Type 0
TableFairSteady = (rules : Rules) (table : List ℕ) (e t size : ℕ) (buffer : List ℕ) (first : List Use)
    → let jobs = jobs_in rules table in
    CanFire rules table e
    → roomy jobs.count (take size buffer) ≡ true
    → OnCalendar rules table e t
    → Names jobs e (up_to (bound_from rules table e t) (calls_on jobs (buffer_after_all jobs (started jobs size buffer) first) (steady size (t + 1) (bound_from rules table e t))))

-- ---- requests every k announcements

-- D8: k minutes for each entry, less one
abbrev pub bound_every_from : Rules → List ℕ → ℕ → ℕ → ℕ → ℕ
bound_every_from rules table k e t = bound_every (jobs_in rules table) k (gap_in (biased_offset_of rules table e) t + hold)

-- D5, D8: the last minute is on the calendar, in UTC and locally
pub record OnCalendarEvery (rules : Rules) (table : List ℕ) (k e t : ℕ) : Type 0 where
  pub utc : t + bound_every_from rules table k e t ≤ last_minute
  pub local : t + bound_every_from rules table k e t + biased_offset_of rules table e ≤ last_minute + max_west

-- D8: demand 3 where requests are fewer
abbrev pub TableFairEvery : Type 0
TableFairEvery = (rules : Rules) (table : List ℕ) (k e t : ℕ) (first second : List Call)
    → let jobs = jobs_in rules table in
    CanFire rules table e
    → Follows jobs (fresh jobs) (first ++ second)
    → OnCalendarEvery rules table k e t
    → ConsecutiveTicksEvery k (t + 1) (bound_every_from rules table k e t) 0 (unrefused jobs second)
    → Names jobs e (up_to (bound_every_from rules table k e t) (unrefused jobs second))

-- D7, D8: the same from any queue of the table
abbrev pub TableFairEveryFrom : Type 0
TableFairEveryFrom = (rules : Rules) (table : List ℕ) (k e t : ℕ) (l : Queue) (second : List Call)
    → let jobs = jobs_in rules table in
    CanFire rules table e
    → proper jobs.count l ≡ true
    → Follows jobs l second
    → OnCalendarEvery rules table k e t
    → ConsecutiveTicksEvery k (t + 1) (bound_every_from rules table k e t) 0 (unrefused jobs second)
    → Names jobs e (up_to (bound_every_from rules table k e t) (unrefused jobs second))

-- ---- the bound is met exactly

-- D11: 00:00 on each 29 February that is a Sunday: in 2088, and then in 2128
abbrev pub leap_sundays : List ℕ
leap_sundays = text "0 0 29 2 */7 a\n"

-- D11: 2088-02-29 00:00 is announced, and the entry named. The clock falls, and t is 180 below that minute: the entry is held back there,
-- and the first request after 2128-02-29 00:00, after as many minutes as the bound has, names it. None before does.
abbrev pub HoldReached : Type 0
HoldReached = (size : ℕ) (buffer : List ℕ)
    → let table = leap_sundays in
    let rules : Rules = record { kind = User; dialect = Rising } in
    let jobs = jobs_in rules table in
    let t = 62147520 - 180 in
    let n = bound_from rules table 0 t in
    let calls = calls_on jobs (buffer_after_all jobs (started jobs size buffer) (steady size 62147520 1)) (steady size (t + 1) n) in
    roomy 1 (take size buffer) ≡ true
    → CanFire rules table 0
    × OnCalendar rules table 0 t
    × (t + n ≡ 83184480)
    × Names jobs 0 (up_to n calls)
    × (Names jobs 0 (up_to (n - 1) calls) → ⊥)
