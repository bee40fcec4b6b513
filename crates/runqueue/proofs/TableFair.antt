-- The third demand holds, and a queued entry waits no longer than its turn: fifo's theorems, by table bytes. The claims are in specs/Demand and specs/Waits.
-- Assumes nothing.
use Prim.Native.Nat.{ℕ, ◌+◌, ◌-◌, ◌*◌, ◌≤◌, ◌<◌}
use mathlib.Core.List.{List, ◌∷◌}
use mathlib.Core.Path.{◌≡◌, subst}
use mathlib.Core.Bool.{true, false}
use native.Mathlib.Nat.{mul-le-mul_right}
use native.Mathlib.Omega.{arith}
use Rattle.schedule.specs.Local.{gap_in}
use Rattle.field.specs.declared.Dialect.TheVariants.{Wrapping}
use Rattle.line.specs.declared.Rules.{Rules}
use Rattle.line.specs.declared.Kind.TheVariants.{System}
use Rattle.fifo.specs.Queues.{Queue, proper}
use Rattle.fifo.specs.Steps.{calls}
use Rattle.fifo.specs.Fairness.{Call, tick, is_refused, unrefused, Follows, up_to, Names}
use Rattle.fifo.specs.FairEvery.{ConsecutiveTicksEvery}
use Rattle.fifo.specs.Waits.{requests, up_to_request}
use Rattle.fifo.proofs.Theorems.{fair-from, fair, refused-only, fair-in-buffer, fair-steady}
use Rattle.fifo.proofs.Theorems.{consecutive-some, fair-every-from, fair-every, waits-exactly, waits-at-most, waits-every, called-waits, called-every}
use Rattle.runqueue.specs.Jobs.{jobs_of}
use Rattle.runqueue.specs.Demand.{jobs_in, CanFire, TableFair, TableFairFrom, TableRefusedOnly, TableFairInBuffer, TableFairSteady, biased_offset_of, hold, OnCalendar}
use Rattle.runqueue.specs.Demand.{bound_every_from, OnCalendarEvery, TableFairEvery, TableFairEveryFrom}
use Rattle.runqueue.specs.Waits.{TableWaitsExactly, TableWaitsAtMost, TableWaitsEvery, TableCalledWaits, TableCalledEvery}
use Rattle.runqueue.proofs.TableJobs.{soon, few}

-- the third demand, from any line of the table
pub table-fair-from : TableFairFrom
table-fair-from rules table e t l second f entries follows end =
    fair-from (jobs_in rules table) (gap_in (biased_offset_of rules table e) t + hold) e t l second (few rules table) f.entry f.timed (soon rules table e t f end) entries follows

-- from its fresh line: the third demand as it is said
pub table-fair : TableFair
table-fair rules table e t first second f follows end =
    fair (jobs_in rules table) (gap_in (biased_offset_of rules table e) t + hold) e t first second (few rules table) f.entry f.timed (soon rules table e t f end) follows

-- a call is refused only for too little room or for a minute off the calendar
pub table-refused-only : TableRefusedOnly
table-refused-only rules table cs g = refused-only (jobs_in rules table) cs (few rules table)

-- in one buffer
pub table-fair-in-buffer : TableFairInBuffer
table-fair-in-buffer rules table e t size buffer first second f r end =
    fair-in-buffer (jobs_in rules table) (gap_in (biased_offset_of rules table e) t + hold) e t size buffer first second (few rules table) f.entry f.timed (soon rules table e t f end) r

-- in the steady list
pub table-fair-steady : TableFairSteady
unfolding jobs_of
table-fair-steady rules table e t size buffer first f r end =
    fair-steady (jobs_in rules table) (gap_in (biased_offset_of rules table e) t + hold) e t size buffer first (few rules table) f.entry f.timed (soon rules table e t f end) r end.utc

-- ---- requests every k announcements

-- the demand's last minute is no later
every-on : (rules : Rules) (table : List ℕ) (k e t : ℕ) → 0 < k → OnCalendarEvery rules table k e t → OnCalendar rules table e t
every-on rules table k e t some on =
    let count = (jobs_in rules table).count in
    let less : 1 * count ≤ k * count = mul-le-mul_right count some in
    record { utc = omega (arith, on.utc); local = omega (arith, on.local) }

pub table-fair-every-from : TableFairEveryFrom
table-fair-every-from rules table k e t l second f entries follows end consecutive =
    let jobs = jobs_in rules table in
    let on = every-on rules table k e t (consecutive-some k (unrefused jobs second) (t + 1) (bound_every_from rules table k e t) 0 consecutive) end in
    fair-every-from jobs k (gap_in (biased_offset_of rules table e) t + hold) e t l second (few rules table) f.entry f.timed (soon rules table e t f on) entries follows consecutive

pub table-fair-every : TableFairEvery
table-fair-every rules table k e t first second f follows end consecutive =
    let jobs = jobs_in rules table in
    let on = every-on rules table k e t (consecutive-some k (unrefused jobs second) (t + 1) (bound_every_from rules table k e t) 0 consecutive) end in
    fair-every jobs k (gap_in (biased_offset_of rules table e) t + hold) e t first second (few rules table) f.entry f.timed (soon rules table e t f on) follows consecutive

-- ---- how long an entry waits

pub table-waits-exactly : TableWaitsExactly
table-waits-exactly rules table e p l cs = waits-exactly (jobs_in rules table) e p l cs (few rules table)

pub table-waits-at-most : TableWaitsAtMost
table-waits-at-most rules table e l cs = waits-at-most (jobs_in rules table) e l cs (few rules table)

pub table-called-waits : TableCalledWaits
table-called-waits rules table e minute l room cs = called-waits (jobs_in rules table) e minute l room cs (few rules table)

pub table-waits-every : TableWaitsEvery
table-waits-every rules table k e p m l cs = waits-every (jobs_in rules table) k e p m l cs (few rules table)

pub table-called-every : TableCalledEvery
table-called-every rules table k e minute l room second good below timed called =
    called-every (jobs_in rules table) k e minute l room second (few rules table) below timed called good

-- ---- used for the last of 512 entries of a system table in the second dialect, with a request a day

abbrev system : Rules
system = record { kind = System; dialect = Wrapping }

pub fair-last : (table : List ℕ) (l : Queue) (second : List Call)
    → let jobs = jobs_in system table in
    jobs.count ≡ 512 → CanFire system table 511 → proper jobs.count l ≡ true → Follows jobs l second → OnCalendarEvery system table 1440 511 0
    → let n = bound_every_from system table 1440 511 0 in
    ConsecutiveTicksEvery 1440 1 n 0 (unrefused jobs second) → Names jobs 511 (up_to n (unrefused jobs second))
fair-last table l second all = table-fair-every-from system table 1440 511 0 l second

-- whom minute 0 calls, beside the queue's mark
pub called-last : (table : List ℕ) (l : Queue) (room : List ℕ) (cs : List Call)
    → let jobs = jobs_in system table in
    jobs.count ≡ 512 → jobs.boot 511 ≡ false → calls jobs l.mark 0 511 ≡ true
    → proper jobs.count l ≡ true → Follows jobs l (tick 0 room ∷ cs) → is_refused jobs (tick 0 room) ≡ false
    → (512 ≤ requests (unrefused jobs cs) → Names jobs 511 (up_to_request 512 (unrefused jobs cs)))
    × (ConsecutiveTicksEvery 1440 1 737279 1 (unrefused jobs cs) → Names jobs 511 (up_to 737279 (unrefused jobs cs)))
called-last table l room cs all timed called good follows taken =
    let jobs = jobs_in system table in
    let taking = unrefused jobs cs in (
      subst (λ (n : ℕ). n ≤ requests taking → Names jobs 511 (up_to_request n taking)) all
          (table-called-waits system table 511 0 l room cs good (omega (arith, all)) timed called follows taken),
      subst (λ (n : ℕ). ConsecutiveTicksEvery 1440 1 (1440 * n - 1) 1 taking → Names jobs 511 (up_to (1440 * n - 1) taking)) all
          (table-called-every system table 1440 511 0 l room cs good (omega (arith, all)) timed called follows taken),
    )
