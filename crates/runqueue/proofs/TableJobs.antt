-- What the theorems of `fifo` ask of jobs holds of a table's: a minute calls an entry that can fire soon, by the schedule's gap, and the entries
-- are few.
-- Assumes nothing.
use mathlib.Core.Path.{◌≡◌, refl, sym}
use Rattle.std.specs.Prelude.{Result, Ok, Err}
use Rattle.refusal.specs.declared.Refusal.{Refusal}
use Rattle.refusal.specs.declared.Refusal.TheVariants.{NoSuchEntry, NotOnCalendar}
use Rattle.schedule.specs.Local.{max_west}
use mathlib.Core.Bool.{Bool, true, false, cond, true≢false}
use mathlib.Core.List.{List}
use Prim.Native.Nat.{ℕ, ◌+◌, ◌≤◌, ◌<◌}
use native.Mathlib.Nat.{lt_of_not-le}
use native.Mathlib.Decide.{dec_le}
use native.Mathlib.Omega.{arith}
use lib.Dec.{ltb, leb}
use lib.ListN.{get_or}
use borrow.Author.Tests.{lt-ltb, le-ltb, ltb-true}
use Rattle.calendar.specs.Dates.{last_minute, cycle_minutes}
use Rattle.schedule.specs.declared.Schedule.{Schedule}
use Rattle.schedule.specs.Match.{matches}
use Rattle.schedule.specs.Next.{can_fire}
use Rattle.schedule.specs.Gap.{gap}
use Rattle.schedule.specs.Local.{gap_in, matches_in}
use Rattle.octets.proofs.Search.{from_some, some-from}
use Rattle.schedule.proofs.Theorems.{fires-within-in, matching-fires-in}
use Rattle.line.specs.declared.Rules.{Rules}
use Rattle.line.specs.declared.time.When.{When}
use Rattle.line.specs.declared.time.When.TheVariants.{Reboot, Timed}
use Rattle.crontab.specs.declared.entry.Entry.{Entry}
use Rattle.crontab.specs.declared.table.Table.{Table}
use Rattle.crontab.specs.Tables.{table_of, entry_in, blank_entry, count_in}
use Rattle.crontab.specs.declared.table.TableFault.{TableFault}
use Rattle.crontab.specs.Firings.{by_when, is_boot, fires_at, due_of, due_answer, due_in}
use Rattle.crontab.proofs.Theorems.{table-sound}
use Rattle.fifo.specs.Layout.{limit}
use Rattle.fifo.specs.Fairness.{CalledWithin}
use Rattle.fifo.proofs.Theorems.{called-past-limit}
use Rattle.runqueue.specs.Jobs.{job_at, jobs_of}
use Rattle.runqueue.specs.Demand.{jobs_in, CanFire, biased_offset_of, hold, OnCalendar}

fires : (s : Schedule) (m : ℕ) → m < cycle_minutes → matches s m ≡ true → can_fire s ≡ true
unfolding can_fire
fires s m h t = lt-ltb _ _ (from_some (matches s) cycle_minutes 0 m (omega arith) h t)

-- the gap of a later minute isn't longer
gap-later : (o t k : ℕ) → t ≤ k → gap_in o k ≤ gap_in o t
gap-later o t k h = elim (dec_le max_west (k + o)) [ yes p ↦ rw (le-ltb (k + o) max_west p) (some (ltb (t + o) max_west)) | no p ↦ before (lt_of_not-le p) ]
  where
    some : (b : Bool) → gap + 0 ≤ gap + cond b max_west 0
    some true = omega arith
    some false = omega arith

    before : k + o < max_west → gap_in o k ≤ gap_in o t
    before p = rw (lt-ltb (k + o) max_west p, lt-ltb (t + o) max_west (omega arith)) (omega arith)

-- an entry that can fire matches a minute soon after every hold has ended
pub matches-soon : (rules : Rules) (table : List ℕ) (e t : ℕ) → CanFire rules table e → OnCalendar rules table e t
    → (m : ℕ) × (t + hold < m) × (m ≤ t + (gap_in (biased_offset_of rules table e) t + hold)) × ((jobs_in rules table).matches e m ≡ true)
unfolding jobs_of is_boot fires_at
matches-soon rules table e t f on = go (job_at (table_of rules table) e).when refl f.timed f.matched
  where
    go : (w : When) → (job_at (table_of rules table) e).when ≡ w → by_when w true (λ s. false) ≡ false → by_when w false (λ s. matches s f.minute) ≡ true
        → (m : ℕ) × (t + hold < m) × (m ≤ t + (gap_in (biased_offset_of rules table e) t + hold)) × (by_when (job_at (table_of rules table) e).when false (λ s. matches_in s (biased_offset_of rules table e) m) ≡ true)
    go Reboot p b m = absurd (true≢false b)
    go (Timed s) p b m =
        let o = biased_offset_of rules table e in
        let later = gap-later o t (t + hold) (omega arith) in
        let (n, u, v, x) = fires-within-in s o (fires s f.minute f.cycle m) (t + hold) (omega (arith, f.entry, on.local, later)) in
        (n, u, omega arith, rw p x)

-- so a minute calls it soon, whatever the mark
pub soon : (rules : Rules) (table : List ℕ) (e t : ℕ) → CanFire rules table e → OnCalendar rules table e t
    → CalledWithin (jobs_in rules table) (gap_in (biased_offset_of rules table e) t + hold) e t
soon rules table e t f on =
    let (m, after, within, matched) = matches-soon rules table e t f on in
    called-past-limit (jobs_in rules table) (gap_in (biased_offset_of rules table e) t + hold) e t m after within matched

-- and they are few
pub few : (rules : Rules) (table : List ℕ) → (jobs_in rules table).count < limit
unfolding jobs_of
few rules table = omega (arith, (table-sound rules table).few)

-- an entry that any minute matches can fire: the claims leave none of them out
pub matching-can-fire : (rules : Rules) (table : List ℕ) (e m : ℕ) → e < (jobs_in rules table).count → (jobs_in rules table).matches e m ≡ true
    → CanFire rules table e
unfolding jobs_of is_boot fires_at can_fire
matching-can-fire rules table e m h t =
    let (boot, n, below, matched) = go (job_at (table_of rules table) e).when t in
    record { entry = h; timed = boot; minute = n; cycle = below; matched = matched }
  where
    go : (w : When) → by_when w false (λ s. matches_in s (biased_offset_of rules table e) m) ≡ true
        → (by_when w true (λ s. false) ≡ false) × (n : ℕ) × (n < cycle_minutes) × (by_when w false (λ s. matches s n) ≡ true)
    go Reboot x = absurd (true≢false (sym x))
    go (Timed s) x =
        let (n, u, v, y) = some-from (matches s) cycle_minutes 0 (omega arith) (ltb-true _ _ (matching-fires-in s (biased_offset_of rules table e) m x)) in
        (refl, n, v, y)

-- so can one that is due at any minute
due-fires : (x : Entry) (m : ℕ) → due_of x m ≡ Ok true → fires_at x m ≡ true
unfolding due_of
due-fires x m = go (leb m last_minute) (fires_at x m)
  where
    go : (on fires : Bool) → cond {A = Result Bool Refusal} on (Ok fires) (Err NotOnCalendar) ≡ Ok true → fires ≡ true
    go true true q = refl
    go true false q = absurd (let z : ◌≡◌ {A = ℕ} 0 1 = cc in omega arith)
    go false fires q = absurd (let z : ◌≡◌ {A = ℕ} 0 1 = cc in omega arith)

due-found : (t : Result Table TableFault) (e m : ℕ) → due_in t e m ≡ Ok true → (e < count_in t) × (fires_at (job_at t e) m ≡ true)
unfolding due_in due_answer entry_in job_at
due-found (Err f) e m q = absurd (let z : ◌≡◌ {A = ℕ} 0 1 = cc in omega arith)
due-found (Ok x) e m q = go (ltb e x.count) refl q
  where
    go : (some : Bool) → ltb e x.count ≡ some → due_answer (cond some (Ok (get_or x.entries e blank_entry)) (Err NoSuchEntry)) m ≡ Ok true
        → (e < x.count) × (fires_at (get_or x.entries e blank_entry) m ≡ true)
    go true s q = (ltb-true e x.count s, due-fires (get_or x.entries e blank_entry) m q)
    go false s q = absurd (let z : ◌≡◌ {A = ℕ} 0 1 = cc in omega arith)

pub due-can-fire : (rules : Rules) (table : List ℕ) (e m : ℕ) → due_in (table_of rules table) e m ≡ Ok true → CanFire rules table e
unfolding jobs_of
due-can-fire rules table e m q = let (below, fired) = due-found (table_of rules table) e m q in matching-can-fire rules table e m below fired
