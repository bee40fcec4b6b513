-- All that a lent run holds after a list: the first numbers of the list, as many as are answered, and after them those that were there before.
-- Assumes nothing.
use mathlib.Core.Path.{◌≡◌, refl, sym, ap, subst, ◌∙◌}
use mathlib.Core.Bool.{Bool, true, false, cond}
use mathlib.Core.List.{List, ◌++◌}
use Prim.Native.Nat.{ℕ, ◌≤◌, ◌<◌}
use native.Mathlib.Omega.{arith}
use lib.ListN.{length, take, drop, length-take}
use lib.Seq.{take_all}
use lib.Dec.{leb}
use borrow.Author.Tests.{leb-true, leb-false}
use Rattle.std.specs.Prelude.{Ok, Err, Result}
use Rattle.refusal.specs.declared.Refusal.TheVariants.{NotOnCalendar, AtBootOnly}
use Rattle.octets.specs.OverFront.{over_front}
use Rattle.calendar.specs.Dates.{last_minute}
use Rattle.crontab.specs.declared.entry.Entry.{Entry}
use Rattle.crontab.specs.declared.table.Table.{Table}
use Rattle.crontab.specs.declared.table.TableFault.{TableFault}
use Rattle.line.specs.declared.time.When.{When}
use Rattle.line.specs.declared.time.When.TheVariants.{Reboot, Timed}
use Rattle.crontab.specs.Tables.{entry_in}
use Rattle.crontab.specs.Firings.{by_when}
use Rattle.refusal.specs.declared.Refusal.{Refusal}
use Rattle.firings.specs.declared.Filled.{Filled}
use Rattle.firings.specs.declared.Filled.TheVariants.{All, More}
use Rattle.firings.specs.Lists.{Firing, firings_of, merged_of}
use Rattle.firings.specs.Calls.{EntryStep, MergedStep, filled, fitted, refused_entry, listed_entry, firings_found, firings_answer, firings_in, minutes_of, entries_of, room_in, refused_merged, listed_merged, merged_in}
use Rattle.firings.specs.Rising.{FilledBy}
use Rattle.firings.proofs.Counts.{merged-room}
use Rattle.firings.proofs.Runs.{length-minutes, length-entries}

-- where all of them fit, and where just as many as there is room for
all_fit : (numbers : List ℕ) (room : ℕ) (run : List ℕ) → length numbers ≤ room → fitted numbers room run ≡ take (length numbers) numbers ++ drop (length numbers) run
unfolding fitted over_front
all_fit numbers room run h = rw (take_all room numbers h, take_all (length numbers) numbers (omega arith))

some_fit : (numbers : List ℕ) (room : ℕ) (run : List ℕ) → room < length numbers → fitted numbers room run ≡ take room numbers ++ drop room run
unfolding fitted over_front
some_fit numbers room run h =
    let e : length (take room numbers) ≡ room = length-take room numbers ∙ omega arith in
    ap (λ (k : ℕ). take room numbers ++ drop k run) e

fits : (numbers : List ℕ) (n room : ℕ) (run : List ℕ) → length numbers ≡ n → FilledBy numbers room run (Ok (filled n room)) (fitted numbers room run)
unfolding filled
fits numbers n room run is = go (leb n room) refl
  where
    go : (b : Bool) → leb n room ≡ b → FilledBy numbers room run (Ok (cond b (All n) (More room))) (fitted numbers room run)
    go true e = let h = leb-true n room e in (sym is, h, subst (λ (k : ℕ). fitted numbers room run ≡ take k numbers ++ drop k run) is (all_fit numbers room run (omega (arith, is))))
    go false e = let h = leb-false n room e in (omega (arith, is), refl, some_fit numbers room run (omega (arith, is)))

-- ---- of an entry

pub firings-run : (t : Result Table TableFault) (i : ℕ) (e : Entry) → entry_in t i ≡ Ok e → (a b : ℕ) (run : List ℕ)
    → let s = firings_in t i a b run in FilledBy (firings_of e a b) (length run) run s.answer s.run
unfolding firings_in firings_answer firings_found listed_entry refused_entry
firings-run t i e found a b run = rw found (go (leb a last_minute) (leb b last_minute) e.when)
  where
    list : List ℕ
    list = firings_of e a b

    go : (x y : Bool) (when : When)
        → let s : EntryStep = cond x (cond y (by_when when (refused_entry AtBootOnly run) (λ s. listed_entry list run)) (refused_entry NotOnCalendar run)) (refused_entry NotOnCalendar run) in
        FilledBy list (length run) run s.answer s.run
    go false y when = refl
    go true false when = refl
    go true true Reboot = refl
    go true true (Timed s) = fits list (length list) (length run) run refl

-- ---- of a table

pub merged-run : (t : Result Table TableFault) (a b : ℕ) (minutes entries : List ℕ)
    → let s = merged_in t a b minutes entries in
    let list = merged_of t a b in
    FilledBy (minutes_of list) (room_in minutes entries) minutes s.answer s.minutes × FilledBy (entries_of list) (room_in minutes entries) entries s.answer s.entries
unfolding merged_in refused_merged listed_merged
merged-run (Err f) a b minutes entries = (refl, refl)
merged-run (Ok x) a b minutes entries = go (leb a last_minute) (leb b last_minute)
  where
    list : List Firing
    list = merged_of (Ok x) a b

    room : ℕ
    room = room_in minutes entries

    go : (p q : Bool)
        → let s : MergedStep = cond p (cond q (listed_merged list minutes entries) (refused_merged NotOnCalendar minutes entries)) (refused_merged NotOnCalendar minutes entries) in
        FilledBy (minutes_of list) room minutes s.answer s.minutes × FilledBy (entries_of list) room entries s.answer s.entries
    go false q = (refl, refl)
    go true false = (refl, refl)
    go true true = (fits (minutes_of list) (length list) room minutes (length-minutes list), fits (entries_of list) (length list) room entries (length-entries list))

-- ---- used: all of the calendar, of entry 511, and of a table

pub whole-runs : (t : Result Table TableFault) (e : Entry) (n : ℕ) (run minutes entries : List ℕ) → entry_in t 511 ≡ Ok e
    → ((firings_in t 511 0 4223371679 run).answer ≡ Ok (All n)
    → (n ≡ length (firings_of e 0 4223371679)) × ((firings_in t 511 0 4223371679 run).run ≡ take n (firings_of e 0 4223371679) ++ drop n run))
    × ((firings_in t 511 0 4223371679 run).answer ≡ Ok (More n)
    → (n ≡ length run) × ((firings_in t 511 0 4223371679 run).run ≡ take n (firings_of e 0 4223371679) ++ drop n run))
    × (let s = merged_in t 0 4223371679 minutes entries in
    s.answer ≡ Ok (More n)
    → (s.minutes ≡ take n (minutes_of (merged_of t 0 4223371679)) ++ drop n minutes) × (s.entries ≡ take n (entries_of (merged_of t 0 4223371679)) ++ drop n entries))
whole-runs t e n run minutes entries found =
    let s = firings_in t 511 0 4223371679 run in
    let m = merged_in t 0 4223371679 minutes entries in
    let list = merged_of t 0 4223371679 in
    let room = room_in minutes entries in
    let by = firings-run t 511 e found 0 4223371679 run in
    let merged = merged-run t 0 4223371679 minutes entries in (
      (λ is. let (u, v, w) = subst (λ (x : Result Filled Refusal). FilledBy (firings_of e 0 4223371679) (length run) run x s.run) is by in (u, w)),
      (λ is. let (u, v, w) = subst (λ (x : Result Filled Refusal). FilledBy (firings_of e 0 4223371679) (length run) run x s.run) is by in (v, w)),
      (λ is.
          let both = subst (λ (x : Result Filled Refusal). FilledBy (minutes_of list) room minutes x m.minutes × FilledBy (entries_of list) room entries x m.entries) is merged in
          (both.0.2, both.1.2)),
    )

-- `merged-room` used: the shorter run counts, whichever it is, up to as many places as a 32-bit number counts
pub room-ends : (minutes entries : List ℕ)
    → (length minutes ≡ 4294967295 → length entries ≡ 4294967296 → room_in minutes entries ≡ 4294967295)
    × (length minutes ≡ 4294967296 → length entries ≡ 0 → room_in minutes entries ≡ 0)
room-ends minutes entries = (
  (λ e f. merged-room minutes entries (omega (arith, e, f)) ∙ omega (arith, e, f)),
  (λ e f. merged-room minutes entries (omega (arith, e, f)) ∙ omega (arith, e, f)),
)
