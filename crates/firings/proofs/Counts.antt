-- How great the counts of lists are, and what a refused call leaves.
-- Assumes nothing.
use mathlib.Core.Path.{◌≡◌, refl}
use Rattle.std.specs.Prelude.{Ok}
use mathlib.Core.Bool.{Bool, true, false, cond}
use mathlib.Core.Logic.{◌⊎◌, inl, inr}
use mathlib.Core.List.{List, ◌∷◌}
use Prim.Native.Nat.{ℕ, zero, suc, ◌+◌, ◌-◌, ◌≤◌, min}
use native.Mathlib.Nat.{min-eq_left}
use native.Mathlib.Omega.{arith}
use lib.ListN.{length}
use lib.Dec.{leb}
use borrow.Author.Tests.{leb-true, leb-false}
use Rattle.std.specs.Prelude.{Result, Ok, Err}
use Rattle.refusal.specs.declared.Refusal.{Refusal}
use Rattle.refusal.specs.declared.Refusal.TheVariants.{NotOnCalendar, AtBootOnly}
use Rattle.refusal.proofs.Numbers.{number-small}
use Rattle.calendar.specs.Dates.{last_minute}
use Rattle.line.specs.declared.Rules.{Rules}
use Rattle.line.specs.declared.time.When.{When}
use Rattle.line.specs.declared.time.When.TheVariants.{Reboot, Timed}
use Rattle.crontab.specs.declared.entry.Entry.{Entry}
use Rattle.crontab.specs.declared.table.Table.{Table}
use Rattle.crontab.specs.declared.table.TableFault.{TableFault}
use Rattle.crontab.specs.Tables.{table_of, entry_in}
use Rattle.crontab.specs.Firings.{by_when, fires_at}
use Rattle.firings.specs.declared.Filled.TheVariants.{All, More}
use Rattle.octets.specs.Passing.{passing, passing_up_to}
use Rattle.firings.specs.Lists.{firings_of, merged_of}
use Rattle.firings.specs.Calls.{EntryStep, MergedStep, max_places, filled, refused_entry, listed_entry, firings_found, firings_answer, firings_in, room_in, refused_merged, listed_merged, merged_in}
use Rattle.firings.specs.Rising.{Few, Kept}

pub passing-short : (p : ℕ → Bool) (n a : ℕ) → length (passing p n a) ≤ n
unfolding passing
passing-short p zero a = omega arith
passing-short p (suc n) a = go (p a) (passing-short p n (suc a))
  where
    go : (b : Bool) → length (passing p n (suc a)) ≤ n → length (cond b (a ∷ passing p n (suc a)) (passing p n (suc a))) ≤ suc n
    go true h = omega arith
    go false h = omega arith

firings-short : (e : Entry) (a b : ℕ) → length (firings_of e a b) ≤ b
unfolding firings_of passing_up_to
firings-short e a b = omega (arith, passing-short (fires_at e) (b + 1 - (a + 1)) (a + 1))

-- either there is room for all, or for no more than so many
filled-few : (n room : ℕ) → n ≤ max_places ⊎ room ≤ max_places → Few (Ok (filled n room))
unfolding filled
filled-few n room h = go (leb n room) refl h
  where
    go : (b : Bool) → leb n room ≡ b → n ≤ max_places ⊎ room ≤ max_places → Few (Ok (cond b (All n) (More room)))
    go true e (inl h) = h
    go true e (inr h) = let l = leb-true n room e in omega arith
    go false e (inl h) = let l = leb-false n room e in omega arith
    go false e (inr h) = h

-- ---- of an entry

module _ (a b : ℕ) (run : List ℕ) where
  abbrev EntryFine : EntryStep → Type 0
  EntryFine s = Few s.answer × Kept s.answer run s.run

  refused-fine : (refusal : Refusal) → EntryFine (refused_entry refusal run)
  unfolding refused_entry
  refused-fine refusal = (number-small refusal, refl)

  found-fine : (e : Entry) → EntryFine (firings_found e a b run)
  unfolding firings_found listed_entry
  found-fine e = go (leb a last_minute) (leb b last_minute) refl e.when
    where
      list : List ℕ
      list = firings_of e a b

      listed : b ≤ last_minute → EntryFine (listed_entry list run)
      listed h = (filled-few (length list) (length run) (inl (omega (arith, firings-short e a b))), tt)

      go : (x y : Bool) → leb b last_minute ≡ y → (when : When)
          → EntryFine (cond x (cond y (by_when when (refused_entry AtBootOnly run) (λ s. listed_entry list run)) (refused_entry NotOnCalendar run)) (refused_entry NotOnCalendar run))
      go false y e when = refused-fine NotOnCalendar
      go true false e when = refused-fine NotOnCalendar
      go true true e Reboot = refused-fine AtBootOnly
      go true true e (Timed s) = listed (leb-true b last_minute e)

  answer-fine : (e : Result Entry Refusal) → EntryFine (firings_answer e a b run)
  unfolding firings_answer
  answer-fine (Ok e) = found-fine e
  answer-fine (Err refusal) = refused-fine refusal

module _ (rules : Rules) (s : List ℕ) (i a b : ℕ) (run : List ℕ) where
  fine : EntryFine a b run (firings_in (table_of rules s) i a b run)
  unfolding firings_in
  fine = answer-fine a b run (entry_in (table_of rules s) i)

  pub firings-few : Few (firings_in (table_of rules s) i a b run).answer
  firings-few = fine.0

  pub firings-kept : Kept (firings_in (table_of rules s) i a b run).answer run (firings_in (table_of rules s) i a b run).run
  firings-kept = fine.1

-- ---- of a table

room-few : (minutes entries : List ℕ) → room_in minutes entries ≤ max_places
unfolding room_in
room-few minutes entries = omega arith

module _ (rules : Rules) (s : List ℕ) (a b : ℕ) (minutes entries : List ℕ) where
  abbrev t : Result Table TableFault
  t = table_of rules s

  abbrev MergedFine : MergedStep → Type 0
  MergedFine step = Few step.answer × Kept step.answer minutes step.minutes × Kept step.answer entries step.entries

  merged-refused : (refusal : Refusal) → MergedFine (refused_merged refusal minutes entries)
  unfolding refused_merged
  merged-refused refusal = (number-small refusal, refl, refl)

  merged-listed : (u : Result Table TableFault) → MergedFine (listed_merged (merged_of u a b) minutes entries)
  unfolding listed_merged
  merged-listed u =
      let n = length (merged_of u a b) in
      let room = room_in minutes entries in
      (filled-few n room (inr (room-few minutes entries)), tt, tt)

  merged-fine : (u : Result Table TableFault) → MergedFine (merged_in u a b minutes entries)
  unfolding merged_in
  merged-fine (Err f) = merged-refused f.refusal
  merged-fine (Ok x) = go (leb a last_minute) (leb b last_minute)
    where
      go : (p q : Bool)
          → MergedFine (cond p (cond q (listed_merged (merged_of (Ok x) a b) minutes entries) (refused_merged NotOnCalendar minutes entries)) (refused_merged NotOnCalendar minutes entries))
      go false q = merged-refused NotOnCalendar
      go true false = merged-refused NotOnCalendar
      go true true = merged-listed (Ok x)

  pub merged-few : Few (merged_in t a b minutes entries).answer
  merged-few = (merged-fine t).0

  pub merged-kept : Kept (merged_in t a b minutes entries).answer minutes (merged_in t a b minutes entries).minutes
      × Kept (merged_in t a b minutes entries).answer entries (merged_in t a b minutes entries).entries
  merged-kept = ((merged-fine t).1, (merged-fine t).2)

-- "the shorter counts", with all its places, as long as a 32-bit number counts them
pub merged-room : (minutes entries : List ℕ) → min (length minutes) (length entries) ≤ 4294967295
    → room_in minutes entries ≡ min (length minutes) (length entries)
unfolding room_in
merged-room minutes entries h = min-eq_left h
