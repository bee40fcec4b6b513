-- What the calls for a list answer, an equation for each way that an answer can go, for any table, entry, minutes and runs.
-- Assumes nothing.
use Rattle.std.specs.Prelude.{Ok, Err}
use mathlib.Core.Path.{◌≡◌}
use mathlib.Core.Bool.{true, false}
use mathlib.Core.List.{List, map}
use Prim.Native.Nat.{ℕ, ◌+◌, ◌≤◌, ◌<◌, min}
use lib.ListN.{length, take}
use borrow.Author.Tests.{le-leb, lt-leb}
use Rattle.std.specs.Prelude.{Ok, Err, Result}
use Rattle.refusal.specs.declared.Refusal.{Refusal}
use Rattle.refusal.specs.declared.Refusal.TheVariants.{NotOnCalendar, AtBootOnly}
use Rattle.octets.specs.OverFront.{over_front}
use Rattle.octets.specs.Passing.{passing_up_to}
use Rattle.calendar.specs.Dates.{last_minute}
use Rattle.crontab.specs.declared.entry.Entry.{Entry}
use Rattle.crontab.specs.declared.table.Table.{Table}
use Rattle.crontab.specs.declared.table.TableFault.{TableFault}
use Rattle.crontab.specs.Tables.{entry_in, count_in, refusal_in, table_entries}
use Rattle.crontab.specs.Firings.{is_boot, fires_at}
use Rattle.firings.specs.declared.Filled.TheVariants.{All, More}
use Rattle.firings.specs.Lists.{firings_of, fires_in, merged_up_to}
use Rattle.firings.specs.Calls.{filled, fitted, refused_entry, listed_entry, firings_in, room_in, refused_merged, minutes_of, entries_of, listed_merged, merged_in}
use Rattle.firings.proofs.Exits.{in-found, in-refused, first_off, last_off, at-boot, by-time, merged-bad, merged-first-off, merged-last-off, merged-listed}

-- all that there are, or as many as there is room for
pub fits_all : (n room : ℕ) → n ≤ room → filled n room ≡ All n
unfolding filled
fits_all n room h = rw (le-leb n room h)

pub fits-some : (n room : ℕ) → room < n → filled n room ≡ More room
unfolding filled
fits-some n room h = rw (lt-leb n room h)

-- ---- of an entry: table, 13, 14, 15

module _ (t : Result Table TableFault) (i a b : ℕ) (run : List ℕ) where
  pub list-refused : {refusal : Refusal} → entry_in t i ≡ Err refusal → firings_in t i a b run ≡ record { answer = Err refusal; run = run }
  unfolding refused_entry
  list-refused is = in-refused t i a b run is

  module _ {e : Entry} (is : entry_in t i ≡ Ok e) where
    pub list-first-off : last_minute < a → firings_in t i a b run ≡ record { answer = Err NotOnCalendar; run = run }
    unfolding refused_entry
    list-first-off h = in-found t i a b run is (first_off e a b run h)

    pub list-last-off : a ≤ last_minute → last_minute < b → firings_in t i a b run ≡ record { answer = Err NotOnCalendar; run = run }
    unfolding refused_entry
    list-last-off h k = in-found t i a b run is (last_off e a b run h k)

    module _ (h : a ≤ last_minute) (k : b ≤ last_minute) where
      pub list-at-boot : is_boot e ≡ true → firings_in t i a b run ≡ record { answer = Err AtBootOnly; run = run }
      unfolding refused_entry
      list-at-boot boot = in-found t i a b run is (at-boot e a b run h k boot)

      -- the firings after minute a and up to minute b, at the front of the run
      pub list-by-time : is_boot e ≡ false
          → let list = passing_up_to (fires_at e) b (a + 1) in
          firings_in t i a b run ≡ record { answer = Ok (filled (length list) (length run)); run = over_front (take (length run) list) run }
      unfolding listed_entry fitted firings_of
      list-by-time timed = in-found t i a b run is (by-time e a b run h k timed)

-- ---- of a table: table, 14

module _ (t : Result Table TableFault) (a b : ℕ) (minutes entries : List ℕ) where
  pub table-bad : {f : TableFault} → t ≡ Err f → merged_in t a b minutes entries ≡ record { answer = Err f.refusal; minutes = minutes; entries = entries }
  unfolding refused_merged
  table-bad bad = merged-bad t a b minutes entries bad

  module _ (good : refusal_in t ≡ 0) where
    pub table-first-off : last_minute < a → merged_in t a b minutes entries ≡ record { answer = Err NotOnCalendar; minutes = minutes; entries = entries }
    unfolding refused_merged
    table-first-off h = merged-first-off t a b minutes entries good h

    pub table-last-off : a ≤ last_minute → last_minute < b → merged_in t a b minutes entries ≡ record { answer = Err NotOnCalendar; minutes = minutes; entries = entries }
    unfolding refused_merged
    table-last-off h k = merged-last-off t a b minutes entries good h k

    -- the firings of all entries, and the room is the shorter run
    pub table-listed : a ≤ last_minute → b ≤ last_minute
        → let list = merged_up_to (fires_in (table_entries t)) (count_in t) b (a + 1) in
        let room = min (min (length minutes) (length entries)) 4294967295 in
        merged_in t a b minutes entries
        ≡ record {
          answer = Ok (filled (length list) room);
          minutes = over_front (take room (map (λ f. f.minute) list)) minutes;
          entries = over_front (take room (map (λ f. f.entry) list)) entries;
        }
    unfolding listed_merged fitted room_in minutes_of entries_of
    table-listed h k = merged-listed t a b minutes entries good h k
