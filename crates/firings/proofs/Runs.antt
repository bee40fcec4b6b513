-- What two lent runs hold after a merged list: the minutes and the entries of its first firings.
-- Assumes nothing.
use mathlib.Core.Path.{◌≡◌, refl, ◌∙◌}
use mathlib.Core.Bool.{Bool, true, false, cond}
use mathlib.Core.List.{List}
use Prim.Native.Nat.{ℕ, ◌≤◌}
use native.Mathlib.Omega.{arith}
use lib.ListN.{length, take, drop, length-append, length-drop, length-map, length-take}
use lib.Seq.{take-append-le, take-take}
use lib.Dec.{leb}
use borrow.Author.Tests.{leb-true, leb-false}
use Rattle.std.specs.Prelude.{Result, Ok, Err}
use Rattle.refusal.specs.declared.Refusal.TheVariants.{NotOnCalendar}
use Rattle.octets.specs.OverFront.{over_front}
use Rattle.calendar.specs.Dates.{last_minute}
use Rattle.crontab.specs.declared.table.Table.{Table}
use Rattle.crontab.specs.declared.table.TableFault.{TableFault}
use Rattle.firings.specs.declared.Filled.TheVariants.{All, More}
use Rattle.firings.specs.Lists.{Firing, merged_of}
use Rattle.firings.specs.Calls.{MergedStep, filled, fitted, minutes_of, entries_of, room_in, refused_merged, listed_merged, merged_in}
use Rattle.firings.specs.Rising.{Given, FirstOf, Runs}

-- numbers at the front of a run with room for them
fitted-first : (numbers : List ℕ) (room n : ℕ) (run : List ℕ) → n ≤ room → n ≤ length numbers → take n (fitted numbers room run) ≡ take n numbers
unfolding fitted over_front
fitted-first numbers room n run h k =
    take-append-le n (take room numbers) (drop (length (take room numbers)) run) (omega (arith, length-take room numbers)) ∙ take-take n room numbers h

pub length-minutes : (list : List Firing) → length (minutes_of list) ≡ length list
unfolding minutes_of
length-minutes list = length-map list (λ f. f.minute)

pub length-entries : (list : List Firing) → length (entries_of list) ≡ length list
unfolding entries_of
length-entries list = length-map list (λ f. f.entry)

fitted-length : (numbers : List ℕ) (room : ℕ) (run : List ℕ) → room ≤ length run → length (fitted numbers room run) ≡ length run
unfolding fitted over_front
fitted-length numbers room run h =
    let front = take room numbers in
    length-append front (drop (length front) run) ∙ omega (arith, length-drop (length front) run, length-take room numbers)

module _ (t : Result Table TableFault) (a b : ℕ) (minutes entries : List ℕ) where
  abbrev list : List Firing
  list = merged_of t a b

  abbrev room : ℕ
  room = room_in minutes entries

  first_of : (n : ℕ) → n ≤ room → n ≤ length list → FirstOf list n (fitted (minutes_of list) room minutes) (fitted (entries_of list) room entries)
  first_of n h k =
      record {
        few = k;
        minutes-are = fitted-first (minutes_of list) room n minutes h (omega (arith, length-minutes list));
        entries-are = fitted-first (entries_of list) room n entries h (omega (arith, length-entries list));
      }

  abbrev RunsOf : MergedStep → Type 0
  RunsOf s = Runs t a b room s.answer s.minutes s.entries

  listed-runs : Given t a b → RunsOf (listed_merged list minutes entries)
  unfolding listed_merged filled
  listed-runs given = go (leb (length list) room) refl
    where
      go : (z : Bool) → leb (length list) room ≡ z
          → Runs t a b room (Ok (cond z (All (length list)) (More room))) (fitted (minutes_of list) room minutes) (fitted (entries_of list) room entries)
      go true e = let h = leb-true (length list) room e in (given, first_of (length list) h (omega arith), refl, h)
      go false e = let h = leb-false (length list) room e in (given, first_of room (omega arith) (omega arith), h, refl)

module _ (a b : ℕ) (minutes entries : List ℕ) where
  -- the list of a good table, or a minute that is refused
  abbrev good_step : Table → Bool → Bool → MergedStep
  good_step x on up =
      cond on (cond up (listed_merged (merged_of (Ok x) a b) minutes entries) (refused_merged NotOnCalendar minutes entries)) (refused_merged NotOnCalendar minutes entries)

pub merged-runs : (t : Result Table TableFault) (a b : ℕ) (minutes entries : List ℕ) → RunsOf t a b minutes entries (merged_in t a b minutes entries)
unfolding merged_in refused_merged
merged-runs (Err f) a b minutes entries = tt
merged-runs (Ok x) a b minutes entries = go (leb a last_minute) (leb b last_minute) refl refl
  where
    go : (p q : Bool) → leb a last_minute ≡ p → leb b last_minute ≡ q → RunsOf (Ok x) a b minutes entries (good_step a b minutes entries x p q)
    go false q e f = tt
    go true false e f = tt
    go true true e f = listed-runs (Ok x) a b minutes entries (record { good = refl; from = leb-true a last_minute e; to = leb-true b last_minute f })

-- the runs keep their lengths
pub merged-lengths : (t : Result Table TableFault) (a b : ℕ) (minutes entries : List ℕ)
    → (length (merged_in t a b minutes entries).minutes ≡ length minutes) × (length (merged_in t a b minutes entries).entries ≡ length entries)
unfolding merged_in refused_merged listed_merged room_in
merged-lengths (Err f) a b minutes entries = (refl, refl)
merged-lengths (Ok x) a b minutes entries = go (leb a last_minute) (leb b last_minute)
  where
    list : List Firing
    list = merged_of (Ok x) a b

    go : (p q : Bool) → let s = good_step a b minutes entries x p q in (length s.minutes ≡ length minutes) × (length s.entries ≡ length entries)
    go false q = (refl, refl)
    go true false = (refl, refl)
    go true true =
        (fitted-length (minutes_of list) (room_in minutes entries) minutes (omega arith), fitted-length (entries_of list) (room_in minutes entries) entries (omega arith))
