-- What the calls for a list answer, and the buffers after them (I3, I4). A refused call leaves all as it was (R40).
-- Assumes nothing.
use Rattle.std.specs.Prelude.{ℕ, min, cond, List, map, length, take, leb, Result, Ok, Err}
use Rattle.refusal.specs.declared.Refusal.{Refusal}
use Rattle.octets.specs.OverFront.{over_front}
use Rattle.calendar.specs.Refusals.{not_on_calendar}
use Rattle.calendar.specs.Dates.{last_minute}
use Rattle.crontab.specs.declared.entry.Entry.{Entry}
use Rattle.crontab.specs.declared.table.Table.{Table}
use Rattle.crontab.specs.declared.table.TableFault.{TableFault}
use Rattle.crontab.specs.Refusals.{at_boot_only}
use Rattle.crontab.specs.Tables.{entry_in}
use Rattle.crontab.specs.Firings.{by_when}
use Rattle.firings.specs.declared.Filled.{Filled}
use Rattle.firings.specs.declared.Filled.TheVariants.{All, More}
use Rattle.firings.specs.Lists.{Firing, firings_of, merged_of}

-- I3: n firings, if there are so many places
unfoldable pub filled : ℕ → ℕ → Filled
filled n room = cond (leb n room) (All n) (More room)

-- I3: numbers over the front of a buffer, as many as there are places for
unfoldable pub fitted : List ℕ → ℕ → List ℕ → List ℕ
fitted numbers room run = over_front (take room numbers) run

-- ---- of an entry; the order of refusals is R37

-- I3: the answer, and the buffer after it
pub record EntryStep : Type 0 where
  pub answer : Result Filled Refusal
  pub run : List ℕ

-- R40: the buffer stays
unfoldable pub refused_entry : Refusal → List ℕ → EntryStep
refused_entry refusal run = record { answer = Err refusal; run = run }

-- I3: a list in a buffer
unfoldable pub listed_entry : List ℕ → List ℕ → EntryStep
listed_entry numbers run = record { answer = Ok (filled (length numbers) (length run)); run = fitted numbers (length run) run }

-- R37, I5: R14 for a, then for b, then R15
unfoldable pub firings_found : Entry → ℕ → ℕ → List ℕ → EntryStep
firings_found e a b run =
    cond (leb a last_minute)
    (cond (leb b last_minute) (by_when e.when (refused_entry at_boot_only run) (λ s. listed_entry (firings_of e a b) run)) (refused_entry not_on_calendar run))
    (refused_entry not_on_calendar run)

-- R37: an entry that isn't found has the table's refusal, or R13
unfoldable pub firings_answer : Result Entry Refusal → ℕ → ℕ → List ℕ → EntryStep
firings_answer (Ok e) a b run = firings_found e a b run
firings_answer (Err refusal) a b run = refused_entry refusal run

-- I1, I3, R37: the list of an entry by its number
unfoldable pub firings_in : Result Table TableFault → ℕ → ℕ → ℕ → List ℕ → EntryStep
firings_in t i a b run = firings_answer (entry_in t i) a b run

-- ---- of a table; the order of refusals is R37

-- I3, I4: the answer, and both buffers after it
pub record MergedStep : Type 0 where
  pub answer : Result Filled Refusal
  pub minutes : List ℕ
  pub entries : List ℕ

-- I4: a count is a 32-bit number
abbrev pub max_places : ℕ
max_places = 4294967295

-- I4: the shorter one counts
unfoldable pub room_in : List ℕ → List ℕ → ℕ
room_in minutes entries = min (min (length minutes) (length entries)) max_places

-- R40: both buffers stay
unfoldable pub refused_merged : Refusal → List ℕ → List ℕ → MergedStep
refused_merged refusal minutes entries = record { answer = Err refusal; minutes = minutes; entries = entries }

-- I4: the minutes of a list
unfoldable pub minutes_of : List Firing → List ℕ
minutes_of list = map (λ f. f.minute) list

-- I4: the entries of a list
unfoldable pub entries_of : List Firing → List ℕ
entries_of list = map (λ f. f.entry) list

-- I3, I4: a list in two buffers
unfoldable pub listed_merged : List Firing → List ℕ → List ℕ → MergedStep
listed_merged list minutes entries =
    let room = room_in minutes entries in
    record {
      answer = Ok (filled (length list) room);
      minutes = fitted (minutes_of list) room minutes;
      entries = fitted (entries_of list) room entries;
    }

-- I2, I3, R37: the list of a table
unfoldable pub merged_in : Result Table TableFault → ℕ → ℕ → List ℕ → List ℕ → MergedStep
merged_in (Ok t) a b minutes entries =
    cond (leb a last_minute)
    (cond (leb b last_minute) (listed_merged (merged_of (Ok t) a b) minutes entries) (refused_merged not_on_calendar minutes entries))
    (refused_merged not_on_calendar minutes entries)
merged_in (Err f) a b minutes entries = refused_merged f.refusal minutes entries
