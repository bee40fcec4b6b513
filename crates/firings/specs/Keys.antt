-- How a merged list is made: a firing as one number, its key, minute * 512 + entry, so that keys rise by minute and then entry. A tree of
-- keys has each entry's next firing as a leaf, and the least of all as its root. Only contracts of inner functions cite these.
-- Assumes nothing.
use Rattle.std.specs.Prelude.{ℕ, ◌+◌, ◌*◌, ◌/◌, ◌%◌, ◌≤◌, ◌<◌, min, ◌≡◌, Bool, true, false, ◌&&◌, List, length, get_or, ltb, Result, Ok, Err}
use Rattle.refusal.specs.declared.Refusal.{Refusal}
use Rattle.calendar.specs.Dates.{last_minute}
use Rattle.schedule.specs.Local.{OffsetInRange}
use Rattle.crontab.specs.declared.entry.Entry.{Entry}
use Rattle.crontab.specs.Limits.{max_entries}
use Rattle.crontab.specs.Tables.{blank_entry}
use Rattle.firings.specs.Lists.{Firing}

-- a firing, or the minute after the calendar's last
unfoldable pub minute_or_end : Result ℕ Refusal → ℕ
minute_or_end (Ok n) = n
minute_or_end (Err refusal) = last_minute + 1

-- ---- keys

unfoldable pub firing_of : ℕ → Firing
firing_of key = record { minute = key / max_entries; entry = key % max_entries }

-- whether a key is a firing, where there are so many entries
unfoldable pub is_firing : (ℕ → ℕ → Bool) → ℕ → ℕ → Bool
is_firing fires count key = ltb (key % max_entries) count && fires (key % max_entries) (key / max_entries)

-- no key of a minute of the calendar is as great
abbrev pub end_key : ℕ
end_key = (last_minute + 1) * max_entries

-- ---- trees: the children of node k are 2k and 2k + 1, and the leaves come last

abbrev pub nodes : ℕ
nodes = 1024

-- the tree that holds `end_key` everywhere is one
pub record Tree (tree : List ℕ) : Type 0 where
  pub size : length tree ≡ nodes
  pub node : (k : ℕ) → 1 ≤ k → k < max_entries → get_or tree k 0 ≡ min (get_or tree (2 * k) 0) (get_or tree (2 * k + 1) 0)

unfoldable pub leaf : List ℕ → ℕ → ℕ
leaf tree i = get_or tree (max_entries + i) 0

abbrev pub root : List ℕ → ℕ
root tree = get_or tree 1 0

-- the key that waits for an entry: its first firing from a key on, or a number past the calendar
pub record Waits (test : ℕ → Bool) (from i key : ℕ) : Type 0 where
  pub low : from ≤ key
  pub entry : key % max_entries ≡ i
  pub fires : key < end_key → test key ≡ true
  pub none : (k : ℕ) → from ≤ k → k < key → k % max_entries ≡ i → test k ≡ false

-- so many entries wait, and no other
pub record Tournament (test : ℕ → Bool) (count from : ℕ) (tree : List ℕ) : Type 0 where
  pub shape : Tree tree
  pub waits : (i : ℕ) → i < count → Waits test from i (leaf tree i)
  pub others : (i : ℕ) → count ≤ i → i < max_entries → end_key ≤ leaf tree i

-- what a good table's entries are
pub record Good (entries : List Entry) (count : ℕ) : Type 0 where
  pub few : count ≤ max_entries
  pub full : length entries ≡ max_entries
  pub zone : (i : ℕ) → i < count → OffsetInRange (get_or entries i blank_entry).offset
