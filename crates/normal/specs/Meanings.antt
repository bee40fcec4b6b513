-- What a user table means (P1): its settings and entries as one sequence, as bytes without their places.
-- Assumes nothing.
use Rattle.std.specs.Prelude.{ℕ, suc, List, [], ◌∷◌, ◌++◌, length, ℤ, Ok, Err, Result}
use Rattle.octets.specs.Runs.{between}
use Rattle.schedule.specs.declared.Schedule.{Schedule}
use Rattle.field.specs.declared.Dialect.{Dialect}
use Rattle.line.specs.declared.Rules.{Rules}
use Rattle.line.specs.declared.Kind.TheVariants.{User}
use Rattle.line.specs.declared.time.When.{When}
use Rattle.line.specs.declared.time.When.TheVariants.{Reboot, Timed}
use Rattle.line.specs.declared.Line.{Line}
use Rattle.line.specs.declared.Line.TheVariants as line
use Rattle.line.specs.Lines.{content_of}
use Rattle.crontab.specs.Items.{Items, items_of}
use Rattle.crontab.specs.Items as items
use Rattle.line.specs.Assignments.{part_bytes}
use Rattle.line.specs.Offsets.{zone_of, in_force}
use Rattle.field.specs.declared.Fault.{Fault}

-- P1: a setting or an entry
pub data Item : Type 0 where
  -- name and value
  setting : List ℕ → List ℕ → Item
  -- `@reboot`, and its command
  boot : List ℕ → Item
  timed : Schedule → List ℕ → Item

-- P1: an entry's time and command
unfoldable pub entry_item : When → List ℕ → Item
entry_item Reboot command = boot command
entry_item (Timed s) command = timed s command

-- R12: how many of them are entries
unfoldable pub entries_in : List Item → ℕ
entries_in [] = 0
entries_in (setting name value ∷ is) = entries_in is
entries_in (boot command ∷ is) = suc (entries_in is)
entries_in (timed s command ∷ is) = suc (entries_in is)

-- A12: a user table in a dialect
abbrev pub of_user : Dialect → Rules
of_user d = record { kind = User; dialect = d }

-- ---- a table

-- P1: the items of a table's bytes, up to its end or to the fault that refuses it
unfoldable pub meanings : List ℕ → Items → List Item
meanings s items.done = []
meanings s (items.fault refusal line column) = []
meanings s (items.setting line name value later) = setting (part_bytes s name) (part_bytes s value) ∷ meanings s later
meanings s (items.entry e later) = entry_item e.when (between s e.start e.end) ∷ meanings s later

-- P1: the meaning of a user table, if it isn't refused
unfoldable pub meaning_of : Dialect → List ℕ → List Item
meaning_of d s = meanings s (items_of (of_user d) s)

-- ---- the offsets that entries are under, in order

-- P1, O1: by the settings before them
unfoldable pub offsets_from : ℤ → List Item → List ℤ
offsets_from o [] = []
offsets_from o (setting name value ∷ is) = offsets_from (in_force (zone_of name value) o) is
offsets_from o (boot command ∷ is) = o ∷ offsets_from o is
offsets_from o (timed s command ∷ is) = o ∷ offsets_from o is

-- P10: as a table's entries have them
unfoldable pub entry_offsets : Items → List ℤ
entry_offsets items.done = []
entry_offsets (items.fault refusal line column) = []
entry_offsets (items.setting line name value later) = entry_offsets later
entry_offsets (items.entry e later) = e.offset ∷ entry_offsets later

-- ---- a line, whatever its length: none or one

-- P11: what a line means
unfoldable pub item_in : List ℕ → Result Line Fault → List Item
item_in s (Ok line.Ignored) = []
item_in s (Ok (line.Setting name value _)) = setting (part_bytes s name) (part_bytes s value) ∷ []
item_in s (Ok (line.Entry when start)) = entry_item when (between s start (length s)) ∷ []
item_in s (Err f) = []

-- P11: a line's bytes, in a dialect
unfoldable pub line_items : Dialect → List ℕ → List Item
line_items d s = item_in s (content_of (of_user d) s)

-- P1: line by line
unfoldable pub items_in : Dialect → List (List ℕ) → List Item
items_in d [] = []
items_in d (l ∷ ls) = line_items d l ++ items_in d ls
