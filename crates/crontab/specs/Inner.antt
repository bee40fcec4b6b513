-- What the functions inside promise each other: one step of the walk over a table's lines, and what follows from it. What a reader must
-- believe is in Items.
-- Assumes nothing.
use Rattle.std.specs.Prelude.{◌≡◌, ℕ, ◌+◌, ◌-◌, ◌≤◌, ◌<◌, cond, List, length, drop, ℤ, ltb, Ok, Err, Result}
use Rattle.octets.specs.declared.class.Class.TheVariants.{Not, InLine}
use Rattle.octets.specs.Classes.{newline}
use Rattle.octets.specs.Runs.{skipped, between}
use Rattle.schedule.specs.Local.{OffsetInRange}
use Rattle.line.specs.declared.Rules.{Rules}
use Rattle.crontab.specs.declared.entry.Entry.{Entry}
use Rattle.field.specs.declared.Fault.{Fault}
use Rattle.line.specs.declared.Line.{Line}
use Rattle.line.specs.declared.Line.TheVariants as line
use Rattle.crontab.specs.declared.item.Cursor.{Cursor}
use Rattle.crontab.specs.declared.item.Item.{Item}
use Rattle.crontab.specs.declared.item.Item.TheVariants as item
use Rattle.crontab.specs.declared.item.Step.{Step}
use Rattle.crontab.specs.declared.item.NextItem.{NextItem}
use Rattle.crontab.specs.declared.item.BadLine.{BadLine}
use Rattle.crontab.specs.Limits.{max_table, max_entries}
use Rattle.line.specs.Limits.{max_line}
use Rattle.crontab.specs.Refusals.{too_many_entries}
use Rattle.line.specs.Offsets.{in_force}
use Rattle.crontab.specs.Lines.{lines_of, is_cut}
use Rattle.line.specs.Lines.{read_line}
use Rattle.crontab.specs.Items.{Items, fault, setting, entry, moved, placed, last_fault, items_from}

-- the items from a cursor on
unfoldable pub items_at : Rules → List ℕ → Cursor → Items
items_at rules s c = items_from rules (is_cut s) c.at c.line c.count c.offset (lines_of (drop c.at s))

-- a cursor of a table: as many lines and entries as there can be before it, and an offset that may be
pub record Reached (s : List ℕ) (c : Cursor) : Type 0 where
  pub short : length s ≤ max_table
  pub place : c.at ≤ length s + 1
  pub lines : c.line ≤ c.at + 1
  pub few : c.count ≤ max_entries
  pub zone : OffsetInRange c.offset

-- the line at a cursor: its first byte that no line may have, or its end, and its end, which is at a newline or the table's end
pub record LineAt (s : List ℕ) (c : Cursor) (stop end : ℕ) : Type 0 where
  pub reached : Reached s c
  pub inside : c.at < length s
  pub stops : stop ≡ skipped InLine s c.at
  pub ends : end ≡ skipped (Not newline) s stop

-- the cursor after a line that ends at a place
abbrev pub behind : Cursor → ℕ → ℕ → ℤ → Cursor
behind c end count offset = record { at = end + 1; line = c.line + 1; count = count; offset = offset }

-- what line n is, and what the lines after it give
unfoldable pub given : ℕ → Item → Items → Items
given n item.Nothing later = later
given n (item.Setting name value) later = setting n name value later
given n (item.Entry e) later = entry e later

unfoldable pub counted : Item → ℕ → ℕ
counted item.Nothing k = k
counted (item.Setting name value) k = k
counted (item.Entry e) k = k + 1

-- an entry's command is some bytes of n, on a line that isn't too long, and its offset is one that may be
pub record Sound (n : ℕ) (e : Entry) : Type 0 where
  pub line : e.at ≤ e.start
  pub short : e.end ≤ e.at + max_line
  pub some : e.start < e.end
  pub within : e.end ≤ n
  pub zone : OffsetInRange e.offset

-- an entry of n bytes is sound, and under the offset of its cursor
abbrev pub Under : ℕ → ℤ → Item → Type 0
Under n offset item.Nothing = Unit {0}
Under n offset (item.Setting name value) = Unit {0}
Under n offset (item.Entry e) = (e.offset ≡ offset) × Sound n e

-- an entry is on the line of its step, and an ignored line keeps the offset
abbrev pub Stays : ℕ → ℤ → ℤ → Item → Type 0
Stays line offset next item.Nothing = next ≡ offset
Stays line offset next (item.Setting name value) = Unit {0}
Stays line offset next (item.Entry e) = e.line ≡ line

-- how far a step leads: past its item, or to the end where there is none
abbrev pub Leads : ℕ → ℕ → ℕ → Item → Type 0
Leads n from next item.Nothing = n ≤ next
Leads n from next (item.Setting name value) = from < next
Leads n from next (item.Entry e) = from < next

-- ---- one step

abbrev pub too_many : Fault
too_many = record { refusal = too_many_entries; column = 1 }

-- the fault of the line at a cursor, which ends at a place, and the cursor after it
abbrev pub bad_line : Cursor → ℕ → Fault → BadLine
bad_line c end f = record { fault = record { refusal = f.refusal; line = c.line; column = f.column }; next = behind c end c.count c.offset }

-- a line that ends in a newline, and the cursor after it
unfoldable pub ended_step : Cursor → ℕ → Result Line Fault → Result Step BadLine
ended_step c end (Ok line.Ignored) = Ok (record { item = item.Nothing; next = behind c end c.count c.offset })
ended_step c end (Ok (line.Setting name value zone)) =
    Ok (record { item = item.Setting (moved c.at name) (moved c.at value); next = behind c end c.count (in_force zone c.offset) })
ended_step c end (Ok (line.Entry when start)) =
    cond (ltb c.count max_entries)
    (Ok (record { item = item.Entry (placed c.at c.line (end - c.at) c.offset when start); next = behind c end (c.count + 1) c.offset }))
    (Err (bad_line c end too_many))
ended_step c end (Err f) = Err (bad_line c end f)

-- a last line without one
abbrev pub cut_step : Cursor → ℕ → Result Line Fault → Result Step BadLine
cut_step c end x = Err (bad_line c end (last_fault (end - c.at) c.count x))

-- the line at a cursor, up to a newline or the table's end
unfoldable pub step_at : Rules → List ℕ → Cursor → Result Step BadLine
step_at rules s c =
    let end = skipped (Not newline) s c.at in
    let x = read_line rules (between s c.at end) in
    cond (ltb end (length s)) (ended_step c end x) (cut_step c end x)

-- what a step over one line is, and what follows for walks
pub record StepIs (rules : Rules) (s : List ℕ) (c : Cursor) (r : Step) : Type 0 where
  pub is : Ok r ≡ step_at rules s c
  pub gives : items_at rules s c ≡ given c.line r.item (items_at rules s r.next)
  pub onward : c.at < r.next.at
  pub reached : Reached s r.next
  pub counts : r.next.count ≡ counted r.item c.count
  pub under : Under (length s) c.offset r.item
  pub stays : Stays c.line c.offset r.next.offset r.item

-- what a step over a bad line is, and what follows for walks, those that go on past it too
pub record StepFault (rules : Rules) (s : List ℕ) (c : Cursor) (r : BadLine) : Type 0 where
  pub is : Err r ≡ step_at rules s c
  pub gives : items_at rules s c ≡ fault r.fault.refusal c.line r.fault.column
  pub line : r.fault.line ≡ c.line
  pub onward : c.at < r.next.at
  pub reached : Reached s r.next
  pub counts : r.next.count ≡ c.count

-- what holds of a step to the next item
pub record ItemIs (rules : Rules) (s : List ℕ) (c : Cursor) (r : NextItem) : Type 0 where
  pub gives : items_at rules s c ≡ given r.line r.item (items_at rules s r.next)
  pub leads : Leads (length s) c.at r.next.at r.item
  pub reached : Reached s r.next
  pub counts : r.next.count ≡ counted r.item c.count
  pub under : Under (length s) c.offset r.item
  pub stays : Stays r.line c.offset r.next.offset r.item

-- and of a step to the bad line that stands where it would
pub record ItemFault (rules : Rules) (s : List ℕ) (c : Cursor) (r : BadLine) : Type 0 where
  pub gives : items_at rules s c ≡ fault r.fault.refusal r.fault.line r.fault.column
  pub leads : c.at < r.next.at
  pub reached : Reached s r.next
  pub counts : r.next.count ≡ c.count
