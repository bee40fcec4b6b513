-- What the theorems about records speak of: a line that means a body (R24), whole records, and a later writer (B14, B15).
-- Assumes nothing.
use Rattle.std.specs.Prelude.{◌≡◌, ℕ, suc, ◌≤◌, ◌<◌, true, cond, List, [], ◌∷◌, ◌++◌, length, leb}
use Rattle.octets.specs.declared.class.Class.TheVariants.{InLine}
use Rattle.octets.specs.Runs.{are_of}
use Rattle.octets.specs.LittleEndian.{width}
use Rattle.field.specs.declared.Dialect.{Dialect}
use Rattle.schedule.specs.declared.Schedule.{Schedule}
use Rattle.normal.specs.Meanings.{Item, setting, boot, timed, line_items}
use Rattle.records.specs.Formats.{record_of, kind_of, body_of}
use Rattle.records.specs.Readings.{skipped_from, Records, cut, next, Content, skipped, refused, means, content_of}
use Rattle.records.specs.Readings.Records.{done}

-- ---- a line, whatever its length

-- R24: in a dialect a line of any length means the item of that kind and body
pub record LineMeans (d : Dialect) (kind : ℕ) (body line : List ℕ) : Type 0 where
  pub clean : are_of InLine line ≡ true
  pub item : Item
  pub items : line_items d line ≡ item ∷ []
  pub same_kind : kind_of item ≡ kind
  pub same_body : body_of item ≡ body

-- ---- whole records

-- B1: kind and body
pub record Record : Type 0 where
  pub kind : ℕ
  pub body : List ℕ

-- B1: the length is two bytes, and counts the kind
abbrev pub longest_body : ℕ
longest_body = 65533

-- B1: a kind and a body that fit a record
pub record Framed (r : Record) : Type 0 where
  pub kind : r.kind < width 2
  pub body : length r.body ≤ longest_body

-- B15: each record of a list
abbrev pub All : (Record → Type 0) → List Record → Type 0
All p [] = Unit {0}
All p (r ∷ rs) = p r × All p rs

-- B1: records one after the other
unfoldable pub bytes_of : List Record → List ℕ
bytes_of [] = []
bytes_of (r ∷ rs) = record_of r.kind r.body ++ bytes_of rs

-- B15: without those that are skipped
unfoldable pub kept : List Record → List Record
kept [] = []
kept (r ∷ rs) = let more = kept rs in cond (leb skipped_from r.kind) more (r ∷ more)

-- B15: how many are skipped
unfoldable pub skipped_in : List Record → ℕ
skipped_in [] = 0
skipped_in (r ∷ rs) = let more = skipped_in rs in cond (leb skipped_from r.kind) (suc more) more

-- ---- no record is bad: none is cut short, and each is skipped or means something

-- B12: a record that isn't bad
abbrev pub NotBad : Content → Type 0
NotBad skipped = Unit {0}
NotBad (refused refusal) = ⊥
NotBad (means i) = Unit {0}

-- B12: no record is bad: none is cut short, and each is skipped or means something
abbrev pub NoneBad : Records → Type 0
NoneBad done = Unit {0}
NoneBad cut = ⊥
NoneBad (next kind body later) = NotBad (content_of kind body) × NoneBad later

-- ---- a later writer

-- B14: what a later writer sends
pub data Sent : Type 0 where
  -- a setting or an entry of kinds 1 to 4
  same : Item → Sent
  -- something new, in another kind; from 32,768 on it changes no entry
  new : Record → Sent

-- B2: sets that fit their bytes
pub record Wide (s : Schedule) : Type 0 where
  pub minutes : s.minutes < width 8
  pub hours : s.hours < width 4
  pub days : s.days < width 4
  pub months : s.months < width 2
  pub weekdays : s.weekdays < width 1

-- B2, B5: an item that its body can hold
abbrev pub Encodable : Item → Type 0
Encodable (timed s command) = Wide s
Encodable (boot command) = Unit {0}
Encodable (setting name value) = length name < width 2

-- B14: as a record
unfoldable pub as_record : Sent → Record
as_record (same i) = record { kind = kind_of i; body = body_of i }
as_record (new r) = r

-- B14: all of them
unfoldable pub as_records : List Sent → List Record
as_records [] = []
as_records (x ∷ xs) = as_record x ∷ as_records xs

-- B14: kinds 1 to 4 are kept
abbrev pub Keeps : Sent → Type 0
Keeps (same i) = Encodable i
Keeps (new r) = 1 ≤ r.kind → r.kind ≤ 4 → ⊥

-- B14: a later writer
abbrev pub Writer : List Sent → Type 0
Writer [] = Unit {0}
Writer (x ∷ xs) = Keeps x × Framed (as_record x) × Writer xs

-- B14: its settings and entries, in order
unfoldable pub items_sent : List Sent → List Item
items_sent [] = []
items_sent (same i ∷ xs) = i ∷ items_sent xs
items_sent (new r ∷ xs) = items_sent xs

-- B14: nothing else changes an entry
abbrev pub ChangesNone : List Sent → Type 0
ChangesNone [] = Unit {0}
ChangesNone (same i ∷ xs) = ChangesNone xs
ChangesNone (new r ∷ xs) = (skipped_from ≤ r.kind) × ChangesNone xs
