-- What the functions inside promise each other. What a reader must believe is in Formats, Readings and Calls.
-- Assumes nothing.
use Rattle.std.specs.Prelude.{ℕ, ◌+◌, List, [], ◌++◌}
use Rattle.octets.specs.Runs.{between}
use Rattle.octets.specs.LittleEndian.{little_endian}
use Rattle.crontab.specs.declared.item.Item as line
use Rattle.crontab.specs.declared.item.Item.TheVariants.{Nothing, Setting, Entry}
use Rattle.line.specs.Assignments.{part_bytes}
use Rattle.normal.specs.Meanings.{Item, setting, entry_item}
use Rattle.records.specs.Formats.{record_of, kind_of, body_of}

-- ---- the writer

-- what comes before a body of so many bytes
unfoldable pub head_of : ℕ → ℕ → List ℕ
head_of kind size = little_endian 2 (2 + size) ++ little_endian 2 kind

abbrev pub item_record : Item → List ℕ
item_record i = record_of (kind_of i) (body_of i)

-- the record of an item as it is in a table
unfoldable pub record_part : List ℕ → line.Item → List ℕ
record_part s Nothing = []
record_part s (Setting name value) = item_record (setting (part_bytes s name) (part_bytes s value))
record_part s (Entry e) = item_record (entry_item e.when (between s e.start e.end))
