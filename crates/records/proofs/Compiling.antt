-- Laws of the two walks that compile a table: its records are the parts of its lines, none of them is too long, and what comes back.
-- Assumes nothing.
use mathlib.Core.Path.{◌≡◌, refl}
use mathlib.Core.List.{List, ◌++◌}
use Prim.Native.Nat.{ℕ, ◌+◌, ◌*◌, ◌≤◌}
use native.Mathlib.Omega.{arith}
use lib.ListN.{length}
use Rattle.octets.specs.Runs.{between}
use Rattle.octets.proofs.Places.{between-length}
use Rattle.field.specs.declared.Dialect.{Dialect}
use Rattle.line.specs.declared.time.When.{When}
use Rattle.line.specs.declared.time.When.TheVariants.{Reboot, Timed}
use Rattle.crontab.specs.declared.item.Item as line
use Rattle.crontab.specs.declared.item.Item.TheVariants.{Nothing, Setting, Entry}
use Rattle.crontab.specs.Limits.{max_table}
use Rattle.crontab.specs.Items.{Items}
use Rattle.line.specs.Assignments.{part_bytes}
use Rattle.crontab.specs.Inner.{given}
use Rattle.crontab.specs.Tables.{table_of}
use Rattle.normal.specs.Meanings.{entry_item, of_user, meanings, meaning_of}
use Rattle.normal.specs.Texts.{fits}
use Rattle.normal.specs.Inner.{PartOf, Within, form_for, text_refusal}
use Rattle.normal.proofs.Walks.{InParts}
use Rattle.normal.proofs.Forms.{by-refusals}
use Rattle.records.specs.Formats.{records_of}
use Rattle.records.specs.Calls.{compiled}
use Rattle.records.specs.InnerWriters.{item_record, record_part}
use Rattle.records.proofs.Packing.{setting-length, boot-length, timed-length}

-- ---- line by line

given-record : (s : List ℕ) (n : ℕ) (later : Items) (x : line.Item)
    → record_part s x ++ records_of (meanings s later) ≡ records_of (meanings s (given n x later))
unfolding given record_part meanings records_of
given-record s n later Nothing = refl
given-record s n later (Setting name value) = refl
given-record s n later (Entry e) = refl

pub record-parts : (s : List ℕ) → InParts s (record_part s) records_of
unfolding records_of
record-parts s = record { none = refl; next = given-record s }

-- ---- no record is too long for its length to be told

module _ (s : List ℕ) (short : length s ≤ max_table) where
  part_length : {start end : ℕ} → PartOf s start end → length (between s start end) ≤ max_table
  part_length {start} {end} p = omega (arith, (between-length s start end).1, p.1)

  pub record-short : (x : line.Item) → Within s x → length (record_part s x) ≤ 2 * max_table + 24
  unfolding record_part
  record-short Nothing w = omega arith
  record-short (Setting name value) w =
      omega (arith, setting-length (part_bytes s name) (part_bytes s value), part_length w.0, part_length w.1)
  record-short (Entry e) w = let h = part_length w in go e.when refl h
    where
      go : (when : When) → e.when ≡ when → length (between s e.start e.end) ≤ max_table → length (item_record (entry_item e.when (between s e.start e.end))) ≤ 2 * max_table + 24
      go Reboot is h = omega (arith, boot-length e.when (between s e.start e.end) is)
      go (Timed x) is h = omega (arith, timed-length e.when (between s e.start e.end) is)

-- ---- what comes back

pub compiled-is : (d : Dialect) (s buffer : List ℕ) → compiled d s buffer ≡ form_for (text_refusal d s) (records_of (meaning_of d s)) buffer
unfolding compiled text_refusal
compiled-is d s buffer = by-refusals (table_of (of_user d) s) (fits (meaning_of d s)) (records_of (meaning_of d s)) buffer
