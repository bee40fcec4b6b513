-- Laws of records as the functions write them: part by part.
-- Assumes nothing.
use mathlib.Core.Path.{◌≡◌, refl}
use mathlib.Core.List.{List, [], ◌++◌, append_assoc}
use Prim.Native.Nat.{ℕ, ◌+◌}
use native.Mathlib.Omega.{arith}
use lib.ListN.{length, length-append}
use Rattle.octets.specs.Runs.{between}
use Rattle.octets.specs.LittleEndian.{little_endian}
use Rattle.octets.proofs.LittleEndian.{length-little_endian}
use Rattle.schedule.specs.declared.Schedule.{Schedule}
use Rattle.line.specs.declared.Part.{Part}
use Rattle.crontab.specs.declared.entry.Entry as entry
use Rattle.crontab.specs.declared.item.Item as line
use Rattle.crontab.specs.declared.item.Item.TheVariants.{Nothing, Setting, Entry}
use Rattle.line.specs.declared.time.When.{When}
use Rattle.line.specs.declared.time.When.TheVariants.{Reboot, Timed}
use Rattle.line.specs.Assignments.{part_bytes}
use Rattle.normal.specs.Meanings.{setting, entry_item}
use Rattle.records.specs.Formats.{setting_kind_of, record_of, schedule_bytes, kind_of, body_of}
use Rattle.records.specs.InnerWriters.{head_of, item_record, record_part}

-- ---- a schedule

pub schedule-size : (s : Schedule) → length (schedule_bytes s) ≡ 20
unfolding schedule_bytes
schedule-size s = simp (length-append, length-little_endian) refl

-- ---- a head and a body

pub head-size : (kind size : ℕ) → length (head_of kind size) ≡ 4
unfolding head_of
head-size kind size = simp (length-append, length-little_endian) refl

record-framed : (kind size : ℕ) (body : List ℕ) → size ≡ length body → record_of kind body ≡ head_of kind size ++ body
unfolding record_of head_of
record-framed kind size body e = rw (e, append_assoc)

-- ---- an item

module _ (when : When) (command : List ℕ) where
  pub boot-record : when ≡ Reboot → item_record (entry_item when command) ≡ head_of 2 (length command) ++ command
  unfolding kind_of body_of entry_item
  boot-record e = rw e (record-framed 2 (length command) command refl)

  pub boot-length : when ≡ Reboot → length (item_record (entry_item when command)) ≡ 4 + length command
  boot-length e = rw (boot-record e) (omega (arith, length-append (head_of 2 (length command)) command, head-size 2 (length command)))

  module _ {s : Schedule} (e : when ≡ Timed s) where
    pub timed-record : item_record (entry_item when command) ≡ head_of 1 (20 + length command) ++ (schedule_bytes s ++ command)
    unfolding kind_of body_of entry_item
    timed-record =
        rw e
        (record-framed 1 (20 + length command) (schedule_bytes s ++ command) (omega (arith, length-append (schedule_bytes s) command, schedule-size s)))

    pub timed-length : length (item_record (entry_item when command)) ≡ 24 + length command
    timed-length =
        rw timed-record
        (omega (arith, length-append (head_of 1 (20 + length command)) (schedule_bytes s ++ command), head-size 1 (20 + length command), length-append (schedule_bytes s) command, schedule-size s))

module _ (name value : List ℕ) where
  pub setting-record : item_record (setting name value)
      ≡ head_of (setting_kind_of name) (2 + length name + length value) ++ (little_endian 2 (length name) ++ (name ++ value))
  unfolding kind_of body_of
  setting-record =
      record-framed (setting_kind_of name) (2 + length name + length value) (little_endian 2 (length name) ++ (name ++ value))
      (omega (arith, length-append (little_endian 2 (length name)) (name ++ value), length-little_endian 2 (length name), length-append name value))

  pub setting-length : length (item_record (setting name value)) ≡ 6 + length name + length value
  setting-length =
      let n = 2 + length name + length value in
      rw setting-record
      (omega (arith, length-append (head_of (setting_kind_of name) n) (little_endian 2 (length name) ++ (name ++ value)), head-size (setting_kind_of name) n, length-append (little_endian 2 (length name)) (name ++ value), length-little_endian 2 (length name), length-append name value))

-- ---- a line

module _ (s : List ℕ) (x : line.Item) where
  pub part_none : x ≡ Nothing → record_part s x ≡ []
  unfolding record_part
  part_none is = rw is

  pub part-setting : {name value : Part} → x ≡ Setting name value → record_part s x ≡ item_record (setting (part_bytes s name) (part_bytes s value))
  unfolding record_part
  part-setting is = rw is

  pub part-entry : {e : entry.Entry} → x ≡ Entry e → record_part s x ≡ item_record (entry_item e.when (between s e.start e.end))
  unfolding record_part
  part-entry is = rw is
