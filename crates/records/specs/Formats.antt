-- A setting or an entry as a record (B1), by its kind and body.
-- Assumes nothing.
use Rattle.std.specs.Prelude.{ℕ, ◌+◌, ◌*◌, List, [], ◌∷◌, ◌++◌, cond, length}
use mir.Val.{bool_byte}
use Rattle.octets.specs.LittleEndian.{little_endian}
use Rattle.schedule.specs.declared.Stars.{Stars}
use Rattle.schedule.specs.declared.Schedule.{Schedule}
use Rattle.line.specs.Words.{same}
use Rattle.line.specs.Offsets.{zone_name}
use Rattle.normal.specs.Meanings.{Item, setting, boot, timed}

-- B1: length, kind, body
unfoldable pub record_of : ℕ → List ℕ → List ℕ
record_of kind body = little_endian 2 (2 + length body) ++ (little_endian 2 kind ++ body)

-- ---- a timed entry

-- B3: the star flags as bits
unfoldable pub flags_of : Stars → ℕ
flags_of s =
    bool_byte s.minutes
    + 2 * bool_byte s.hours
    + 4 * bool_byte s.days
    + 8 * bool_byte s.months
    + 16 * bool_byte s.weekdays

-- B2: the five sets and the flags
unfoldable pub schedule_bytes : Schedule → List ℕ
schedule_bytes s =
    little_endian 8 s.minutes
    ++ (little_endian 4 s.hours
    ++ (little_endian 4 s.days
    ++ (little_endian 2 s.months
    ++ (little_endian 1 s.weekdays
    ++ little_endian 1 (flags_of s.stars)))))

-- ---- an item

-- B2: a timed entry
abbrev pub timed_kind : ℕ
timed_kind = 1

-- B4: a boot entry
abbrev pub boot_kind : ℕ
boot_kind = 2

-- B5: a setting
abbrev pub setting_kind : ℕ
setting_kind = 3

-- B6: a setting `CRON_TZ`
abbrev pub zone_kind : ℕ
zone_kind = 4

-- B5, B6: a setting's kind, by its name
unfoldable pub setting_kind_of : List ℕ → ℕ
setting_kind_of name = cond (same name zone_name) zone_kind setting_kind

-- B2, B4, B5, B6: an item's kind
unfoldable pub kind_of : Item → ℕ
kind_of (timed s command) = timed_kind
kind_of (boot command) = boot_kind
kind_of (setting name value) = setting_kind_of name

-- B2, B4, B5, B6: an item's body
unfoldable pub body_of : Item → List ℕ
body_of (timed s command) = schedule_bytes s ++ command
body_of (boot command) = command
body_of (setting name value) = little_endian 2 (length name) ++ (name ++ value)

-- ---- items, in order

-- B7: a record for each item, in order
unfoldable pub records_of : List Item → List ℕ
records_of [] = []
records_of (i ∷ is) = record_of (kind_of i) (body_of i) ++ records_of is
