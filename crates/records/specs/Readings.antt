-- What bytes mean as records, in two steps: which records they are (B1, B8), and what these mean, up to their end or to the first bad one
-- (B9, B10). Records count from 1, and skipped ones count (B12).
-- Assumes nothing.
use Rattle.std.specs.Prelude.{ℕ, zero, suc, ◌+◌, Bool, cond, ◌&&◌, ◌||◌, List, [], ◌∷◌, length, drop, eqb, leb, ltb, Option, Some, None}
use Rattle.refusal.specs.declared.Refusal.{Refusal}
use Rattle.octets.specs.Runs.{between}
use Rattle.octets.specs.Sets.{has_bit}
use Rattle.octets.specs.LittleEndian.{number_of}
use Rattle.schedule.specs.declared.Stars.{Stars}
use Rattle.schedule.specs.declared.Schedule.{Schedule}
use Rattle.normal.specs.Meanings.{Item, setting, boot, timed}
use Rattle.normal.specs.Proper.{is_item}
use Rattle.records.specs.Refusals.{cut_short, unknown_kind, meaningless}
use Rattle.records.specs.Formats.{timed_kind, boot_kind, setting_kind, zone_kind, kind_of}

-- B1: the number in so many bytes at a place
unfoldable pub number_at : List ℕ → ℕ → ℕ → ℕ
number_at s at size = number_of (between s at (at + size))

-- ---- which records bytes are (B1, B8)

-- B1, B8: kinds and bodies, up to the end or to one that is cut short
pub data Records : Type 0 where
  done : Records
  -- the next one is R22
  cut : Records
  -- kind and body
  next : ℕ → List ℕ → Records → Records

-- B1: the length counts kind and body
abbrev pub length_at : List ℕ → ℕ
length_at s = number_at s 0 2

-- B8: no length, a length below 2, or fewer bytes than it says
unfoldable pub is_cut : List ℕ → Bool
is_cut s = ltb (length s) 2 || (ltb (length_at s) 2 || ltb (length s) (2 + length_at s))

-- B1: the next record, and those after it. A record has bytes, so there are at most as many records.
unfoldable pub records_in : ℕ → List ℕ → Records
records_in zero s = done
records_in (suc most) s =
    let later = records_in most (drop (2 + length_at s) s) in
    cond (eqb (length s) 0) done (cond (is_cut s) cut (next (number_at s 2 2) (between s 4 (2 + length_at s)) later))

-- B1, B8: all records
unfoldable pub split : List ℕ → Records
split s = records_in (length s) s

-- ---- the item of a body: none or one

-- B3: the star flags
unfoldable pub stars_of : ℕ → Stars
stars_of flags =
    record {
      minutes = has_bit flags 0;
      hours = has_bit flags 1;
      days = has_bit flags 2;
      months = has_bit flags 3;
      weekdays = has_bit flags 4;
    }

-- B2: the five sets and star flags
unfoldable pub schedule_at : List ℕ → Schedule
schedule_at s =
    record {
      minutes = number_at s 0 8;
      hours = number_at s 8 4;
      days = number_at s 12 4;
      months = number_at s 16 2;
      weekdays = number_at s 18 1;
      stars = stars_of (number_at s 19 1);
    }

-- B2, B3, B10: a body of kind 1
unfoldable pub timed_in : List ℕ → List Item
timed_in s = cond (leb 20 (length s) && ltb (number_at s 19 1) 32) (timed (schedule_at s) (drop 20 s) ∷ []) []

-- B5, B10: a body of kind 3 or 4
unfoldable pub setting_in : List ℕ → List Item
setting_in s =
    let value = 2 + number_at s 0 2 in
    cond (leb 2 (length s) && leb value (length s)) (setting (between s 2 value) (drop value s) ∷ []) []

-- ---- what one record means

-- B9, B10: what one record means, if anything
pub data Content : Type 0 where
  skipped : Content
  -- R23 or R24
  refused : Refusal → Content
  means : Item → Content

-- B10, R24: of a known kind: a body that is no item's, an item of another kind, or one that no line can mean
unfoldable pub meant : ℕ → List Item → Content
meant kind [] = refused meaningless
meant kind (i ∷ is) = cond (eqb (kind_of i) kind && is_item i) (means i) (refused meaningless)

-- B9: kinds from here on are skipped
abbrev pub skipped_from : ℕ
skipped_from = 32768

-- B9: a kind that is skipped
unfoldable pub is_skipped : ℕ → Bool
is_skipped kind = leb skipped_from kind

-- B9, B10, R23: a record, by its kind and body
unfoldable pub content_of : ℕ → List ℕ → Content
content_of kind body =
    cond (is_skipped kind) skipped
    (cond (eqb kind timed_kind) (meant kind (timed_in body))
    (cond (eqb kind boot_kind) (meant kind (boot body ∷ []))
    (cond (eqb kind setting_kind || eqb kind zone_kind) (meant kind (setting_in body))
    (refused unknown_kind))))

-- ---- what all of them mean

-- B11, B12: items, up to the end or to the first bad record
pub data Decoded : Type 0 where
  done : Decoded
  -- the refusal, and the bad record's number
  fault : Refusal → ℕ → Decoded
  item : Item → Decoded → Decoded

-- B12: record n, and what those after it mean
unfoldable pub after_record : ℕ → Content → Decoded → Decoded
after_record n skipped later = later
after_record n (refused refusal) later = fault refusal n
after_record n (means i) later = item i later

-- B12, R22: records from number n on
unfoldable pub decode_from : ℕ → Records → Decoded
decode_from n done = done
decode_from n cut = fault cut_short n
decode_from n (next kind body later) = after_record n (content_of kind body) (decode_from (n + 1) later)

-- B11, B12: any bytes as records
unfoldable pub decode : List ℕ → Decoded
decode s = decode_from 1 (split s)

-- ---- its items, and its refusal and the bad record's number, if there is one

-- B11: the items
unfoldable pub decoded_items : Decoded → List Item
decoded_items done = []
decoded_items (fault refusal n) = []
decoded_items (item i later) = i ∷ decoded_items later

-- R38: the refusal, if there is one
unfoldable pub decoded_refusal : Decoded → Option Refusal
decoded_refusal done = None
decoded_refusal (fault refusal n) = Some refusal
decoded_refusal (item i later) = decoded_refusal later

-- B12: the bad record's number, 0 if there is none
unfoldable pub decoded_fault : Decoded → ℕ
decoded_fault done = 0
decoded_fault (fault refusal n) = n
decoded_fault (item i later) = decoded_fault later
