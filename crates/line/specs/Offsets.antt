-- The setting `CRON_TZ` and its offset (O1, O2, O3). Name and value are the shown bytes, without quotes.
-- Assumes nothing.
use Rattle.std.specs.Prelude.{ℕ, ◌+◌, ◌-◌, ◌*◌, Bool, true, cond, ◌&&◌, ◌||◌, List, length, get_or, eqb, leb, ℤ, pos, neg_ℤ, Some, None, Option}
use Rattle.octets.specs.Texts.{text}
use Rattle.field.specs.Numbers.{is_digit}
use Rattle.schedule.specs.Local.{OffsetInRange}
use Rattle.line.specs.Words.{same}

-- O1: the name, in these letters
abbrev pub zone_name : List ℕ
zone_name = text "CRON_TZ"

-- ---- a value

-- O2: ahead of UTC
abbrev plus_sign : ℕ
plus_sign = 43

-- O2: behind UTC
abbrev minus_sign : ℕ
minus_sign = 45

-- O2: between hours and minutes
abbrev colon : ℕ
colon = 58

-- O2: a sign, two digits, a colon, two digits, and nothing else
unfoldable pub is_formed : List ℕ → Bool
is_formed s =
    eqb (length s) 6
    && ((eqb (get_or s 0 0) plus_sign || eqb (get_or s 0 0) minus_sign)
    && ((is_digit (get_or s 1 0) && is_digit (get_or s 2 0))
    && (eqb (get_or s 3 0) colon
    && (is_digit (get_or s 4 0) && is_digit (get_or s 5 0)))))

-- O3: the number of two digits
unfoldable pub two_digits : ℕ → ℕ → ℕ
two_digits tens ones = (tens - 48) * 10 + (ones - 48)

-- O3: those before the colon
unfoldable pub hours_of : List ℕ → ℕ
hours_of s = two_digits (get_or s 1 0) (get_or s 2 0)

-- O2, O3: those after the colon
unfoldable pub rest_of : List ℕ → ℕ
rest_of s = two_digits (get_or s 4 0) (get_or s 5 0)

-- O3: all in minutes, without the sign
unfoldable pub minutes_of : List ℕ → ℕ
minutes_of s = hours_of s * 60 + rest_of s

-- O3: behind UTC
unfoldable pub is_behind : List ℕ → Bool
is_behind s = eqb (get_or s 0 0) minus_sign

-- O2: 12 hours behind UTC, and 14 ahead of it
unfoldable pub furthest : Bool → ℕ
furthest behind = cond behind 720 840

-- O2: whether a value is an offset
unfoldable pub is_offset : List ℕ → Bool
is_offset s = is_formed s && (leb (rest_of s) 59 && leb (minutes_of s) (furthest (is_behind s)))

-- O3: with the sign
unfoldable pub signed : Bool → ℕ → ℤ
signed behind minutes = cond behind (neg_ℤ (pos minutes)) (pos minutes)

-- O3: in minutes; `-00:00` is 0
unfoldable pub offset_of : List ℕ → ℤ
offset_of s = signed (is_behind s) (minutes_of s)

-- O2, O3: any bytes as an offset
unfoldable pub read_offset : List ℕ → Option ℤ
read_offset s = cond (is_offset s) (Some (offset_of s)) None

-- ---- what a setting says of the offset

-- O3: nothing, or an offset that is allowed
abbrev pub Zoned : Option ℤ → Type 0
Zoned None = Unit {0}
Zoned (Some minutes) = OffsetInRange minutes

-- O1: what a setting says of the offset, by its shown name and value
unfoldable pub zone_of : List ℕ → List ℕ → Option ℤ
zone_of name value = cond (same name zone_name) (Some (offset_of value)) None

-- O2, P11: whether a setting isn't R25
unfoldable pub is_allowed_setting : List ℕ → List ℕ → Bool
is_allowed_setting name value = cond (same name zone_name) (is_offset value) true

-- O1: before the first such setting
abbrev pub utc : ℤ
utc = pos 0

-- O1: the offset after a setting, where another was in force before it
unfoldable pub in_force : Option ℤ → ℤ → ℤ
in_force None before = before
in_force (Some minutes) before = minutes
