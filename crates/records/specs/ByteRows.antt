-- Every decision that a record's next byte makes, over all 256 bytes; and the kinds and refusals whole. In the comments `?` is the byte.
-- In the comments `?` is the byte that is tried.
-- Assumes nothing.
use Rattle.std.specs.Prelude.{ℕ, ◌+◌, ◌*◌, ◌/◌, ◌%◌, ◌≡◌, refl, List, [], ◌∷◌, ◌++◌, replicate, Result, Ok, Err}
use Rattle.refusal.specs.declared.Refusal.{Refusal}
use Rattle.refusal.specs.declared.Refusal.TheVariants.{CutShort, UnknownKind, Meaningless}
use Rattle.refusal.specs.Numbers.{number_of}
use Rattle.octets.specs.Texts.{text}
use Rattle.octets.specs.AllBytes.{Range, Lead, one, range, each, one_of, trying}
use Rattle.records.specs.Refusals.{cut_short, unknown_kind, meaningless}
use Rattle.records.specs.Formats.{timed_kind, boot_kind, setting_kind, zone_kind}
use Rattle.records.specs.Readings.{skipped_from}
use Rattle.records.specs.Calls.{decompiled, record_fault}
use Rattle.records.specs.Computing.{coding}

-- ---- the four kinds, where the skipped ones begin, and the refusals

kinds : timed_kind ∷ boot_kind ∷ setting_kind ∷ zone_kind ∷ skipped_from ∷ [] ≡ 1 ∷ 2 ∷ 3 ∷ 4 ∷ 32768 ∷ []
kinds = refl

refusals : number_of cut_short ∷ number_of unknown_kind ∷ number_of meaningless ∷ [] ≡ 22 ∷ 23 ∷ 24 ∷ []
unfolding number_of
refusals = refl

-- ---- a reader's answer, and the number of the first bad record

abbrev told : List ℕ → Result ℕ Refusal × ℕ
told s = ((decompiled s (replicate 40 0)).answer, record_fault s)

abbrev wrote : ℕ → Result ℕ Refusal × ℕ
wrote n = (Ok n, 0)

-- refused, for the first record
abbrev bad : Refusal → Result ℕ Refusal × ℕ
bad refusal = (Err refusal, 1)

-- ---- length and kind of `@reboot x`

-- 0 and 1 are below 2, 2 leaves no command, and above 3 it is cut short
length-low : Lead (λ b. told (b ∷ 0 ∷ 2 ∷ 0 ∷ text "x")) (one 2 (bad Meaningless) ∷ one 3 (wrote 10) ∷ []) (λ b. bad CutShort)
unfolding trying coding
length-low = refl

length_high : Lead (λ b. told (3 ∷ b ∷ 2 ∷ 0 ∷ text "x")) (one 0 (wrote 10) ∷ []) (λ b. bad CutShort)
unfolding trying coding
length_high = refl

-- no other kind has this body
kind-low : Lead (λ b. told (3 ∷ 0 ∷ b ∷ 0 ∷ text "x")) (one_of (1 ∷ 3 ∷ 4 ∷ []) (bad Meaningless) ++ one 2 (wrote 10) ∷ []) (λ b. bad UnknownKind)
unfolding trying coding
kind-low = refl

-- kinds from 32,768 are skipped
kind-high : Lead (λ b. told (3 ∷ 0 ∷ 2 ∷ b ∷ text "x")) (one 0 (wrote 10) ∷ range 128 255 (wrote 0) ∷ []) (λ b. bad UnknownKind)
unfolding trying coding
kind-high = refl

kind-skipped : Lead (λ b. told (3 ∷ 0 ∷ b ∷ 128 ∷ text "x")) [] (λ b. wrote 0)
unfolding trying coding
kind-skipped = refl

-- ---- bytes of a command: newline, byte 0 and control bytes are in no line, and a blank is no first byte

abbrev in_no_line : List (Range ((Result ℕ Refusal) × ℕ))
in_no_line = range 0 8 (bad Meaningless) ∷ range 10 31 (bad Meaningless) ∷ one 127 (bad Meaningless) ∷ []

command-first : Lead (λ b. told (3 ∷ 0 ∷ 2 ∷ 0 ∷ b ∷ [])) (in_no_line ++ one_of (9 ∷ 32 ∷ []) (bad Meaningless)) (λ b. wrote 10)
unfolding trying coding
command-first = refl

in-command : Lead (λ b. told (4 ∷ 0 ∷ 2 ∷ 0 ∷ 120 ∷ b ∷ [])) in_no_line (λ b. wrote 11)
unfolding trying coding
in-command = refl

-- ---- a setting: the length of its name, `A` and `?` or `AB` and nothing

name-length-low : Lead (λ b. told (6 ∷ 0 ∷ 3 ∷ 0 ∷ b ∷ 0 ∷ text "AB")) (range 1 2 (wrote 4) ∷ []) (λ b. bad Meaningless)
unfolding trying coding
name-length-low = refl

name-length-high : Lead (λ b. told (6 ∷ 0 ∷ 3 ∷ 0 ∷ 1 ∷ b ∷ text "AB")) (one 0 (wrote 4) ∷ []) (λ b. bad Meaningless)
unfolding trying coding
name-length-high = refl

-- the name `?`: in quotes where a line wouldn't read it bare
name-byte : Lead (λ b. told (5 ∷ 0 ∷ 3 ∷ 0 ∷ 1 ∷ 0 ∷ b ∷ []))
    (in_no_line ++ one_of (9 ∷ 32 ∷ text "=\"'#*@") (wrote 5) ++ range 48 57 (wrote 5) ∷ [])
    (λ b. wrote 3)
unfolding trying coding
name-byte = refl

-- after its first byte only blanks, `=` and quotes ask for them
name-second : Lead (λ b. told (6 ∷ 0 ∷ 3 ∷ 0 ∷ 2 ∷ 0 ∷ 65 ∷ b ∷ [])) (in_no_line ++ one_of (9 ∷ 32 ∷ text "=\"'") (wrote 6)) (λ b. wrote 4)
unfolding trying coding
name-second = refl

-- the value `?`, and the value `c?`
value-byte : Lead (λ b. told (6 ∷ 0 ∷ 3 ∷ 0 ∷ 1 ∷ 0 ∷ 65 ∷ b ∷ [])) (in_no_line ++ one_of (9 ∷ 32 ∷ text "\"'") (wrote 6)) (λ b. wrote 4)
unfolding trying coding
value-byte = refl

value-last : Lead (λ b. told (7 ∷ 0 ∷ 3 ∷ 0 ∷ 1 ∷ 0 ∷ 65 ∷ 99 ∷ b ∷ [])) (in_no_line ++ one_of (9 ∷ 32 ∷ []) (wrote 7)) (λ b. wrote 5)
unfolding trying coding
value-last = refl

-- ---- a timed entry, `0 0 1 1 0 x`, by bytes of its sets: bits of no value are zero, and no set is empty

abbrev timed_by : ℕ → ℕ → ℕ → ℕ → ℕ → ℕ → ℕ → List ℕ
timed_by minutes hours days months later weekdays flags =
    23 ∷ 0 ∷ 1 ∷ 0
    ∷ 1 ∷ 0 ∷ 0 ∷ 0 ∷ 0 ∷ 0 ∷ 0 ∷ minutes
    ∷ 1 ∷ 0 ∷ 0 ∷ hours
    ∷ days ∷ 0 ∷ 0 ∷ 0
    ∷ months ∷ later
    ∷ weekdays
    ∷ flags
    ∷ text "x"

-- minutes 60 to 63
minute-bits : Lead (λ b. record_fault (timed_by b 0 2 2 0 1 0)) (range 0 15 0 ∷ []) (λ b. 1)
unfolding trying coding
minute-bits = refl

-- hours 24 to 31
hour-bits : Lead (λ b. record_fault (timed_by 0 b 2 2 0 1 0)) (one 0 0 ∷ []) (λ b. 1)
unfolding trying coding
hour-bits = refl

-- day 0, and none
day-bits : Lead (λ b. record_fault (timed_by 0 0 b 2 0 1 0)) (one 0 1 ∷ each 1 255 (λ b. b % 2) ∷ []) (λ b. 1)
unfolding trying coding
day-bits = refl

-- month 0, and none; and months 13 to 15
month-bits : Lead (λ b. record_fault (timed_by 0 0 2 b 0 1 0)) (one 0 1 ∷ each 1 255 (λ b. b % 2) ∷ []) (λ b. 1)
unfolding trying coding
month-bits = refl

month-more : Lead (λ b. record_fault (timed_by 0 0 2 2 b 1 0)) (range 0 31 0 ∷ []) (λ b. 1)
unfolding trying coding
month-more = refl

-- weekday 7, and none
weekday-bits : Lead (λ b. record_fault (timed_by 0 0 2 2 0 b 0)) (range 1 127 0 ∷ []) (λ b. 1)
unfolding trying coding
weekday-bits = refl

-- five flags: `*/60`, `*/24`, `*/31`, `*/12` and `*/7`, three bytes more each, and two
flag-bits : Lead (λ b. told (timed_by 0 0 2 2 0 1 b))
    (each 0 31 (λ b. wrote (12 + 3 * (b % 2 + b / 2 % 2 + b / 4 % 2 + b / 8 % 2) + 2 * (b / 16))) ∷ [])
    (λ b. bad Meaningless)
unfolding trying coding
flag-bits = refl
