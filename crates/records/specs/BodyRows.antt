-- What bodies mean, by kind and body alone: a timed entry's command, a setting and a `CRON_TZ` over all bytes; names that are almost `CRON_TZ`; and
-- lengths at their limits. In the comments `?` is the byte that is tried.
-- Assumes nothing.
use Rattle.std.specs.Prelude.{ℕ, ◌≡◌, refl, Bool, true, false, List, [], ◌∷◌, ◌++◌, map, replicate}
use Rattle.refusal.specs.declared.Refusal.TheVariants.{UnknownKind, Meaningless}
use Rattle.octets.specs.Texts.{text}
use Rattle.octets.specs.Rows.{Hold}
use Rattle.octets.specs.AllBytes.{Range, Lead, one, range, one_of, passing_at, trying}
use Rattle.normal.specs.Meanings.{setting, boot}
use Rattle.records.specs.Formats.{record_of}
use Rattle.records.specs.Readings.{cut, next, Content, skipped, refused, means, content_of, split}
use Rattle.records.specs.Readings.Records.{done}
use Rattle.records.specs.Computing.{coding}

-- ---- kind 1: the command after the twenty bytes of `0 0 1 1 0`

abbrev is_meant : Content → Bool
is_meant skipped = false
is_meant (refused refusal) = false
is_meant (means i) = true

abbrev new_year : List ℕ
new_year = 1 ∷ 0 ∷ 0 ∷ 0 ∷ 0 ∷ 0 ∷ 0 ∷ 0 ∷ 1 ∷ 0 ∷ 0 ∷ 0 ∷ 2 ∷ 0 ∷ 0 ∷ 0 ∷ 2 ∷ 0 ∷ 1 ∷ 0 ∷ []

abbrev in_no_line : List (Range Bool)
in_no_line = range 0 8 false ∷ range 10 31 false ∷ one 127 false ∷ []

-- `?x`, and `x?`
timed-first : Lead (λ b. is_meant (content_of 1 (new_year ++ b ∷ text "x"))) (in_no_line ++ one_of (text " \t") false) (λ b. true)
unfolding trying coding
timed-first = refl

timed-last : Lead (λ b. is_meant (content_of 1 (new_year ++ 120 ∷ b ∷ []))) in_no_line (λ b. true)
unfolding trying coding
timed-last = refl

-- ---- kind 4: `CRON_TZ` and an offset, byte by byte

abbrev is_zone : List ℕ → List ℕ → Bool
is_zone name value = is_meant (content_of 4 (7 ∷ 0 ∷ name ++ value))

abbrev itself : List ℕ → List (List ℕ)
itself s = map (λ b. b ∷ []) s

zone-name : passing_at (λ name. is_zone name (text "+01:30")) (text "CRON_TZ") 0 7 ≡ itself (text "CRON_TZ")
unfolding trying coding
zone-name = refl

zone-value : passing_at (λ value. is_zone (text "CRON_TZ") value) (text "+01:30") 0 6
    ≡ text "+-" ∷ text "01" ∷ text "0123456789" ∷ text ":" ∷ text "012345" ∷ text "0123456789" ∷ []
unfolding trying coding
zone-value = refl

-- kind 3: `?RON_TZ` and `CRON_T?` are names of their own, but for `CRON_TZ` itself
name-first : Lead (λ b. is_meant (content_of 3 (7 ∷ 0 ∷ b ∷ text "RON_TZ+01:30"))) (in_no_line ++ one 67 false ∷ []) (λ b. true)
unfolding trying coding
name-first = refl

name-last : Lead (λ b. is_meant (content_of 3 (7 ∷ 0 ∷ text "CRON_T" ++ b ∷ text "+01:30"))) (in_no_line ++ one 90 false ∷ []) (λ b. true)
unfolding trying coding
name-last = refl

-- ---- by kinds 3 and 4: a name, with its length, and a value

abbrev in_both : (ℕ × List ℕ) × List ℕ → List Content
in_both ((size, name), value) = let body = size ∷ 0 ∷ name ++ value in content_of 3 body ∷ content_of 4 body ∷ []

abbrev none : List Content
none = refused Meaningless ∷ refused Meaningless ∷ []

abbrev plain : List ℕ → List ℕ → List Content
plain name value = means (setting name value) ∷ refused Meaningless ∷ []

abbrev offset : List ℕ → List Content
offset value = refused Meaningless ∷ means (setting (text "CRON_TZ") value) ∷ []

names : Hold in_both
    ((((7, text "CRON_TZ"), text "+14:00"), offset (text "+14:00"))
    ∷ (((7, text "CRON_TZ"), text "-12:00"), offset (text "-12:00"))
    ∷ (((7, text "CRON_TZ"), text "-00:00"), offset (text "-00:00"))
    ∷ (((7, text "CRON_TZ"), text "+14:01"), none)
    ∷ (((7, text "CRON_TZ"), text "-12:01"), none)
    ∷ (((7, text "CRON_TZ"), text "+1:00"), none)
    ∷ (((7, text "CRON_TZ"), text "+01:00 "), none)
    ∷ (((7, text "CRON_TZ"), text " +01:00"), none)
    ∷ (((7, text "CRON_TZ"), text "x"), none)
    ∷ (((7, text "CRON_TZ"), []), none)
    -- almost the name
    ∷ (((6, text "CRON_T"), text "Z+01:00"), plain (text "CRON_T") (text "Z+01:00"))
    ∷ (((8, text "CRON_TZZ"), text "+01:00"), plain (text "CRON_TZZ") (text "+01:00"))
    ∷ (((8, text "CRON_TZ "), text "+01:00"), plain (text "CRON_TZ ") (text "+01:00"))
    ∷ (((8, text " CRON_TZ"), text "+01:00"), plain (text " CRON_TZ") (text "+01:00"))
    ∷ (((9, text "'CRON_TZ'"), text "+01:00"), plain (text "'CRON_TZ'") (text "+01:00"))
    ∷ (((6, text "RON_TZ"), text "+01:00"), plain (text "RON_TZ") (text "+01:00"))
    ∷ (((7, text "cron_tz"), text "+01:00"), plain (text "cron_tz") (text "+01:00"))
    ∷ (((7, text "Cron_TZ"), text "x"), plain (text "Cron_TZ") (text "x"))
    ∷ (((2, text "TZ"), text "+01:00"), plain (text "TZ") (text "+01:00"))
    -- the length of a name: none, the whole body, and one more
    ∷ (((0, []), text "A"), none)
    ∷ (((1, text "A"), []), plain (text "A") [])
    ∷ (((2, text "A"), []), none)
    ∷ (((255, text "A"), []), none)
    ∷ [])
unfolding coding
names = refl

-- in two bytes: 256, 511, and one more than there are
long-names : Hold (content_of 3)
    ((0 ∷ 1 ∷ replicate 256 65, means (setting (replicate 256 65) []))
    ∷ (0 ∷ 1 ∷ replicate 256 65 ++ text "b", means (setting (replicate 256 65) (text "b")))
    ∷ (255 ∷ 1 ∷ replicate 511 65, means (setting (replicate 511 65) []))
    ∷ (0 ∷ 1 ∷ replicate 255 65, refused Meaningless)
    ∷ (0 ∷ 1 ∷ 65 ∷ [], refused Meaningless)
    ∷ (1 ∷ 255 ∷ 65 ∷ [], refused Meaningless)
    ∷ ([], refused Meaningless)
    ∷ (1 ∷ [], refused Meaningless)
    ∷ (0 ∷ 0 ∷ [], refused Meaningless)
    ∷ [])
unfolding coding
long-names = refl

-- ---- kinds: four that are known, and those from 32,768 on, by both of their bytes

kinds : Hold (λ (kind : ℕ). content_of kind (text "x"))
    ((0, refused UnknownKind)
    ∷ (1, refused Meaningless)
    ∷ (2, means (boot (text "x")))
    ∷ (3, refused Meaningless)
    ∷ (4, refused Meaningless)
    ∷ (5, refused UnknownKind)
    ∷ (255, refused UnknownKind)
    ∷ (256, refused UnknownKind)
    ∷ (258, refused UnknownKind)
    ∷ (512, refused UnknownKind)
    ∷ (32766, refused UnknownKind)
    ∷ (32767, refused UnknownKind)
    ∷ (32768, skipped)
    ∷ (32770, skipped)
    ∷ (65535, skipped)
    ∷ [])
unfolding coding
kinds = refl

-- a timed entry has twenty bytes and a command
timed-short : Hold (λ (body : List ℕ). is_meant (content_of 1 body))
    ((new_year ++ text "x", true) ∷ (new_year, false) ∷ (1 ∷ 0 ∷ 0 ∷ 0 ∷ 0 ∷ 0 ∷ 0 ∷ 0 ∷ 1 ∷ 0 ∷ 0 ∷ 0 ∷ 2 ∷ 0 ∷ 0 ∷ 0 ∷ 2 ∷ 0 ∷ 1 ∷ [], false) ∷ ([], false) ∷ [])
unfolding coding
timed-short = refl

-- ---- records whose length has two bytes

long-record : (record_of 2 (replicate 300 120) ≡ 46 ∷ 1 ∷ 2 ∷ 0 ∷ replicate 300 120) × (record_of 65535 (replicate 254 120) ≡ 0 ∷ 1 ∷ 255 ∷ 255 ∷ replicate 254 120)
unfolding coding
long-record = (refl, refl)

splits : Hold split
    ((46 ∷ 1 ∷ 2 ∷ 0 ∷ replicate 300 120, next 2 (replicate 300 120) done)
    ∷ (46 ∷ 1 ∷ 2 ∷ 0 ∷ replicate 299 120, cut)
    ∷ (46 ∷ 1 ∷ 2 ∷ 0 ∷ replicate 301 120, next 2 (replicate 300 120) cut)
    ∷ (2 ∷ 0 ∷ 2 ∷ 1 ∷ 2 ∷ 0 ∷ 0 ∷ 255 ∷ [], next 258 [] (next 65280 [] done))
    ∷ (2 ∷ 0 ∷ 2 ∷ [], cut)
    ∷ (2 ∷ 0 ∷ [], cut)
    ∷ (1 ∷ 0 ∷ 2 ∷ 0 ∷ [], cut)
    ∷ (0 ∷ 0 ∷ 2 ∷ 0 ∷ [], cut)
    ∷ (255 ∷ 255 ∷ 2 ∷ 0 ∷ 120 ∷ [], cut)
    ∷ (0 ∷ [], cut)
    ∷ ([], done)
    ∷ [])
unfolding coding
splits = refl
