-- Records by table bytes and by record bytes, checked by computing.
-- Assumes nothing.
use Rattle.std.specs.Prelude.{◌≡◌, refl, List, [], ◌∷◌, ◌++◌, ℕ, zero, suc, ◌≤◌, length, take, drop, replicate, Result, Ok, Err}
use Rattle.std.proofs.Common.{arith}
use Rattle.refusal.specs.declared.Refusal.{Refusal}
use Rattle.refusal.specs.declared.Refusal.TheVariants.{BadSetting, TooManyEntries, TooShort, TooLong, CutShort, UnknownKind, Meaningless, CutTable}
use Rattle.octets.specs.Texts.{text}
use Rattle.octets.specs.Rows.{Hold}
use Rattle.field.specs.declared.Dialect.TheVariants.{Rising}
use Rattle.schedule.specs.declared.Schedule.{Schedule}
use Rattle.normal.specs.Meanings.{meaning_of, setting, boot}
use Rattle.normal.specs.Meanings as item
use Rattle.records.specs.Formats.{records_of}
use Rattle.records.specs.Calls.{compiled, decompiled, record_fault}
use Rattle.records.specs.Writers.{Record, Framed, kept, Keeps, same, new, ChangesNone}
use Rattle.records.specs.Computing.{coding}

-- ---- the writer

abbrev records : List ℕ → List ℕ
records s = records_of (meaning_of Rising s)

-- length 23 and kind 1; minute 5, hour 4, days 1 to 31, months 1 to 12, weekdays 0 to 6; stars of day, month and weekday; the command
abbrev morning : List ℕ
morning =
    23 ∷ 0 ∷ 1 ∷ 0
    ∷ 32 ∷ 0 ∷ 0 ∷ 0 ∷ 0 ∷ 0 ∷ 0 ∷ 0
    ∷ 16 ∷ 0 ∷ 0 ∷ 0
    ∷ 254 ∷ 255 ∷ 255 ∷ 255
    ∷ 254 ∷ 31
    ∷ 127
    ∷ 28
    ∷ text "x"

tables : Hold records
    (([], [])
    ∷ (text "5 4 * * * x\n", morning)
    -- minute 59 is the fourth bit of the last byte, Sunday is bit 0; stars of minute and hour
    ∷ (
      text "*/59 * 31 12 7 %\n",
      23 ∷ 0 ∷ 1 ∷ 0
          ∷ 1 ∷ 0 ∷ 0 ∷ 0 ∷ 0 ∷ 0 ∷ 0 ∷ 8
          ∷ 255 ∷ 255 ∷ 255 ∷ 0
          ∷ 0 ∷ 0 ∷ 0 ∷ 128
          ∷ 0 ∷ 16
          ∷ 1
          ∷ 3
          ∷ text "%",
    )
    -- the star of the day alone, and of the month alone
    ∷ (
      text "0 0 * 1 0 x\n",
      23 ∷ 0 ∷ 1 ∷ 0 ∷ 1 ∷ 0 ∷ 0 ∷ 0 ∷ 0 ∷ 0 ∷ 0 ∷ 0 ∷ 1 ∷ 0 ∷ 0 ∷ 0 ∷ 254 ∷ 255 ∷ 255 ∷ 255 ∷ 2 ∷ 0 ∷ 1 ∷ 4 ∷ text "x",
    )
    ∷ (
      text "0 0 1 * 0 x\n",
      23 ∷ 0 ∷ 1 ∷ 0 ∷ 1 ∷ 0 ∷ 0 ∷ 0 ∷ 0 ∷ 0 ∷ 0 ∷ 0 ∷ 1 ∷ 0 ∷ 0 ∷ 0 ∷ 2 ∷ 0 ∷ 0 ∷ 0 ∷ 254 ∷ 31 ∷ 1 ∷ 8 ∷ text "x",
    )
    -- kind 2
    ∷ (text "@reboot  x y \n", 6 ∷ 0 ∷ 2 ∷ 0 ∷ text "x y ")
    -- kind 3: a name of 2 bytes, and the value without its quotes
    ∷ (text "AB = 'cd '\n", 9 ∷ 0 ∷ 3 ∷ 0 ∷ 2 ∷ 0 ∷ text "ABcd ")
    -- kind 4, with kind 3's body
    ∷ (text "\"CRON_TZ\" = +05:30\n", 17 ∷ 0 ∷ 4 ∷ 0 ∷ 7 ∷ 0 ∷ text "CRON_TZ+05:30")
    ∷ (text "CRON_T=+05:30\n", 16 ∷ 0 ∷ 3 ∷ 0 ∷ 6 ∷ 0 ∷ text "CRON_T+05:30")
    -- in order, without comments
    ∷ (text "#\nA=\n@reboot x\nA=\n", text "" ++ (5 ∷ 0 ∷ 3 ∷ 0 ∷ 1 ∷ 0 ∷ 65 ∷ 3 ∷ 0 ∷ 2 ∷ 0 ∷ 120 ∷ 5 ∷ 0 ∷ 3 ∷ 0 ∷ 1 ∷ 0 ∷ 65 ∷ []))
    ∷ [])
unfolding coding
tables = refl

times : ℕ → List ℕ → List ℕ
times zero s = []
times (suc n) s = s ++ times n s

-- a line that is written in 178 bytes and n more
abbrev long : ℕ → List ℕ
long n = text "0-59 * * * * " ++ replicate n 97

abbrev compile : List ℕ × List ℕ → Result ℕ Refusal × List ℕ
compile (s, buffer) = let f = compiled Rising s buffer in (f.answer, f.buffer)

calls : Hold compile
    (((text "@reboot x\n", text "123456"), (Ok 5, 3 ∷ 0 ∷ 2 ∷ 0 ∷ 120 ∷ text "6"))
    ∷ ((text "@reboot x\n", text "1234"), (Err TooShort, text "1234"))
    ∷ ((text "A\n", text "1234"), (Err BadSetting, text "1234"))
    ∷ ((text "@reboot x", text "1234"), (Err CutTable, text "1234"))
    -- its line would be written in 1,001 bytes
    ∷ ((text "0-59 * * * * " ++ replicate 823 97 ++ text "\n", text "1"), (Err TooLong, text "1"))
    -- the table's refusal comes before it
    ∷ ((long 823 ++ text "\nA\n", []), (Err BadSetting, []))
    -- 49 lines of 1,001 written bytes are a table, and 50 aren't
    ∷ ((times 49 (long 822 ++ text "\n"), []), (Err TooShort, []))
    ∷ ((times 50 (long 822 ++ text "\n"), []), (Err TooLong, []))
    ∷ [])
unfolding times coding
calls = refl

-- ---- the reader: the answer and the buffer, and the first bad record

abbrev decompile : List ℕ → Result ℕ Refusal × List ℕ × ℕ
decompile s = let f = decompiled s (text "123456789012") in (f.answer, f.buffer, record_fault s)

-- refused, for a record
abbrev bad : Refusal → ℕ → Result ℕ Refusal × List ℕ × ℕ
bad refusal n = (Err refusal, text "123456789012", n)

-- `@reboot x`
abbrev good : List ℕ
good = 3 ∷ 0 ∷ 2 ∷ 0 ∷ 120 ∷ []

read : Hold decompile
    (([], (Ok 0, text "123456789012", 0))
    ∷ (morning, (Ok 12, text "5 4 * * * x\n", 0))
    ∷ (good, (Ok 10, text "@reboot x\n12", 0))
    ∷ (7 ∷ 0 ∷ 3 ∷ 0 ∷ 1 ∷ 0 ∷ text "Ab ", (Ok 7, text "A=\"b \"\n89012", 0))
    -- kinds from 32,768 are skipped, and count
    ∷ (2 ∷ 0 ∷ 0 ∷ 128 ∷ good, (Ok 10, text "@reboot x\n12", 0))
    ∷ (4 ∷ 0 ∷ 255 ∷ 255 ∷ 1 ∷ 2 ∷ 1 ∷ [], bad CutShort 2)
    -- R22: no length, one below 2, fewer bytes than it says, whatever the kind
    ∷ (3 ∷ [], bad CutShort 1)
    ∷ (1 ∷ 0 ∷ 2 ∷ [], bad CutShort 1)
    ∷ (4 ∷ 0 ∷ 2 ∷ 0 ∷ 120 ∷ [], bad CutShort 1)
    ∷ (3 ∷ 0 ∷ 9 ∷ 0 ∷ [], bad CutShort 1)
    -- R23: kinds 0 and 5, and the last below 32,768
    ∷ (2 ∷ 0 ∷ 0 ∷ 0 ∷ [], bad UnknownKind 1)
    ∷ (good ++ (2 ∷ 0 ∷ 5 ∷ 0 ∷ []), bad UnknownKind 2)
    ∷ (2 ∷ 0 ∷ 255 ∷ 127 ∷ [], bad UnknownKind 1)
    -- R24: a body too short; a command that is empty or starts with a blank; a newline, and byte 0
    ∷ (3 ∷ 0 ∷ 1 ∷ 0 ∷ 120 ∷ [], bad Meaningless 1)
    ∷ (2 ∷ 0 ∷ 2 ∷ 0 ∷ [], bad Meaningless 1)
    ∷ (3 ∷ 0 ∷ 2 ∷ 0 ∷ 32 ∷ [], bad Meaningless 1)
    ∷ (4 ∷ 0 ∷ 2 ∷ 0 ∷ 120 ∷ 10 ∷ [], bad Meaningless 1)
    ∷ (4 ∷ 0 ∷ 2 ∷ 0 ∷ 120 ∷ 0 ∷ [], bad Meaningless 1)
    -- P11: a control byte in a command, of kind 1 too, in a name and in a value, but not a tab or a byte from 128 on
    ∷ (4 ∷ 0 ∷ 2 ∷ 0 ∷ 120 ∷ 13 ∷ [], bad Meaningless 1)
    ∷ (23 ∷ 0 ∷ 1 ∷ 0 ∷ take 20 (drop 4 morning) ++ 127 ∷ [], bad Meaningless 1)
    ∷ (6 ∷ 0 ∷ 3 ∷ 0 ∷ 1 ∷ 0 ∷ 1 ∷ 65 ∷ [], bad Meaningless 1)
    ∷ (6 ∷ 0 ∷ 3 ∷ 0 ∷ 1 ∷ 0 ∷ 65 ∷ 31 ∷ [], bad Meaningless 1)
    ∷ (5 ∷ 0 ∷ 2 ∷ 0 ∷ 120 ∷ 9 ∷ 128 ∷ [], (Ok 12, text "@reboot x\t" ++ 128 ∷ 10 ∷ [], 0))
    -- no name length, an empty name, a name past the body
    ∷ (3 ∷ 0 ∷ 3 ∷ 0 ∷ 1 ∷ [], bad Meaningless 1)
    ∷ (5 ∷ 0 ∷ 3 ∷ 0 ∷ 0 ∷ 0 ∷ 65 ∷ [], bad Meaningless 1)
    ∷ (5 ∷ 0 ∷ 3 ∷ 0 ∷ 2 ∷ 0 ∷ 65 ∷ [], bad Meaningless 1)
    -- a name and a value that no quotes can hold
    ∷ (6 ∷ 0 ∷ 3 ∷ 0 ∷ 2 ∷ 0 ∷ text "\"'", bad Meaningless 1)
    ∷ (7 ∷ 0 ∷ 3 ∷ 0 ∷ 1 ∷ 0 ∷ text "A\"'", bad Meaningless 1)
    -- kind 4 with another name, kind 3 with `CRON_TZ`, and a kind 4 whose value is no offset
    ∷ (6 ∷ 0 ∷ 4 ∷ 0 ∷ 1 ∷ 0 ∷ text "A1", bad Meaningless 1)
    ∷ (17 ∷ 0 ∷ 3 ∷ 0 ∷ 7 ∷ 0 ∷ text "CRON_TZ+01:00", bad Meaningless 1)
    ∷ (17 ∷ 0 ∷ 4 ∷ 0 ∷ 7 ∷ 0 ∷ text "CRON_TZ+1:000", bad Meaningless 1)
    -- which is 15 bytes long
    ∷ (17 ∷ 0 ∷ 4 ∷ 0 ∷ 7 ∷ 0 ∷ text "CRON_TZ+01:00", bad TooShort 0)
    -- the first bad record, and its first refusal
    ∷ (2 ∷ 0 ∷ 9 ∷ 0 ∷ 2 ∷ 0 ∷ 2 ∷ 0 ∷ 1 ∷ [], bad UnknownKind 1)
    -- a length of 0; a record that would be skipped, cut short
    ∷ (0 ∷ 0 ∷ [], bad CutShort 1)
    ∷ (3 ∷ 0 ∷ 0 ∷ 128 ∷ [], bad CutShort 1)
    -- an entry whose line would have 1,001 bytes; one entry too many, which comes before it; a bad record, which comes before all of them
    ∷ (227 ∷ 3 ∷ 2 ∷ 0 ∷ replicate 993 120, bad TooLong 0)
    ∷ (227 ∷ 3 ∷ 2 ∷ 0 ∷ replicate 993 120 ++ times 512 good, bad TooManyEntries 0)
    ∷ (227 ∷ 3 ∷ 2 ∷ 0 ∷ replicate 993 120 ++ times 512 good ++ (2 ∷ 0 ∷ 9 ∷ 0 ∷ []), bad UnknownKind 514)
    -- a buffer that is too short
    ∷ (good ++ good, (Err TooShort, text "123456789012", 0))
    ∷ [])
unfolding times coding
read = refl

-- the sets and the flags of a timed entry, each of them wrong
abbrev timed : List ℕ → Result ℕ Refusal
timed schedule = (decompiled (23 ∷ 0 ∷ 1 ∷ 0 ∷ schedule ++ text "x") (text "123456789012")).answer

sets : Hold timed
    -- 0 0 1 1 0
    ((1 ∷ 0 ∷ 0 ∷ 0 ∷ 0 ∷ 0 ∷ 0 ∷ 0 ∷ 1 ∷ 0 ∷ 0 ∷ 0 ∷ 2 ∷ 0 ∷ 0 ∷ 0 ∷ 2 ∷ 0 ∷ 1 ∷ 0 ∷ [], Ok 12)
    -- an empty set; minute 60, hour 24, day 0, month 0, weekday 7
    ∷ (0 ∷ 0 ∷ 0 ∷ 0 ∷ 0 ∷ 0 ∷ 0 ∷ 0 ∷ 1 ∷ 0 ∷ 0 ∷ 0 ∷ 2 ∷ 0 ∷ 0 ∷ 0 ∷ 2 ∷ 0 ∷ 1 ∷ 0 ∷ [], Err Meaningless)
    ∷ (0 ∷ 0 ∷ 0 ∷ 0 ∷ 0 ∷ 0 ∷ 0 ∷ 16 ∷ 1 ∷ 0 ∷ 0 ∷ 0 ∷ 2 ∷ 0 ∷ 0 ∷ 0 ∷ 2 ∷ 0 ∷ 1 ∷ 0 ∷ [], Err Meaningless)
    ∷ (1 ∷ 0 ∷ 0 ∷ 0 ∷ 0 ∷ 0 ∷ 0 ∷ 0 ∷ 0 ∷ 0 ∷ 0 ∷ 1 ∷ 2 ∷ 0 ∷ 0 ∷ 0 ∷ 2 ∷ 0 ∷ 1 ∷ 0 ∷ [], Err Meaningless)
    ∷ (1 ∷ 0 ∷ 0 ∷ 0 ∷ 0 ∷ 0 ∷ 0 ∷ 0 ∷ 1 ∷ 0 ∷ 0 ∷ 0 ∷ 1 ∷ 0 ∷ 0 ∷ 0 ∷ 2 ∷ 0 ∷ 1 ∷ 0 ∷ [], Err Meaningless)
    ∷ (1 ∷ 0 ∷ 0 ∷ 0 ∷ 0 ∷ 0 ∷ 0 ∷ 0 ∷ 1 ∷ 0 ∷ 0 ∷ 0 ∷ 2 ∷ 0 ∷ 0 ∷ 0 ∷ 1 ∷ 0 ∷ 1 ∷ 0 ∷ [], Err Meaningless)
    ∷ (1 ∷ 0 ∷ 0 ∷ 0 ∷ 0 ∷ 0 ∷ 0 ∷ 0 ∷ 1 ∷ 0 ∷ 0 ∷ 0 ∷ 2 ∷ 0 ∷ 0 ∷ 0 ∷ 2 ∷ 0 ∷ 128 ∷ 0 ∷ [], Err Meaningless)
    -- `*/7` gives Sunday alone, which takes 14 bytes; no step gives minute 1 alone; a flag above the fifth
    ∷ (1 ∷ 0 ∷ 0 ∷ 0 ∷ 0 ∷ 0 ∷ 0 ∷ 0 ∷ 1 ∷ 0 ∷ 0 ∷ 0 ∷ 2 ∷ 0 ∷ 0 ∷ 0 ∷ 2 ∷ 0 ∷ 1 ∷ 16 ∷ [], Err TooShort)
    ∷ (2 ∷ 0 ∷ 0 ∷ 0 ∷ 0 ∷ 0 ∷ 0 ∷ 0 ∷ 1 ∷ 0 ∷ 0 ∷ 0 ∷ 2 ∷ 0 ∷ 0 ∷ 0 ∷ 2 ∷ 0 ∷ 1 ∷ 1 ∷ [], Err Meaningless)
    ∷ (1 ∷ 0 ∷ 0 ∷ 0 ∷ 0 ∷ 0 ∷ 0 ∷ 0 ∷ 1 ∷ 0 ∷ 0 ∷ 0 ∷ 2 ∷ 0 ∷ 0 ∷ 0 ∷ 2 ∷ 0 ∷ 1 ∷ 32 ∷ [], Err Meaningless)
    ∷ [])
unfolding coding
sets = refl

-- a later writer may send any other kind: 0, 5 and the last below 32,768 too, which today's reader refuses
later-kinds :
    Keeps (new (record { kind = 0; body = [] })) × Keeps (new (record { kind = 5; body = [] })) × Keeps (new (record { kind = 32767; body = [] }))
later-kinds = ((λ h k. omega (arith, h)), (λ h k. omega (arith, k)), (λ h k. omega (arith, k)))

-- and every setting and every entry that the bytes of a body can say, however long
later-settings : (name value : List ℕ) → length name ≤ 65535 → Keeps (same (setting name value))
later-settings name value h = omega (arith, h)

later-boots : (command : List ℕ) → Keeps (same (boot command))
later-boots command = tt

later-entries : (s : Schedule) (command : List ℕ)
    → s.minutes ≤ 18446744073709551615 → s.hours ≤ 4294967295 → s.days ≤ 4294967295 → s.months ≤ 65535 → s.weekdays ≤ 255
    → Keeps (same (item.timed s command))
later-entries s command a b c d e =
    record { minutes = omega (arith, a); hours = omega (arith, b); days = omega (arith, c); months = omega (arith, d); weekdays = omega (arith, e) }

-- in records of any kind, and as long as two bytes of length can say
later-frames : (body : List ℕ) → length body ≤ 65533 → Framed (record { kind = 65535; body = body })
later-frames body h = record { kind = omega arith; body = omega (arith, h) }

-- kinds from 32,768 on are taken out, and no other
abbrev of_kind : ℕ → Record
of_kind kind = record { kind = kind; body = [] }

taken_out : kept (of_kind 32767 ∷ of_kind 32768 ∷ of_kind 0 ∷ of_kind 65535 ∷ of_kind 4 ∷ []) ≡ of_kind 32767 ∷ of_kind 0 ∷ of_kind 4 ∷ []
unfolding kept
taken_out = refl

-- and only they change no entry
changes-some : ChangesNone (same (boot (text "x")) ∷ new (of_kind 32768) ∷ new (of_kind 32767) ∷ []) → ⊥
changes-some (h, (k, r)) = omega (arith, k)
