-- The theorems of records, each used where it says most: each of the four kinds and both directions, the second dialect, any buffers, a list with
-- every kind of record and bytes after it. A theorem that said less would not give these.
-- Assumes nothing.
use Rattle.refusal.specs.declared.Refusal.TheVariants.{Meaningless}
use Rattle.std.specs.Prelude.{Ok}
use mathlib.Core.Path.{◌≡◌, refl}
use mathlib.Core.Bool.{true, false}
use mathlib.Core.List.{List, [], ◌∷◌, ◌++◌}
use Prim.Native.Nat.{ℕ, ◌≤◌}
use native.Mathlib.Omega.{arith}
use lib.ListN.{length, take, replicate}
use Rattle.octets.specs.Texts.{text}
use Rattle.octets.proofs.LittleEndian.{Bytes}
use Rattle.field.specs.declared.Dialect.TheVariants.{Rising, Wrapping}
use Rattle.crontab.specs.Tables.{table_of, refusal_in}
use Rattle.normal.specs.Meanings.{Item, setting, boot, timed, of_user, meaning_of}
use Rattle.normal.specs.Texts.{normal_text}
use Rattle.normal.specs.NormalForms.{normal_form}
use Rattle.records.specs.Readings.{refused, content_of}
use Rattle.records.specs.Calls.{compiled, decompiled}
use Rattle.records.specs.Writers.{LineMeans, Record, Framed, bytes_of, kept, Sent, same, new, as_record, as_records, Writer, items_sent}
use Rattle.records.specs.Computing.{coding}
use Rattle.records.proofs.Theorems.{means-no-line, decompile-compile, decompile-written, compile-decompile, later-writer, skipped-kinds}

-- ---- means-no-line: of each kind, in the second dialect, for every body that a record can have

module _ (body : List ℕ) (bytes : Bytes body) (short : length body ≤ 65533) where
  -- R24, and no line means it
  abbrev NoLine : ℕ → Type 0
  NoLine kind = (line : List ℕ) → LineMeans Wrapping kind body line → ⊥

  pub no-line-used :
      (content_of 1 body ≡ refused Meaningless → NoLine 1)
      × (content_of 2 body ≡ refused Meaningless → NoLine 2)
      × (content_of 3 body ≡ refused Meaningless → NoLine 3)
      × (content_of 4 body ≡ refused Meaningless → NoLine 4)
  no-line-used = (
    (means-no-line Wrapping 1 body bytes short (omega arith) (omega arith)).0,
    (means-no-line Wrapping 2 body bytes short (omega arith) (omega arith)).0,
    (means-no-line Wrapping 3 body bytes short (omega arith) (omega arith)).0,
    (means-no-line Wrapping 4 body bytes short (omega arith) (omega arith)).0,
  )

  pub no-line-refused :
      (NoLine 1 → content_of 1 body ≡ refused Meaningless)
      × (NoLine 2 → content_of 2 body ≡ refused Meaningless)
      × (NoLine 3 → content_of 3 body ≡ refused Meaningless)
      × (NoLine 4 → content_of 4 body ≡ refused Meaningless)
  no-line-refused = (
    (means-no-line Wrapping 1 body bytes short (omega arith) (omega arith)).1,
    (means-no-line Wrapping 2 body bytes short (omega arith) (omega arith)).1,
    (means-no-line Wrapping 3 body bytes short (omega arith) (omega arith)).1,
    (means-no-line Wrapping 4 body bytes short (omega arith) (omega arith)).1,
  )

-- ---- decompile-compile, compile-decompile: any table of the second dialect, and any buffers

module _ (s records texts again : List ℕ) (size : ℕ) (wrote : (compiled Wrapping s records).answer ≡ Ok size) where
  abbrev sent : List ℕ
  sent = take size (compiled Wrapping s records).buffer

  pub decompile-used : decompiled sent texts ≡ normal_form Wrapping s texts
  decompile-used = decompile-compile Wrapping s records texts size wrote

  -- where there is just enough room
  pub decompile-just : length texts ≡ length (normal_text (meaning_of Wrapping s)) → (decompiled sent texts).answer ≡ Ok (length texts)
  decompile-just e = rw e (decompile-written Wrapping s records texts size wrote (omega (arith, e)))

  -- the text, compiled in the first dialect, gives the same records
  pub compile-used : (size' : ℕ) → (decompiled sent texts).answer ≡ Ok size' → compiled Rising (take size' (decompiled sent texts).buffer) again ≡ compiled Wrapping s again
  compile-used size' e = compile-decompile Wrapping Rising s records texts again size size' wrote e

-- ---- a list with every kind of record: 1 to 4, two that are skipped, the first and the last of those

abbrev daily : Item
daily =
    timed
    (record {
      minutes = 1;
      hours = 1;
      days = 4294967294;
      months = 8190;
      weekdays = 127;
      stars = record { minutes = false; hours = false; days = true; months = true; weekdays = true };
    })
    (text "x")

abbrev every : List Sent
every =
    new (record { kind = 32768; body = [] })
    ∷ same (setting (text "A B") (text " c"))
    ∷ same (boot (text "y"))
    ∷ same (setting (text "CRON_TZ") (text "-12:00"))
    ∷ new (record { kind = 65535; body = 1 ∷ 2 ∷ [] })
    ∷ same daily
    ∷ []

abbrev every_text : List ℕ
every_text = text "\"A B\"=\" c\"\n@reboot y\nCRON_TZ=-12:00\n0 0 * * * x\n"

every-kept : Writer every
unfolding as_record coding
every-kept = (
  (λ h k. omega (arith, k)),
  record { kind = omega arith; body = omega arith },
  (
    omega arith,
    record { kind = omega arith; body = omega arith },
    (
      tt,
      record { kind = omega arith; body = omega arith },
      (
        omega arith,
        record { kind = omega arith; body = omega arith },
        (
          (λ h k. omega (arith, k)),
          record { kind = omega arith; body = omega arith },
          (
            record { minutes = omega arith; hours = omega arith; days = omega arith; months = omega arith; weekdays = omega arith },
            record { kind = omega arith; body = omega arith },
            tt,
          ),
        ),
      ),
    ),
  ),
)

-- it is read, in just enough room, to its settings and entries
pub every-read : let f = decompiled (bytes_of (as_records every)) (replicate 48 0) in (f.answer ≡ Ok 48) × (f.buffer ≡ every_text)
unfolding as_records as_record bytes_of coding
every-read = (refl, refl)

-- later-writer: whatever the buffer, what is shown means them in the second dialect too
pub later-used : (buffer : List ℕ) (size : ℕ) → (decompiled (bytes_of (as_records every)) buffer).answer ≡ Ok size
    → let shown = take size (decompiled (bytes_of (as_records every)) buffer).buffer in
    (refusal_in (table_of (of_user Wrapping) shown) ≡ 0)
    × (meaning_of Wrapping shown ≡ setting (text "A B") (text " c") ∷ boot (text "y") ∷ setting (text "CRON_TZ") (text "-12:00") ∷ daily ∷ [])
unfolding items_sent
later-used buffer size e = let w = later-writer Wrapping every buffer size every-kept e in (w.0, w.1)

-- ---- skipped-kinds: records of skipped kinds before, between and after others, whatever comes after all of them

abbrev boot_y : Record
boot_y = record { kind = 2; body = text "y" }

abbrev unknown : Record
unknown = record { kind = 5; body = text "y" }

abbrev mixed : List Record
mixed = record { kind = 65535; body = 1 ∷ 2 ∷ [] } ∷ boot_y ∷ record { kind = 32768; body = [] } ∷ unknown ∷ record { kind = 32770; body = text "y" } ∷ []

abbrev framed : {r : Record} → r.kind ≤ 65535 → length r.body ≤ 65533 → Framed r
framed h k = record { kind = omega arith; body = k }

pub skipped-used : (tail buffer : List ℕ) → decompiled (bytes_of mixed ++ tail) buffer ≡ decompiled (bytes_of (boot_y ∷ unknown ∷ []) ++ tail) buffer
unfolding kept
skipped-used tail buffer =
    skipped-kinds mixed (boot_y ∷ unknown ∷ []) tail buffer
    (framed (omega arith) (omega arith), (framed (omega arith) (omega arith), (framed (omega arith) (omega arith), (framed (omega arith) (omega arith), (framed (omega arith) (omega arith), tt)))))
    (framed (omega arith) (omega arith), (framed (omega arith) (omega arith), tt))
    refl
