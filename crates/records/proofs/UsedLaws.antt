-- The laws of records' bytes and of the two calls, for any sets and any buffers, and at each set's last value; what they need is all that is said here.
-- Assumes nothing.
use Rattle.refusal.specs.declared.Refusal.{Refusal}
use Rattle.refusal.specs.declared.Refusal.TheVariants.{TooLong, TooShort, TooManyEntries}
use Rattle.std.specs.Prelude.{Option, Some, None, Ok, Err}
use mathlib.Core.Path.{◌≡◌, ◌∙◌}
use mathlib.Core.Bool.{Bool, true, false}
use mathlib.Core.List.{List, ◌++◌}
use Prim.Native.Nat.{ℕ, ◌+◌, ◌*◌, ◌/◌, ◌%◌, ◌≤◌, ◌<◌}
use native.Mathlib.Omega.{arith}
use lib.ListN.{length, get_or, drop}
use Rattle.octets.proofs.Written.{fills}
use Rattle.octets.specs.Sets.{has_bit}
use Rattle.field.specs.declared.Dialect.{Dialect}
use Rattle.field.specs.declared.Dialect.TheVariants.{Wrapping}
use Rattle.schedule.specs.declared.Schedule.{Schedule}
use Rattle.crontab.specs.declared.table.TableFault.{TableFault}
use Rattle.crontab.specs.Tables.{table_of, refusal_in}
use Rattle.normal.specs.Meanings.{setting, boot, timed, entries_in, of_user, meaning_of}
use Rattle.normal.specs.Texts.{normal_text, fits}
use Rattle.records.specs.Formats.{record_of, body_of, records_of}
use Rattle.records.specs.Readings.{decode, decoded_items, decoded_refusal}
use Rattle.records.specs.Calls.{compiled, decompiled}
use Rattle.records.proofs.ByteLayout.{minute-bits, hour-bits, day-bits, month-bits, weekday-bits, flag-bits, timed-command, setting-bytes, boot-bytes, record-bytes}
use Rattle.records.proofs.Composition.{compile-refuses, compile-too-long, compile-no-room, compile-writes, decompile-refuses, decompile-too-many, decompile-too-long, decompile-no-room, decompile-writes}

-- ---- bytes

module _ (s : Schedule) (command : List ℕ) where
  abbrev body : List ℕ
  body = body_of (timed s command)

  -- minute-bits, hour-bits, day-bits, month-bits, weekday-bits
  pub bits-used :
      ((v : ℕ) → v < 64 → has_bit (get_or body (v / 8) 0) (v % 8) ≡ has_bit s.minutes v)
      × ((v : ℕ) → v < 32 → has_bit (get_or body (8 + v / 8) 0) (v % 8) ≡ has_bit s.hours v)
      × ((v : ℕ) → v < 32 → has_bit (get_or body (12 + v / 8) 0) (v % 8) ≡ has_bit s.days v)
      × ((v : ℕ) → v < 16 → has_bit (get_or body (16 + v / 8) 0) (v % 8) ≡ has_bit s.months v)
      × ((v : ℕ) → v < 8 → has_bit (get_or body 18 0) v ≡ has_bit s.weekdays v)
  bits-used = (minute-bits s command, hour-bits s command, day-bits s command, month-bits s command, weekday-bits s command)

  -- minute 59, hour 23, day 31, month 12 and Saturday, each in the byte and bit where it stands
  pub last-bits :
      (has_bit (get_or body 7 0) 3 ≡ has_bit s.minutes 59)
      × (has_bit (get_or body 10 0) 7 ≡ has_bit s.hours 23)
      × (has_bit (get_or body 15 0) 7 ≡ has_bit s.days 31)
      × (has_bit (get_or body 17 0) 4 ≡ has_bit s.months 12)
      × (has_bit (get_or body 18 0) 6 ≡ has_bit s.weekdays 6)
  last-bits =
      (minute-bits s command 59 (omega arith), hour-bits s command 23 (omega arith), day-bits s command 31 (omega arith), month-bits s command 12 (omega arith), weekday-bits s command 6 (omega arith))

  -- flag-bits, timed-command
  pub flags-used : (get_or body 19 0 < 32)
      × (has_bit (get_or body 19 0) 0 ≡ s.stars.minutes)
      × (has_bit (get_or body 19 0) 1 ≡ s.stars.hours)
      × (has_bit (get_or body 19 0) 2 ≡ s.stars.days)
      × (has_bit (get_or body 19 0) 3 ≡ s.stars.months)
      × (has_bit (get_or body 19 0) 4 ≡ s.stars.weekdays)
  flags-used = flag-bits s command

  pub command-used : drop 20 body ≡ command
  command-used = timed-command s command

-- setting-bytes: the longest name that two bytes can count; boot-bytes
pub setting-used : (name value : List ℕ) → length name ≡ 65535
    → let b = body_of (setting name value) in (get_or b 0 0 + 256 * get_or b 1 0 ≡ 65535) × (get_or b 0 0 < 256) × (drop 2 b ≡ name ++ value)
setting-used name value e = let r = setting-bytes name value (omega arith) in (r.0 ∙ e, r.1, r.2)

pub boot-used : (command : List ℕ) → body_of (boot command) ≡ command
boot-used command = boot-bytes command

-- record-bytes: the last kind and the longest body
pub record-used : (body : List ℕ) → length body ≡ 65533
    → let r = record_of 65535 body in
    (get_or r 0 0 + 256 * get_or r 1 0 ≡ 65535) × (get_or r 0 0 < 256) × (get_or r 2 0 + 256 * get_or r 3 0 ≡ 65535) × (get_or r 2 0 < 256) × (drop 4 r ≡ body)
record-used body e = let r = record-bytes 65535 body (omega arith) (omega arith) in (omega (arith, r.0, e), r.1, r.2, r.3, r.4)

-- ---- the two calls

module _ (d : Dialect) (s buffer : List ℕ) where
  abbrev sent : List ℕ
  sent = records_of (meaning_of d s)

  abbrev refusal : ℕ
  refusal = refusal_in (table_of (of_user d) s)

  -- compile-refuses, compile-too-long, compile-no-room, compile-writes
  pub compile-used :
      ((f : TableFault) → table_of (of_user d) s ≡ Err f → compiled d s buffer ≡ record { answer = Err f.refusal; buffer = buffer })
      × (refusal ≡ 0 → fits (meaning_of d s) ≡ false → compiled d s buffer ≡ record { answer = Err TooLong; buffer = buffer })
      × (refusal ≡ 0 → fits (meaning_of d s) ≡ true → length buffer < length sent → compiled d s buffer ≡ record { answer = Err TooShort; buffer = buffer })
      × (refusal ≡ 0 → fits (meaning_of d s) ≡ true → length sent ≤ length buffer
      → compiled d s buffer ≡ record { answer = Ok (length sent); buffer = sent ++ drop (length sent) buffer })
  compile-used = (compile-refuses d s buffer, compile-too-long d s buffer, compile-no-room d s buffer, compile-writes d s buffer)

-- in the second dialect, with just enough room, and with a byte less
pub compile-room : (s buffer : List ℕ) → refusal_in (table_of (of_user Wrapping) s) ≡ 0 → fits (meaning_of Wrapping s) ≡ true
    → let sent = records_of (meaning_of Wrapping s) in
    (length buffer ≡ length sent → compiled Wrapping s buffer ≡ record { answer = Ok (length sent); buffer = sent })
    × (length buffer + 1 ≡ length sent → compiled Wrapping s buffer ≡ record { answer = Err TooShort; buffer = buffer })
compile-room s buffer good fit =
    let sent = records_of (meaning_of Wrapping s) in (
      (λ e. rw (fills sent buffer e) at (compile-writes Wrapping s buffer good fit (omega (arith, e)))),
      (λ e. compile-no-room Wrapping s buffer good fit (omega (arith, e))),
    )

module _ (s buffer : List ℕ) where
  abbrev normal : List ℕ
  normal = normal_text (decoded_items (decode s))

  abbrev fault : Option Refusal
  fault = decoded_refusal (decode s)

  abbrev count : ℕ
  count = entries_in (decoded_items (decode s))

  abbrev whole : Bool
  whole = fits (decoded_items (decode s))

  -- decompile-refuses, decompile-too-many, decompile-too-long, decompile-no-room, decompile-writes
  pub decompile-used :
      ((refusal : Refusal) → fault ≡ Some refusal → decompiled s buffer ≡ record { answer = Err refusal; buffer = buffer })
      × (fault ≡ None → 512 < count → decompiled s buffer ≡ record { answer = Err TooManyEntries; buffer = buffer })
      × (fault ≡ None → count ≤ 512 → whole ≡ false → decompiled s buffer ≡ record { answer = Err TooLong; buffer = buffer })
      × (fault ≡ None → count ≤ 512 → whole ≡ true → length buffer < length normal → decompiled s buffer ≡ record { answer = Err TooShort; buffer = buffer })
      × (fault ≡ None → count ≤ 512 → whole ≡ true → length normal ≤ length buffer
      → decompiled s buffer ≡ record { answer = Ok (length normal); buffer = normal ++ drop (length normal) buffer })
  decompile-used = (decompile-refuses s buffer, decompile-too-many s buffer, decompile-too-long s buffer, decompile-no-room s buffer, decompile-writes s buffer)

  -- 512 entries, with just enough room, and with a byte less
  pub decompile-room : fault ≡ None → count ≡ 512 → whole ≡ true
      → (length buffer ≡ length normal → decompiled s buffer ≡ record { answer = Ok (length normal); buffer = normal })
      × (length buffer + 1 ≡ length normal → decompiled s buffer ≡ record { answer = Err TooShort; buffer = buffer })
  decompile-room good few fit = (
    (λ e. rw (fills normal buffer e) at (decompile-writes s buffer good (omega (arith, few)) fit (omega (arith, e)))),
    (λ e. decompile-no-room s buffer good (omega (arith, few)) fit (omega (arith, e))),
  )
