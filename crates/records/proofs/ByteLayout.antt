-- Where each number is in a record, by its bytes alone (B1, B2): minutes in 8 bytes, hours in 4, days in 4, months in 2, weekdays in 1, flags in 1, and bit n is
-- value n, for any sets; the lengths and the kind in two bytes, for any body.
-- Assumes nothing.
use mathlib.Core.Path.{◌≡◌, refl, sym, ap, ◌∙◌}
use mathlib.Core.List.{List, ◌++◌, append_assoc}
use Prim.Native.Nat.{ℕ, ◌+◌, ◌*◌, ◌/◌, ◌%◌, ◌≤◌, ◌<◌}
use native.Mathlib.Omega.{arith}
use lib.ListN.{length, get_or, drop, get_or-append}
use lib.Seq.{get_or-append-add}
use Rattle.octets.specs.Sets.{has_bit}
use Rattle.octets.specs.LittleEndian.{little_endian}
use Rattle.octets.proofs.LittleEndian.{length-little_endian}
use Rattle.octets.proofs.ByteOrder.{byte-has}
use Rattle.schedule.specs.declared.Stars.{Stars}
use Rattle.schedule.specs.declared.Schedule.{Schedule}
use Rattle.normal.specs.Meanings.{setting, boot, timed}
use Rattle.records.specs.Formats.{flags_of, schedule_bytes, record_of, body_of}
use Rattle.records.specs.Readings.{stars_of}
use Rattle.records.specs.Writers.{longest_body}
use Rattle.records.proofs.Bodies.{flags-small, stars-back}

-- ---- bytes of a number, and what comes after them

module _ (k n : ℕ) (rest : List ℕ) where
  byte-here : (v : ℕ) → v < 8 * k → has_bit (get_or (little_endian k n ++ rest) (v / 8) 0) (v % 8) ≡ has_bit n v
  byte-here v h =
      let e : 8 * (v / 8) + v % 8 ≡ v = omega arith in
      ap (λ (b : ℕ). has_bit b (v % 8)) (get_or-append (little_endian k n) rest 0 (v / 8) (omega (arith, length-little_endian k n)))
      ∙ byte-has k n (v / 8) (v % 8) (omega arith) (omega arith)
      ∙ ap (has_bit n) e

  byte_past : (i : ℕ) → get_or (little_endian k n ++ rest) (k + i) 0 ≡ get_or rest i 0
  byte_past i = ap (λ (m : ℕ). get_or (little_endian k n ++ rest) (m + i) 0) (sym (length-little_endian k n)) ∙ get_or-append-add (little_endian k n) rest i 0

-- ---- a timed entry

module _ (s : Schedule) (command : List ℕ) where
  -- its parts, from each on
  from-flags : List ℕ
  from-flags = little_endian 1 (flags_of s.stars) ++ command

  from-weekdays : List ℕ
  from-weekdays = little_endian 1 s.weekdays ++ from-flags

  from-months : List ℕ
  from-months = little_endian 2 s.months ++ from-weekdays

  from-days : List ℕ
  from-days = little_endian 4 s.days ++ from-months

  from-hours : List ℕ
  from-hours = little_endian 4 s.hours ++ from-days

  abbrev body : List ℕ
  body = body_of (timed s command)

  parts : body ≡ little_endian 8 s.minutes ++ from-hours
  unfolding body_of schedule_bytes from-hours from-days from-months from-weekdays from-flags
  parts = simp append_assoc refl

  byte_at : (i : ℕ) → get_or body (8 + i) 0 ≡ get_or from-hours i 0
  byte_at i = ap (λ (t : List ℕ). get_or t (8 + i) 0) parts ∙ byte_past 8 s.minutes from-hours i

  at-hours : (i : ℕ) → get_or from-hours (4 + i) 0 ≡ get_or from-days i 0
  unfolding from-hours
  at-hours i = byte_past 4 s.hours from-days i

  at-days : (i : ℕ) → get_or from-days (4 + i) 0 ≡ get_or from-months i 0
  unfolding from-days
  at-days i = byte_past 4 s.days from-months i

  at-months : (i : ℕ) → get_or from-months (2 + i) 0 ≡ get_or from-weekdays i 0
  unfolding from-months
  at-months i = byte_past 2 s.months from-weekdays i

  at-weekdays : (i : ℕ) → get_or from-weekdays (1 + i) 0 ≡ get_or from-flags i 0
  unfolding from-weekdays
  at-weekdays i = byte_past 1 s.weekdays from-flags i

  byte-days : (i : ℕ) → get_or body (12 + i) 0 ≡ get_or from-days i 0
  byte-days i = ap (λ (n : ℕ). get_or body n 0) (let e : 12 + i ≡ 8 + (4 + i) = omega arith in e) ∙ byte_at (4 + i) ∙ at-hours i

  byte-months : (i : ℕ) → get_or body (16 + i) 0 ≡ get_or from-months i 0
  byte-months i = ap (λ (n : ℕ). get_or body n 0) (let e : 16 + i ≡ 12 + (4 + i) = omega arith in e) ∙ byte-days (4 + i) ∙ at-days i

  byte-weekdays : (i : ℕ) → get_or body (18 + i) 0 ≡ get_or from-weekdays i 0
  byte-weekdays i = ap (λ (n : ℕ). get_or body n 0) (let e : 18 + i ≡ 16 + (2 + i) = omega arith in e) ∙ byte-months (2 + i) ∙ at-months i

  byte-flags : (i : ℕ) → get_or body (19 + i) 0 ≡ get_or from-flags i 0
  byte-flags i = ap (λ (n : ℕ). get_or body n 0) (let e : 19 + i ≡ 18 + (1 + i) = omega arith in e) ∙ byte-weekdays (1 + i) ∙ at-weekdays i

  -- value v of a set is bit v % 8 of byte v / 8 from the set's first byte on
  pub minute-bits : (v : ℕ) → v < 64 → has_bit (get_or body (v / 8) 0) (v % 8) ≡ has_bit s.minutes v
  minute-bits v h = ap (λ (t : List ℕ). has_bit (get_or t (v / 8) 0) (v % 8)) parts ∙ byte-here 8 s.minutes from-hours v (omega arith)

  pub hour-bits : (v : ℕ) → v < 32 → has_bit (get_or body (8 + v / 8) 0) (v % 8) ≡ has_bit s.hours v
  unfolding from-hours
  hour-bits v h = ap (λ (b : ℕ). has_bit b (v % 8)) (byte_at (v / 8)) ∙ byte-here 4 s.hours from-days v (omega arith)

  pub day-bits : (v : ℕ) → v < 32 → has_bit (get_or body (12 + v / 8) 0) (v % 8) ≡ has_bit s.days v
  unfolding from-days
  day-bits v h = ap (λ (b : ℕ). has_bit b (v % 8)) (byte-days (v / 8)) ∙ byte-here 4 s.days from-months v (omega arith)

  pub month-bits : (v : ℕ) → v < 16 → has_bit (get_or body (16 + v / 8) 0) (v % 8) ≡ has_bit s.months v
  unfolding from-months
  month-bits v h = ap (λ (b : ℕ). has_bit b (v % 8)) (byte-months (v / 8)) ∙ byte-here 2 s.months from-weekdays v (omega arith)

  pub weekday-bits : (v : ℕ) → v < 8 → has_bit (get_or body 18 0) v ≡ has_bit s.weekdays v
  unfolding from-weekdays
  weekday-bits v h =
      let z : v / 8 ≡ 0 = omega arith in
      let m : v % 8 ≡ v = omega arith in
      ap (λ (b : ℕ). has_bit b v) (byte-weekdays 0) ∙ (rw (z, m) at (byte-here 1 s.weekdays from-flags v (omega arith)))

  -- the flags, in bits 0 to 4, and no other bit
  flags-byte : get_or body 19 0 ≡ flags_of s.stars
  unfolding from-flags little_endian
  flags-byte = let m : flags_of s.stars % 256 ≡ flags_of s.stars = omega (arith, flags-small s.stars) in byte-flags 0 ∙ m

  pub flag-bits : (get_or body 19 0 < 32)
      × (has_bit (get_or body 19 0) 0 ≡ s.stars.minutes)
      × (has_bit (get_or body 19 0) 1 ≡ s.stars.hours)
      × (has_bit (get_or body 19 0) 2 ≡ s.stars.days)
      × (has_bit (get_or body 19 0) 3 ≡ s.stars.months)
      × (has_bit (get_or body 19 0) 4 ≡ s.stars.weekdays)
  unfolding stars_of
  flag-bits =
      let e = stars-back s.stars in
      rw flags-byte
      (flags-small s.stars, ap (λ (x : Stars). x.minutes) e, ap (λ (x : Stars). x.hours) e, ap (λ (x : Stars). x.days) e, ap (λ (x : Stars). x.months) e, ap (λ (x : Stars). x.weekdays) e)

  -- "then the raw command"
  pub timed-command : drop 20 body ≡ command
  unfolding body_of schedule_bytes little_endian
  timed-command = refl

-- ---- a setting: the length of its name in two bytes, name and value

pub setting-bytes : (name value : List ℕ) → length name < 65536
    → let b = body_of (setting name value) in (get_or b 0 0 + 256 * get_or b 1 0 ≡ length name) × (get_or b 0 0 < 256) × (drop 2 b ≡ name ++ value)
unfolding body_of little_endian
setting-bytes name value h = (omega arith, omega arith, refl)

-- ---- `@reboot`: the command

pub boot-bytes : (command : List ℕ) → body_of (boot command) ≡ command
unfolding body_of
boot-bytes command = refl

-- ---- a record: two bytes length of kind and body, two bytes kind, the body

pub record-bytes : (kind : ℕ) (body : List ℕ) → kind < 65536 → length body ≤ longest_body
    → let r = record_of kind body in
    (get_or r 0 0 + 256 * get_or r 1 0 ≡ 2 + length body) × (get_or r 0 0 < 256) × (get_or r 2 0 + 256 * get_or r 3 0 ≡ kind) × (get_or r 2 0 < 256) × (drop 4 r ≡ body)
unfolding record_of little_endian
record-bytes kind body h k = (omega arith, omega arith, omega arith, omega arith, refl)
