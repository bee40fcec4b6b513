-- Laws of bodies: an item is read from its own body, and a body that means an item is that item's.
-- Assumes nothing.
use mathlib.Core.Path.{◌≡◌, refl, sym, ap, ◌∙◌}
use mathlib.Core.Bool.{Bool, true, false, cond}
use mathlib.Core.List.{List, [], ◌∷◌, ◌++◌, append_assoc}
use Prim.Native.Nat.{ℕ, ◌+◌, ◌-◌, ◌*◌, ◌/◌, ◌%◌, ◌≤◌, ◌<◌}
use native.Mathlib.Omega.{arith}
use lib.ListN.{length, take, drop, length-append, length-drop, take-append-drop}
use lib.Seq.{length-take-le, drop-drop}
use lib.Dec.{eqb, T, eqb→eq}
use mir.Val.{bool_byte}
use borrow.Author.Tests.{le-leb, lt-ltb, eq-eqb}
use Rattle.refusal.specs.declared.Refusal.TheVariants.{Meaningless}
use Rattle.octets.specs.Runs.{between}
use Rattle.octets.specs.Sets.{has_bit}
use Rattle.octets.specs.LittleEndian.{little_endian, number_of, width}
use Rattle.octets.proofs.Places.{Stands, between-here, drop_past}
use Rattle.octets.proofs.LittleEndian.{Bytes, bytes-between, bytes_back, length-little_endian}
use Rattle.calendar.proofs.Tests.{every, at_each}
use Rattle.schedule.specs.declared.Stars.{Stars}
use Rattle.schedule.specs.declared.Schedule.{Schedule}
use Rattle.line.specs.Words.{same}
use Rattle.line.specs.Offsets.{zone_name}
use Rattle.normal.specs.Proper.{is_item}
use Rattle.normal.specs.Meanings.{Item, setting, boot, timed}
use Rattle.records.specs.Formats.{flags_of, schedule_bytes, setting_kind_of, kind_of, body_of}
use Rattle.records.specs.Readings.{number_at, stars_of, schedule_at, timed_in, setting_in, means, meant, is_skipped, content_of, refused}
use Rattle.records.specs.Writers.{Wide, Encodable}
use Rattle.records.proofs.Splits.{number-here, number_past}

-- ---- flags

one_bit : (b : Bool) → eqb (bool_byte b) 1 ≡ b
one_bit true = refl
one_bit false = refl

pub bit-small : (b : Bool) → bool_byte b ≤ 1
bit-small true = omega arith
bit-small false = omega arith

pub flags-small : (s : Stars) → flags_of s < 32
unfolding flags_of
flags-small s =
    omega (arith, bit-small s.minutes, bit-small s.hours, bit-small s.days, bit-small s.months, bit-small s.weekdays)

-- five bits of a number
bits_back : (a b c d e : ℕ) → a ≤ 1 → b ≤ 1 → c ≤ 1 → d ≤ 1 → e ≤ 1
    → let n = a + 2 * b + 4 * c + 8 * d + 16 * e in
    (n / 1 % 2 ≡ a) × (n / 2 % 2 ≡ b) × (n / 4 % 2 ≡ c) × (n / 8 % 2 ≡ d) × (n / 16 % 2 ≡ e)
bits_back a b c d e h i j k l = (omega arith, omega arith, omega arith, omega arith, omega arith)

pub stars-back : (s : Stars) → stars_of (flags_of s) ≡ s
unfolding stars_of flags_of has_bit
stars-back s =
    let e =
    bits_back (bool_byte s.minutes) (bool_byte s.hours) (bool_byte s.days) (bool_byte s.months) (bool_byte s.weekdays)
    (bit-small s.minutes) (bit-small s.hours) (bit-small s.days) (bit-small s.months) (bit-small s.weekdays) in
    rw (e.0, e.1, e.2, e.3, e.4, one_bit s.minutes, one_bit s.hours, one_bit s.days, one_bit s.months, one_bit s.weekdays)

flags-known : T (every (λ (f : ℕ). eqb (flags_of (stars_of f)) f) 32)
unfolding stars_of flags_of has_bit
flags-known = tt

pub flags-back : (f : ℕ) → f < 32 → flags_of (stars_of f) ≡ f
flags-back f h = eqb→eq (flags_of (stars_of f)) f (at_each (λ (g : ℕ). eqb (flags_of (stars_of g)) g) 32 flags-known f h)

-- ---- an item is read from its body

module _ (s : Schedule) (command : List ℕ) (wide : Wide s) where
  body : List ℕ
  body = schedule_bytes s ++ command

  at-0 : Stands body 0 (little_endian 8 s.minutes)
      (little_endian 4 s.hours ++ (little_endian 4 s.days ++ (little_endian 2 s.months ++ (little_endian 1 s.weekdays ++ (little_endian 1 (flags_of s.stars) ++ command)))))
  unfolding body schedule_bytes
  at-0 = record { is = simp append_assoc refl }

  at_8 : Stands body 8 (little_endian 4 s.hours)
      (little_endian 4 s.days ++ (little_endian 2 s.months ++ (little_endian 1 s.weekdays ++ (little_endian 1 (flags_of s.stars) ++ command))))
  at_8 = record { is = number_past 8 s.minutes at-0 }

  at-12 : Stands body 12 (little_endian 4 s.days) (little_endian 2 s.months ++ (little_endian 1 s.weekdays ++ (little_endian 1 (flags_of s.stars) ++ command)))
  at-12 = record { is = number_past 4 s.hours at_8 }

  at-16 : Stands body 16 (little_endian 2 s.months) (little_endian 1 s.weekdays ++ (little_endian 1 (flags_of s.stars) ++ command))
  at-16 = record { is = number_past 4 s.days at-12 }

  at-18 : Stands body 18 (little_endian 1 s.weekdays) (little_endian 1 (flags_of s.stars) ++ command)
  at-18 = record { is = number_past 2 s.months at-16 }

  at-19 : Stands body 19 (little_endian 1 (flags_of s.stars)) command
  at-19 = record { is = number_past 1 s.weekdays at-18 }

  flags : number_at body 19 1 ≡ flags_of s.stars
  flags = number-here 1 (flags_of s.stars) at-19 (omega (arith, flags-small s.stars))

  command-here : drop 20 body ≡ command
  command-here = number_past 1 (flags_of s.stars) at-19

  schedule-here : schedule_at body ≡ s
  unfolding schedule_at
  schedule-here =
      rw (
        number-here 8 s.minutes at-0 wide.minutes,
        number-here 4 s.hours at_8 wide.hours,
        number-here 4 s.days at-12 wide.days,
        number-here 2 s.months at-16 wide.months,
        number-here 1 s.weekdays at-18 wide.weekdays,
        flags,
        stars-back s.stars,
      )

  long : 20 ≤ length body
  unfolding body schedule_bytes
  long = simp (length-append, length-little_endian) (omega arith)

  pub timed-back : timed_in (schedule_bytes s ++ command) ≡ timed s command ∷ []
  unfolding timed_in body
  timed-back = rw (le-leb 20 (length body) long, flags, lt-ltb (flags_of s.stars) 32 (flags-small s.stars), schedule-here, command-here)

module _ (name value : List ℕ) (short : length name < width 2) where
  setting_body : List ℕ
  setting_body = little_endian 2 (length name) ++ (name ++ value)

  name-length : Stands setting_body 0 (little_endian 2 (length name)) (name ++ value)
  unfolding setting_body
  name-length = record { is = refl }

  name-stands : Stands setting_body 2 name value
  name-stands = record { is = number_past 2 (length name) name-length }

  setting-long : 2 + length name ≤ length setting_body
  unfolding setting_body
  setting-long = simp (length-append, length-little_endian) (omega arith)

  pub setting-back : setting_in (little_endian 2 (length name) ++ (name ++ value)) ≡ setting name value ∷ []
  unfolding setting_in setting_body
  setting-back =
      rw (
        number-here 2 (length name) name-length short,
        le-leb 2 (length setting_body) (omega (arith, setting-long)),
        le-leb (2 + length name) (length setting_body) setting-long,
        between-here name-stands,
        drop_past name-stands,
      )

-- an item has its own kind
own-kind : (i : Item) → meant (kind_of i) (i ∷ []) ≡ cond (is_item i) (means i) (refused Meaningless)
unfolding meant
own-kind i = rw (eq-eqb (kind_of i) (kind_of i) refl)

content-back : (i : Item) → Encodable i → content_of (kind_of i) (body_of i) ≡ meant (kind_of i) (i ∷ [])
unfolding content_of is_skipped kind_of setting_kind_of body_of
content-back (timed s command) e = ap (meant 1) (timed-back s command e)
content-back (boot command) e = refl
content-back (setting name value) e = go (same name zone_name)
  where
    body : List ℕ
    body = little_endian 2 (length name) ++ (name ++ value)

    go : (t : Bool) → content_of (cond t 4 3) body ≡ meant (cond t 4 3) (setting name value ∷ [])
    go true = ap (meant 4) (setting-back name value e)
    go false = ap (meant 3) (setting-back name value e)

pub body_back : (i : Item) → Encodable i → content_of (kind_of i) (body_of i) ≡ cond (is_item i) (means i) (refused Meaningless)
body_back i e = content-back i e ∙ own-kind i

-- ---- a body that means an item is that item's

module _ (s : List ℕ) (bytes : Bytes s) where
  -- a number's bytes, and those behind it
  piece_back : (at size : ℕ) → at + size ≤ length s → little_endian size (number_at s at size) ++ drop (at + size) s ≡ drop at s
  unfolding number_at between
  piece_back at size h =
      let e : at + size - at ≡ size = omega arith in
      let n : length (take size (drop at s)) ≡ size = length-take-le size (drop at s) (omega (arith, length-drop at s)) in
      rw e (
      ap (λ (k : ℕ). little_endian k (number_of (take size (drop at s))) ++ drop (at + size) s) (sym n)
      ∙ ap (λ (t : List ℕ). t ++ drop (at + size) s) (bytes_back (take size (drop at s)) (rw e at (bytes-between s at (at + size) bytes)))
      ∙ ap (λ (t : List ℕ). take size (drop at s) ++ t) (sym (drop-drop size at s))
      ∙ take-append-drop size (drop at s))

  pub timed-body : 20 ≤ length s → number_at s 19 1 < 32 → schedule_bytes (schedule_at s) ++ drop 20 s ≡ s
  unfolding schedule_bytes schedule_at
  timed-body all small =
      rw (flags-back (number_at s 19 1) small)
      (simp append_assoc
      (rw (piece_back 19 1 (omega arith), piece_back 18 1 (omega arith), piece_back 16 2 (omega arith), piece_back 12 4 (omega arith), piece_back 8 4 (omega arith))
      (piece_back 0 8 (omega arith))))

  pub setting-body : 2 ≤ length s → 2 + number_at s 0 2 ≤ length s
      → let name = between s 2 (2 + number_at s 0 2) in little_endian 2 (length name) ++ (name ++ drop (2 + number_at s 0 2) s) ≡ s
  unfolding between
  setting-body all fit =
      let n = number_at s 0 2 in
      let e : 2 + n - 2 ≡ n = omega arith in
      let size : length (take n (drop 2 s)) ≡ n = length-take-le n (drop 2 s) (omega (arith, length-drop 2 s)) in
      rw (e, size, ← drop-drop n 2 s, take-append-drop n (drop 2 s)) (piece_back 0 2 (omega arith))
