-- Whole lines, for any bytes: what a line is by its parts, wherever they are in it and however long they are. Every part that is accepted leads on to the next
-- one, and the first one from the left that isn't refuses the line.
-- Assumes nothing.
use Rattle.std.specs.Prelude.{None, Ok, Err, Result}
use Rattle.refusal.specs.declared.Refusal.TheVariants.{LineTooLong, NulByte, NoCommand, BadSetting, BadOffset, ControlByte}
use mathlib.Core.Path.{◌≡◌, refl, sym, ap, ◌∙◌}
use mathlib.Core.Bool.{Bool, true, false, cond, true≢false, and-false, or-true}
use mathlib.Core.List.{List, [], ◌∷◌, ◌++◌, append-nil}
use Prim.Native.Nat.{ℕ, ◌+◌, ◌-◌, ◌≤◌, ◌<◌}
use native.Mathlib.Omega.{arith}
use lib.ListN.{length, get_or, length-append, length-drop, drop_of_length-le}
use lib.Dec.{eqb}
use borrow.Author.Tests.{eqb-true, eqb-false, le-leb, lt-ltb, le-ltb, ne_eqb, eq-eqb}
use Rattle.octets.specs.declared.class.Class.TheVariants.{Blank, Not, InLine}
use Rattle.octets.specs.declared.class.Class.{Class}
use Rattle.octets.proofs.Runs.{skipped-within, past_end}
use Rattle.field.specs.Numbers.{is_digit}
use Rattle.octets.specs.Runs.{run, are_of, skipped, trimmed}
use Rattle.octets.specs.Classes.{is_blank, is_quote, is_control, of_class}
use Rattle.octets.proofs.Places.{Stands, stops, skipped-whole, solid-run, drop_past, skipped-here, byte-here}
use Rattle.field.specs.declared.Dialect.{Dialect}
use Rattle.line.specs.declared.Rules.{Rules}
use Rattle.line.specs.declared.Kind.TheVariants.{User, System}
use Rattle.line.specs.declared.time.When.{When}
use Rattle.line.specs.declared.Line.TheVariants as line
use Rattle.line.specs.Limits.{max_line}
use Rattle.line.specs.Times.{time_of, fields_at}
use Rattle.line.specs.Words.{word_at}
use Rattle.line.specs.Entries.{time_at, with_command, with_user, by_kind, after_time, entry_at}
use Rattle.line.specs.Assignments.{found, quoted_at, non_empty, name_at, closed, value_at, after_equals, after_name, setting_at}
use Rattle.line.specs.Lines.{starts_entry, content_from, content_of, byte_fault, read_line}
use Rattle.line.proofs.Spacing.{leading-blanks, quoted-whole}
use Rattle.line.proofs.Zones.{zoned-is}
use Rattle.line.specs.Assignments.{part_bytes}
use Rattle.line.specs.Offsets.{zone_of, is_allowed_setting}
use Rattle.line.specs.declared.Part.{Part}
use Rattle.line.specs.declared.Kind.{Kind}
use Rattle.field.specs.declared.Fault.{Fault}
use Rattle.line.specs.declared.Line.{Line}

-- ---- the bytes of a line: too long is 2, then the first byte 0 is 3, then the first control byte 27

pub line-too-long : (rules : Rules) (s : List ℕ) → max_line < length s → read_line rules s ≡ Err (record { refusal = LineTooLong; column = 1001 })
unfolding read_line
line-too-long rules s h = rw (lt-ltb max_line (length s) h)

-- all bytes of a kind, and one that isn't
whole : (k : Class) (s : List ℕ) → are_of k s ≡ true → skipped k s 0 ≡ length s
whole k s are = eqb-true (skipped k s 0) (length s) (skipped-whole k s ∙ are)

not-all : (k : Class) (a : List ℕ) (b : ℕ) (r : List ℕ) → of_class k b ≡ false → are_of k (a ++ (b ∷ r)) ≡ false
unfolding are_of
not-all k [] b r e = rw e
not-all k (x ∷ a) b r e = rw (not-all k a b r e) (and-false (of_class k x))

before-end : (k : Class) (s : List ℕ) → are_of k s ≡ false → skipped k s 0 < length s
before-end k s n = omega (arith, eqb-false (skipped k s 0) (length s) (skipped-whole k s ∙ n), skipped-within k s 0 (omega arith))

module _ (rules : Rules) (s : List ℕ) (short : length s ≤ max_line) where
  pub line-of-bytes : are_of InLine s ≡ true → read_line rules s ≡ content_of rules s
  unfolding read_line
  line-of-bytes are = rw (le-ltb max_line (length s) short, le-ltb (skipped InLine s 0) (length s) (omega (arith, whole InLine s are)))

  module _ (a : List ℕ) (b : ℕ) (r : List ℕ) (is : s ≡ a ++ (b ∷ r)) where
    there : Stands s 0 a (b ∷ r)
    there = record { is = is }

    pub nul-in-line : are_of (Not 0) a ≡ true → b ≡ 0 → read_line rules s ≡ Err (record { refusal = NulByte; column = length a + 1 })
    unfolding read_line byte_fault of_class
    nul-in-line before zero =
        let other : of_class InLine b ≡ false = rw zero in
        let nul : skipped (Not 0) s 0 ≡ length a = skipped-here there (Not 0) before (stops (Not 0) b r (rw zero)) ∙ omega arith in
        let inside : length a < length s = rw is (omega (arith, length-append a (b ∷ r))) in
        rw (
          le-ltb max_line (length s) short,
          lt-ltb (skipped InLine s 0) (length s) (before-end InLine s (rw is (not-all InLine a b r other))),
          nul,
          lt-ltb (length a) (length s) inside,
        )

    pub control-in-line : are_of InLine a ≡ true → is_control b ≡ true → are_of (Not 0) s ≡ true → read_line rules s ≡ Err (record { refusal = ControlByte; column = length a + 1 })
    unfolding read_line byte_fault of_class
    control-in-line before control none =
        let other : of_class InLine b ≡ false = rw (control, or-true (eqb b 0), or-true (eqb b 10)) in
        let stop : skipped InLine s 0 ≡ length a = skipped-here there InLine before (stops InLine b r other) ∙ omega arith in
        let inside : length a < length s = rw is (omega (arith, length-append a (b ∷ r))) in
        rw (
          le-ltb max_line (length s) short,
          stop,
          lt-ltb (length a) (length s) inside,
          le-ltb (skipped (Not 0) s 0) (length s) (omega (arith, whole (Not 0) s none)),
        )

-- ---- a line by its first byte that isn't blank

pub blank-line : (rules : Rules) (s : List ℕ) → are_of Blank s ≡ true → content_of rules s ≡ Ok line.Ignored
unfolding content_of
blank-line rules s are = rw (le-leb (length s) (skipped Blank s 0) (omega (arith, whole Blank s are)))

module _ (rules : Rules) (b : List ℕ) (x : ℕ) (r : List ℕ) (blank : are_of Blank b ≡ true) (solid : is_blank x ≡ false) where
  abbrev s : List ℕ
  s = b ++ (x ∷ r)

  by_first : content_of rules s ≡ content_from rules s (length b) x
  by_first = leading-blanks rules b x r blank (solid-run (x ∷ r) solid)

  pub comment-line : x ≡ 35 → content_of rules s ≡ Ok line.Ignored
  unfolding content_from
  comment-line e = by_first ∙ rw (eq-eqb x 35 e)

  pub entry-line : starts_entry x ≡ true → content_of rules s ≡ entry_at rules s (length b)
  unfolding content_from starts_entry is_digit
  entry-line e = by_first ∙ rw (no-hash (eqb x 35) refl, e)
    where
      no-hash : (t : Bool) → eqb x 35 ≡ t → eqb x 35 ≡ false
      no-hash false p = p
      no-hash true p = absurd (true≢false (sym e ∙ rw (eqb-true x 35 p)))

  pub setting-line : (x ≡ 35 → ⊥) → starts_entry x ≡ false → content_of rules s ≡ setting_at s (length b)
  unfolding content_from
  setting-line n e = by_first ∙ rw (ne_eqb x 35 n, e)

-- ---- an entry: its time, in a system table its user, and its command

either-kind : {A : Type 0} (k : Kind) (a : A) → by_kind k a a ≡ a
either-kind User a = refl
either-kind System a = refl

module _ (rules : Rules) (s : List ℕ) (at : ℕ) where
  pub refused-time : {f : Fault} → time_at rules.dialect s at ≡ Err f → entry_at rules s at ≡ Err f
  unfolding entry_at after_time
  refused-time is = rw is

  module _ {when : When} {next : ℕ} (is : time_at rules.dialect s at ≡ time_of when next) where
    -- 9 comes after the fields, in both kinds
    pub no-command : length s ≤ next → entry_at rules s at ≡ Err (record { refusal = NoCommand; column = length s + 1 })
    unfolding entry_at after_time with_user with_command
    no-command end = rw (is, le-ltb next (length s) end) (either-kind rules.kind _)

    pub user-entry : rules.kind ≡ User → next < length s → entry_at rules s at ≡ Ok (line.Entry when next)
    unfolding entry_at after_time with_command
    user-entry k some = rw (is, k, lt-ltb next (length s) some)

-- the time is a word exactly after `@`
pub word-time : (d : Dialect) (s : List ℕ) (at : ℕ) → get_or s at 0 ≡ 64 → time_at d s at ≡ word_at s at
unfolding time_at
word-time d s at e = rw (eq-eqb (get_or s at 0) 64 e)

pub fields-time : (d : Dialect) (s : List ℕ) (at : ℕ) → (get_or s at 0 ≡ 64 → ⊥) → time_at d s at ≡ fields_at d s at
unfolding time_at
fields-time d s at n = rw (ne_eqb (get_or s at 0) 64 n)

-- ---- a setting: its name, `=` and its value; 11 where one of them isn't there

module _ (s : List ℕ) (at : ℕ) where
  abbrev pub bad_setting : Result Line Fault
  bad_setting = Err (record { refusal = BadSetting; column = at + 1 })

  pub no_name : name_at s at ≡ None → setting_at s at ≡ bad_setting
  unfolding setting_at after_name
  no_name is = rw is

  module _ {name : Part} {next : ℕ} (is : name_at s at ≡ found name next) where
    abbrev sign : ℕ
    sign = skipped Blank s next

    pub no_sign : (get_or s sign 0 ≡ 61 → ⊥) → setting_at s at ≡ bad_setting
    unfolding setting_at after_name
    no_sign n = rw (is, ne_eqb (get_or s sign 0) 61 n)

    module _ (there : get_or s sign 0 ≡ 61) where
      abbrev start : ℕ
      start = skipped Blank s (sign + 1)

      pub no_value : value_at s start ≡ None → setting_at s at ≡ bad_setting
      unfolding setting_at after_name after_equals
      no_value v = rw (is, eq-eqb (get_or s sign 0) 61 there, v)

      -- its name and value decide whether it is 25, and which offset it sets
      pub named-setting : {value : Part} {end : ℕ} → value_at s start ≡ found value end
          → setting_at s at
          ≡ cond (is_allowed_setting (part_bytes s name) (part_bytes s value))
          (Ok (line.Setting name value (zone_of (part_bytes s name) (part_bytes s value))))
          (Err (record { refusal = BadOffset; column = start + 1 }))
      unfolding setting_at after_name after_equals
      named-setting {value} v = rw (is, eq-eqb (get_or s sign 0) 61 there, v) (zoned-is s start name value)

-- ---- names and values

module _ {s : List ℕ} {at q : ℕ} {t r : List ℕ} (here : Stands s at (q ∷ t) (q ∷ r)) (quote : is_quote q ≡ true) (inside : are_of (Not q) t ≡ true) where
  quoted : quoted_at s at ≡ found (record { start = at + 1; end = at + 1 + length t }) (at + 1 + length t + 1)
  unfolding of_class
  quoted = quoted-whole here inside (stops (Not q) q r (rw (eq-eqb q q refl)))

  pub quoted-name : 0 < length t → name_at s at ≡ found (record { start = at + 1; end = at + 1 + length t }) (at + 1 + length t + 1)
  unfolding name_at non_empty
  quoted-name some = rw (byte-here here, quote, quoted, lt-ltb (at + 1) (at + 1 + length t) (omega arith))

  pub empty_name : length t ≡ 0 → name_at s at ≡ None
  unfolding name_at non_empty
  empty_name none = rw (byte-here here, quote, quoted, le-ltb (at + 1) (at + 1 + length t) (omega (arith, none)))

  -- with only blanks after it
  pub quoted-value : are_of Blank r ≡ true → value_at s at ≡ found (record { start = at + 1; end = at + 1 + length t }) (at + 1 + length t + 1)
  unfolding value_at closed run
  quoted-value blank =
      let text : Stands s (at + 1) t (q ∷ r) = record { is = drop_past (first here) } in
      let last : Stands s (at + 1 + length t) (q ∷ []) r = record { is = drop_past text } in
      let end : Stands s (at + 1 + length t + 1) r [] = record { is = drop_past last ∙ sym (append-nil r) } in
      let size : length r ≡ length s - (at + 1 + length t + 1) = ap length (sym (drop_past last)) ∙ length-drop (at + 1 + length t + 1) s in
      rw (byte-here here, quote, quoted, le-leb (length s) (skipped Blank s (at + 1 + length t + 1)) (omega (arith, size, skipped-here end Blank blank refl)))
    where
      first : Stands s at (q ∷ t) (q ∷ r) → Stands s at (q ∷ []) (t ++ (q ∷ r))
      first h = record { is = h.is }

-- nothing after `=` and blanks
pub empty-value : (s : List ℕ) (at : ℕ) → length s ≤ at → value_at s at ≡ found (record { start = at; end = at }) (length s)
unfolding value_at trimmed is_quote
empty-value s at end = let z : at + 0 ≡ at = omega arith in rw (past_end s at end, drop_of_length-le s end, z)
