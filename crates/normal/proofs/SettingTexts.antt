-- Settings that are written: a proper name and a proper value are read back from their texts.
-- Assumes nothing.
use Rattle.std.specs.Prelude.{Some, None, Option, Ok}
use mathlib.Core.Path.{◌≡◌, refl, sym, ap, ◌∙◌}
use mathlib.Core.Bool.{Bool, true, false, cond, not, ◌&&◌, ◌||◌, true≢false, and-eq-true_iff}
use mathlib.Core.List.{List, [], ◌∷◌, ◌++◌, append_assoc, append-nil}
use Prim.Native.Nat.{ℕ, ◌+◌, ◌≤◌, ◌<◌}
use native.Mathlib.Omega.{arith}
use lib.ListN.{length, drop, get_or, length-drop}
use lib.Seq.{get_or-drop}
use lib.Dec.{eqb, leb}
use borrow.Author.Tests.{lt-ltb, le-leb, leb-true, eq-eqb, eqb-true, not-true}
use Rattle.octets.specs.declared.class.Class.TheVariants.{Blank, Name, Not, InLine}
use Rattle.octets.specs.Classes.{is_blank, is_quote, of_class}
use Rattle.octets.specs.Runs.{run, are_of, skipped, trimmed, between}
use Rattle.octets.proofs.Runs.{skipped-from}
use Rattle.octets.proofs.Places.{solid-run, not-skipped, Stands, drop_past, between-here, skipped-here, byte-here, within-here}
use Rattle.line.specs.declared.Part.{Part}
use Rattle.line.specs.declared.assignment.Text.{Text}
use Rattle.line.specs.declared.Line.TheVariants as line
use Rattle.line.specs.Assignments.{found, quoted_at, non_empty, name_at, closed, value_at, after_equals, after_name, setting_at, after_offset, with_offset, zoned, part_bytes}
use Rattle.line.specs.Words.{same}
use Rattle.line.specs.Offsets.{zone_name, is_offset, offset_of, read_offset, is_allowed_setting}
use Rattle.field.specs.Numbers.{is_digit}
use Rattle.line.specs.Lines.{starts_entry}
use Rattle.normal.specs.Meanings.{setting, item_in}
use Rattle.normal.specs.Texts.{in_quotes, quoted, starts_other, is_bare_name, is_bare_value, name_text, value_text}
use Rattle.normal.specs.Proper.{is_quotable, is_name, is_value}
use Rattle.normal.proofs.Settings.{quote-cases}

-- ---- in quotes

-- the quotes that are chosen
record Chosen (s : List ℕ) : Type 0 where
  quote : ℕ
  is : is_quote quote ≡ true
  free : are_of (Not quote) s ≡ true
  chosen : quoted s ≡ in_quotes quote s

choose : (s : List ℕ) → is_quotable s ≡ true → Chosen s
unfolding quoted is_quotable is_quote
choose s e = go (are_of (Not 34) s) refl e
  where
    go : (t : Bool) → are_of (Not 34) s ≡ t → (t || are_of (Not 39) s) ≡ true → Chosen s
    go true p h = record { quote = 34; is = refl; free = p; chosen = rw p }
    go false p h = record { quote = 39; is = refl; free = h; chosen = rw p }

-- a text in quotes that stands at a place, and then the rest
record QuotedBack (s : List ℕ) (at : ℕ) (t rest : List ℕ) : Type 0 where
  first : is_quote (get_or s at 0) ≡ true
  is : quoted_at s at ≡ found (record { start = at + 1; end = at + 1 + length t }) (at + 1 + length t + 1)
  shown : between s (at + 1) (at + 1 + length t) ≡ t
  behind : drop (at + 1 + length t + 1) s ≡ rest

module _ (s : List ℕ) (at : ℕ) (t rest : List ℕ) where
  between-quotes : (q : ℕ) → is_quote q ≡ true → are_of (Not q) t ≡ true → drop at s ≡ q ∷ (t ++ q ∷ rest) → QuotedBack s at t rest
  unfolding quoted_at run of_class
  between-quotes q is free here =
      let opened : Stands s at (q ∷ []) (t ++ q ∷ rest) = record { is = here } in
      let inside : Stands s (at + 1) t (q ∷ rest) = record { is = drop_past opened } in
      let closing : Stands s (at + 1 + length t) (q ∷ []) rest = record { is = drop_past inside } in
      let stops : run (Not q) (q ∷ rest) ≡ 0 = rw (eq-eqb q q refl) in
      record {
        first = rw (byte-here opened) is;
        is = rw (byte-here opened, skipped-here inside (Not q) free stops, lt-ltb (at + 1 + length t) (length s) (within-here closing));
        shown = between-here inside;
        behind = drop_past closing;
      }

  quoted-here : is_quotable t ≡ true → drop at s ≡ quoted t ++ rest → QuotedBack s at t rest
  quoted-here e here = let c = choose t e in between-quotes c.quote c.is c.free (here ∙ rw (c.chosen, append_assoc))

-- ---- a name's first byte

-- a byte of a bare name
name-byte : (b : ℕ) → of_class Name b ≡ true → (is_blank b ≡ false) × (is_quote b ≡ false)
unfolding of_class
name-byte b e = go (is_blank b) (eqb b 61) (is_quote b) refl refl e
  where
    go : (x y z : Bool) → is_blank b ≡ x → is_quote b ≡ z → not (x || (y || z)) ≡ true → (is_blank b ≡ false) × (is_quote b ≡ false)
    go false false false p q e = (p, q)
    go true y z p q e = absurd (true≢false (sym e))
    go false true z p q e = absurd (true≢false (sym e))
    go false false true p q e = absurd (true≢false (sym e))

quote-byte : (q : ℕ) → is_quote q ≡ true → (is_blank q ≡ false) × (starts_other q ≡ false)
unfolding is_blank starts_other starts_entry is_digit
quote-byte q e = quote-cases (λ q. (is_blank q ≡ false) × (starts_other q ≡ false)) q e (refl, refl) (refl, refl)

-- the parts of a proper name
pub record ProperName (n : List ℕ) : Type 0 where
  pub some : 0 < length n
  pub clean : are_of InLine n ≡ true
  pub stands : (is_bare_name n || is_quotable n) ≡ true

pub name-parts : (n : List ℕ) → is_name n ≡ true → ProperName n
unfolding is_name
name-parts n e =
    let a = (and-eq-true_iff (leb 1 (length n)) (are_of InLine n && (is_bare_name n || is_quotable n))).0 e in
    let b = (and-eq-true_iff (are_of InLine n) (is_bare_name n || is_quotable n)).0 a.1 in
    record { some = leb-true 1 (length n) a.0; clean = b.0; stands = b.1 }

-- the name's text starts a setting
pub record Starts (t : List ℕ) : Type 0 where
  pub first : ℕ
  pub more : List ℕ
  pub is : t ≡ first ∷ more
  pub solid : is_blank first ≡ false
  pub own : starts_other first ≡ false

pub name-starts : (n : List ℕ) → is_name n ≡ true → Starts (name_text n)
unfolding name_text is_bare_name are_of
name-starts n e = go n (is_bare_name n) refl (name-parts n e)
  where
    go : (n : List ℕ) (t : Bool) → is_bare_name n ≡ t → ProperName n → Starts (cond t n (quoted n))
    go [] t p h = absurd (let z = h.some in omega arith)
    go (b ∷ m) true p h =
        let a = (and-eq-true_iff (are_of Name (b ∷ m)) (not (starts_other b))).0 p in
        let c = (and-eq-true_iff (of_class Name b) (are_of Name m)).0 a.0 in
        record { first = b; more = m; is = refl; solid = (name-byte b c.0).0; own = not-true (starts_other b) a.1 }
    go (b ∷ m) false p h =
        let c = choose (b ∷ m) (rw p at h.stands) in
        let f = quote-byte c.quote c.is in
        record { first = c.quote; more = (b ∷ m) ++ c.quote ∷ []; is = c.chosen; solid = f.0; own = f.1 }

-- ---- a name that stands at a place, before `=`

-- a text that is found, with its bytes
pub record Shows (s : List ℕ) (t : Option Text) (bytes : List ℕ) : Type 0 where
  pub part : Part
  pub next : ℕ
  pub is : t ≡ found part next
  pub shown : part_bytes s part ≡ bytes

-- and what comes behind it
pub record NameBack (s : List ℕ) (at : ℕ) (n rest : List ℕ) : Type 0 where
  pub found : Shows s (name_at s at) n
  pub behind : drop found.next s ≡ 61 ∷ rest

name-ends : (rest : List ℕ) → run Name (61 ∷ rest) ≡ 0
unfolding run of_class is_blank is_quote
name-ends rest = refl

non-empty : (start end next : ℕ) → start < end → non_empty (found (record { start = start; end = end }) next) ≡ found (record { start = start; end = end }) next
unfolding non_empty
non-empty start end next h = rw (lt-ltb start end h)

module _ (s : List ℕ) (at : ℕ) (rest : List ℕ) where
  bare-back : (n : List ℕ) → 0 < length n → is_bare_name n ≡ true → drop at s ≡ n ++ 61 ∷ rest → NameBack s at n rest
  unfolding is_bare_name are_of name_at
  bare-back [] h e here = absurd (omega arith)
  bare-back (b ∷ m) h e here =
      let are = ((and-eq-true_iff (are_of Name (b ∷ m)) (not (starts_other b))).0 e).0 in
      let first = name-byte b ((and-eq-true_iff (of_class Name b) (are_of Name m)).0 are).0 in
      let there : Stands s at (b ∷ m) (61 ∷ rest) = record { is = here } in
      let end = at + length (b ∷ m) in
      record {
        found = record {
          part = record { start = at; end = end };
          next = end;
          is = rw (byte-here there, first.1, skipped-here there Name are (name-ends rest)) (non-empty at end end (omega arith));
          shown = between-here there;
        };
        behind = drop_past there;
      }

  quoted-back : (n : List ℕ) → 0 < length n → is_quotable n ≡ true → drop at s ≡ quoted n ++ 61 ∷ rest → NameBack s at n rest
  unfolding name_at
  quoted-back n h e here =
      let q = quoted-here s at n (61 ∷ rest) e here in
      let end = at + 1 + length n in
      record {
        found = record {
          part = record { start = at + 1; end = end };
          next = end + 1;
          is = rw (q.first, q.is) (non-empty (at + 1) end (end + 1) (omega arith));
          shown = q.shown;
        };
        behind = q.behind;
      }

  pub name_back : (n : List ℕ) → is_name n ≡ true → drop at s ≡ name_text n ++ 61 ∷ rest → NameBack s at n rest
  unfolding name_text
  name_back n e = go (is_bare_name n) refl (name-parts n e)
    where
      go : (t : Bool) → is_bare_name n ≡ t → ProperName n → drop at s ≡ cond t n (quoted n) ++ 61 ∷ rest → NameBack s at n rest
      go true p h here = bare-back n h.some p here
      go false p h here = quoted-back n h.some (rw p at h.stands) here

-- ---- a value that stands at a place, up to the line's end

not-either : (a b : Bool) → not (a || b) ≡ true → (a ≡ false) × (b ≡ false)
not-either false false e = (refl, refl)
not-either true b e = absurd (true≢false (sym e))
not-either false true e = absurd (true≢false (sym e))

bare_parts : (v : List ℕ) → is_bare_value v ≡ true → (is_blank (get_or v 0 0) ≡ false) × (is_quote (get_or v 0 0) ≡ false) × (trimmed v ≡ length v)
unfolding is_bare_value
bare_parts v e =
    let a = (and-eq-true_iff (not (is_blank (get_or v 0 0) || is_quote (get_or v 0 0))) (eqb (trimmed v) (length v))).0 e in
    let b = not-either (is_blank (get_or v 0 0)) (is_quote (get_or v 0 0)) a.0 in
    (b.0, b.1, eqb-true (trimmed v) (length v) a.1)

-- one of the two
value-stands : (v : List ℕ) → is_value v ≡ true → (is_bare_value v || is_quotable v) ≡ true
unfolding is_value
value-stands v e = ((and-eq-true_iff (are_of InLine v) (is_bare_value v || is_quotable v)).0 e).1

pub value-solid : (v : List ℕ) → is_value v ≡ true → run Blank (value_text v) ≡ 0
unfolding value_text
value-solid v e = go (is_bare_value v) refl (value-stands v e)
  where
    go : (t : Bool) → is_bare_value v ≡ t → (is_bare_value v || is_quotable v) ≡ true → run Blank (cond t v (quoted v)) ≡ 0
    go true p h = solid-run v (bare_parts v p).0
    go false p h =
        let c = choose v (rw p at h) in
        rw c.chosen (solid-run (in_quotes c.quote v) (quote-byte c.quote c.is).0)

module _ (s : List ℕ) (at : ℕ) where
  bare-value-back : (v : List ℕ) → is_bare_value v ≡ true → drop at s ≡ v → Shows s (value_at s at) v
  unfolding value_at
  bare-value-back v e here =
      let b = bare_parts v e in
      let z : at + 0 ≡ at = omega arith in
      let f : get_or s at 0 ≡ get_or v 0 0 = sym (get_or-drop at s 0 0 ∙ rw z) ∙ ap (λ (x : List ℕ). get_or x 0 0) here in
      let st : Stands s at v [] = record { is = here ∙ sym (append-nil v) } in
      record {
        part = record { start = at; end = at + length v };
        next = length s;
        is = rw (f, b.1, here, b.2);
        shown = between-here st;
      }

  quoted-value-back : (v : List ℕ) → is_quotable v ≡ true → drop at s ≡ quoted v → Shows s (value_at s at) v
  unfolding value_at closed
  quoted-value-back v e here =
      let q = quoted-here s at v [] e (here ∙ sym (append-nil (quoted v))) in
      let next = at + 1 + length v + 1 in
      let end : length s ≤ skipped Blank s next = omega (arith, length-drop next s, ap length q.behind, skipped-from Blank s next) in
      record {
        part = record { start = at + 1; end = at + 1 + length v };
        next = next;
        is = rw (q.first, q.is, le-leb (length s) (skipped Blank s next) end);
        shown = q.shown;
      }

  pub value-back : (v : List ℕ) → is_value v ≡ true → drop at s ≡ value_text v → Shows s (value_at s at) v
  unfolding value_text
  value-back v e = go (is_bare_value v) refl (value-stands v e)
    where
      go : (t : Bool) → is_bare_value v ≡ t → (is_bare_value v || is_quotable v) ≡ true → drop at s ≡ cond t v (quoted v) → Shows s (value_at s at) v
      go true p h here = bare-value-back v p here
      go false p h here = quoted-value-back v (rw p at h) here

-- ---- a setting

pub equals-blank : (rest : List ℕ) → run Blank (61 ∷ rest) ≡ 0
unfolding run of_class is_blank
equals-blank rest = refl

-- a name and a value that are found, of which the value is an offset if the name wants it
zoned-back : (s n v : List ℕ) (at : ℕ) (name value : Part) → part_bytes s name ≡ n → part_bytes s value ≡ v → is_allowed_setting n v ≡ true
    → item_in s (zoned s at name value) ≡ setting n v ∷ []
unfolding zoned with_offset read_offset after_offset item_in is_allowed_setting
zoned-back s n v at name value e f z = rw (e, f) (go (same n zone_name) (is_offset v) z)
  where
    go : (a b : Bool) → cond a b true ≡ true
        → item_in s (cond a (after_offset at name value (cond b (Some (offset_of v)) None)) (Ok (line.Setting name value None))) ≡ setting n v ∷ []
    go true true z = rw (e, f)
    go true false z = absurd (true≢false (sym z))
    go false b z = rw (e, f)

behind-name : (s n v : List ℕ) → is_value v ≡ true → is_allowed_setting n v ≡ true → NameBack s 0 n (value_text v) → item_in s (setting_at s 0) ≡ setting n v ∷ []
unfolding setting_at after_name after_equals
behind-name s n v q z name =
    let next = name.found.next in
    let sign : Stands s next (61 ∷ []) (value_text v) = record { is = name.behind } in
    let value = value-back s (next + 1) v q (drop_past sign) in
    rw (
      name.found.is,
      not-skipped Blank s next (61 ∷ value_text v) name.behind (equals-blank (value_text v)),
      byte-here sign,
      not-skipped Blank s (next + 1) (value_text v) (drop_past sign) (value-solid v q),
      value.is,
    )
    (zoned-back s n v (next + 1) name.found.part value.part name.found.shown value.shown z)

pub setting-back : (n v : List ℕ) → is_name n ≡ true → is_value v ≡ true → is_allowed_setting n v ≡ true
    → item_in (name_text n ++ 61 ∷ value_text v) (setting_at (name_text n ++ 61 ∷ value_text v) 0) ≡ setting n v ∷ []
setting-back n v p q z = behind-name _ n v q z (name_back (name_text n ++ 61 ∷ value_text v) 0 (value_text v) n p refl)
