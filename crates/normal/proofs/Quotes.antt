-- Quotes stand only where a bare reading would differ: a name or a value that is read as itself when it stands bare is written bare.
-- Assumes nothing.
use Rattle.refusal.specs.declared.Refusal.TheVariants.{NoCommand, BadSetting}
use Rattle.std.specs.Prelude.{Some, None, Option, Ok, Err, Result}
use mathlib.Core.Path.{◌≡◌, refl, sym, ap, ◌∙◌}
use mathlib.Core.Bool.{Bool, true, false, cond, not, true≢false}
use mathlib.Core.Logic.{◌⊎◌, inl, inr}
use mathlib.Core.List.{List, [], ◌∷◌, ◌++◌}
use Prim.Native.Nat.{ℕ, ◌+◌, ◌-◌, ◌≤◌, ◌<◌}
use native.Mathlib.Nat.{lt_of_not-le}
use native.Mathlib.Decide.{dec_le}
use native.Mathlib.Omega.{arith}
use lib.ListN.{length, take, drop, get_or, length-take, length-append, length-drop, get_or-append}
use lib.Seq.{get_or-take, get_or-append_seam}
use lib.Dec.{eqb, leb, ltb}
use borrow.Author.Tests.{ltb-true, eq-eqb}
use Rattle.octets.specs.declared.class.Class.TheVariants.{Blank, Name, Not}
use Rattle.octets.specs.Classes.{is_blank, is_quote, of_class}
use Rattle.octets.specs.Runs.{run, are_of, skipped, trimmed}
use Rattle.octets.proofs.Runs.{skipped-from, trimmed-le}
use Rattle.octets.proofs.Places.{run-are, are-each, skipped-are, solid-run, solid-first, not-skipped, between-length, Stands, drop_past, byte-here, within-here}
use Rattle.field.specs.declared.Dialect.{Dialect}
use Rattle.line.specs.declared.Part.{Part}
use Rattle.line.specs.declared.time.When.{When}
use Rattle.line.specs.declared.time.When.TheVariants.{Reboot, Timed}
use Rattle.line.specs.declared.time.Time.{Time}
use Rattle.line.specs.declared.assignment.Text.{Text}
use Rattle.line.specs.declared.Line.{Line}
use Rattle.line.specs.declared.Line.TheVariants as line
use Rattle.line.specs.Assignments.{found, quoted_at, non_empty, name_at, closed, value_at, after_equals, after_name, setting_at, after_offset, with_offset, zoned, part_bytes}
use Rattle.line.specs.Words.{same}
use Rattle.line.specs.Offsets.{zone_name, is_offset, offset_of, read_offset}
use Rattle.line.specs.Entries.{time_at, with_command, after_time, entry_at}
use Rattle.line.specs.Lines.{starts_entry, content_from, content_of}
use Rattle.normal.specs.Meanings.{Item, setting, of_user, entry_item, item_in, line_items}
use Rattle.normal.specs.Texts.{starts_other, is_bare_name, is_bare_value, name_text}
use Rattle.normal.specs.Proper.{is_name}
use Rattle.normal.proofs.Settings.{bare-name}
use Rattle.normal.proofs.SettingTexts.{name-starts, NameBack, name_back, equals-blank}
use Rattle.field.specs.declared.Fault.{Fault}

-- ---- what a line that means a setting says

-- it is that setting
abbrev Means : List ℕ → List ℕ → List ℕ → Result Line Fault → Type 0
Means s n v (Ok line.Ignored) = ⊥
Means s n v (Ok (line.Setting name value _)) = (part_bytes s name ≡ n) × (part_bytes s value ≡ v)
Means s n v (Ok (line.Entry when start)) = ⊥
Means s n v (Err f) = ⊥

no-entry : (when : When) (c n v : List ℕ) (is : List Item) → entry_item when c ∷ is ≡ setting n v ∷ is → ⊥
unfolding entry_item
no-entry Reboot c n v is e = let z : ◌≡◌ {A = ℕ} 0 1 = cc in omega arith
no-entry (Timed x) c n v is e = let z : ◌≡◌ {A = ℕ} 0 1 = cc in omega arith

means : (s n v : List ℕ) (x : Result Line Fault) → item_in s x ≡ setting n v ∷ [] → Means s n v x
unfolding item_in
means s n v (Ok line.Ignored) e = omega (arith, ap length e)
means s n v (Ok (line.Setting name value _)) e = (cc, cc)
means s n v (Ok (line.Entry when start)) e = no-entry when _ n v [] e
means s n v (Err f) e = omega (arith, ap length e)

-- no entry does
entry-means : (d : Dialect) (s n v : List ℕ) (at : ℕ) → Means s n v (entry_at (of_user d) s at) → ⊥
unfolding entry_at after_time with_command
entry-means d s n v at = go (time_at d s at)
  where
    command : (b : Bool) (when : When) (next : ℕ) → Means s n v (cond b (Ok (line.Entry when next)) (Err (record { refusal = NoCommand; column = length s + 1 }))) → ⊥
    command true when next h = h
    command false when next h = h

    go : (t : Result Time Fault) → Means s n v (after_time (of_user d) s t) → ⊥
    go (Err f) h = h
    go (Ok t) h = command (ltb t.next (length s)) t.when t.next h

record Setting (s n v : List ℕ) (at : ℕ) : Type 0 where
  own : starts_other (get_or s at 0) ≡ false
  says : Means s n v (setting_at s at)

line-setting : (d : Dialect) (s n v : List ℕ) → line_items d s ≡ setting n v ∷ [] → Setting s n v (skipped Blank s 0)
unfolding line_items content_of content_from starts_other
line-setting d s n v e = go (leb (length s) (skipped Blank s 0)) (eqb (get_or s (skipped Blank s 0) 0) 35) (starts_entry (get_or s (skipped Blank s 0) 0)) refl refl (means s n v (content_of (of_user d) s) e)
  where
    at : ℕ
    at = skipped Blank s 0

    go : (a b c : Bool) → eqb (get_or s at 0) 35 ≡ b → starts_entry (get_or s at 0) ≡ c
        → Means s n v (cond a (Ok line.Ignored) (cond b (Ok line.Ignored) (cond c (entry_at (of_user d) s at) (setting_at s at)))) → Setting s n v at
    go true b c p q h = absurd h
    go false true c p q h = absurd h
    go false false true p q h = absurd (entry-means d s n v at h)
    go false false false p q h = record { own = rw (p, q); says = h }

-- whatever its value says of the offset
zoned-says : (s n v : List ℕ) (at : ℕ) (name value : Part) → Means s n v (zoned s at name value) → (part_bytes s name ≡ n) × (part_bytes s value ≡ v)
unfolding zoned with_offset read_offset after_offset
zoned-says s n v at name value = go (same (part_bytes s name) zone_name) (is_offset (part_bytes s value))
  where
    go : (a b : Bool)
        → Means s n v (cond a (after_offset at name value (cond b (Some (offset_of (part_bytes s value))) None)) (Ok (line.Setting name value None)))
        → (part_bytes s name ≡ n) × (part_bytes s value ≡ v)
    go true true h = h
    go true false h = absurd h
    go false b h = h

-- ---- a name

abbrev Named : List ℕ → List ℕ → Option Text → Type 0
Named s n None = ⊥
Named s n (Some w) = part_bytes s w.part ≡ n

module _ (s n v : List ℕ) (at : ℕ) where
  equals-says : (start : ℕ) (name : Part) (t : Option Text) → Means s n v (after_equals s at start name t) → part_bytes s name ≡ n
  unfolding after_equals
  equals-says start name None h = absurd h
  equals-says start name (Some w) h = (zoned-says s n v start name w.part h).0

  name-says : (t : Option Text) → Means s n v (after_name s at t) → Named s n t
  unfolding after_name
  name-says None h = h
  name-says (Some w) h = go (eqb (get_or s (skipped Blank s w.next) 0) 61) h
    where
      go : (b : Bool)
          → Means s n v (cond b (after_equals s at (skipped Blank s (skipped Blank s w.next + 1)) w.part (value_at s (skipped Blank s (skipped Blank s w.next + 1)))) (Err (record { refusal = BadSetting; column = at + 1 })))
          → part_bytes s w.part ≡ n
      go true h = equals-says _ w.part _ h
      go false h = absurd h

  found-named : (part : Part) (next : ℕ) → Named s n (non_empty (found part next)) → (part.start < part.end) × (part_bytes s part ≡ n)
  unfolding non_empty
  found-named part next h = go (ltb part.start part.end) refl h
    where
      go : (b : Bool) → ltb part.start part.end ≡ b → Named s n (cond b (found part next) None) → (part.start < part.end) × (part_bytes s part ≡ n)
      go true e h = (ltb-true part.start part.end e, h)
      go false e h = absurd h

  -- bare, or in quotes that it doesn't have
  name-how : starts_other (get_or s at 0) ≡ false → Named s n (name_at s at)
      → (is_bare_name n ≡ true) ⊎ ((is_quote (get_or s at 0) ≡ true) × (are_of (Not (get_or s at 0)) n ≡ true))
  unfolding name_at quoted_at non_empty
  name-how own h = go (is_quote q) (ltb end (length s)) refl h
    where
      q : ℕ
      q = get_or s at 0

      end : ℕ
      end = skipped (Not q) s (at + 1)

      go : (a b : Bool) → is_quote q ≡ a
          → Named s n (non_empty (cond a (cond b (found (record { start = at + 1; end = end }) (end + 1)) None) (found (record { start = at; end = skipped Name s at }) (skipped Name s at))))
          → (is_bare_name n ≡ true) ⊎ ((is_quote q ≡ true) × (are_of (Not q) n ≡ true))
      go true true e h =
          let f = found-named (record { start = at + 1; end = end }) (end + 1) h in
          inr (e, rw f.1 at (skipped-are (Not q) s (at + 1)))
      go true false e h = absurd h
      go false b e h =
          let f = found-named (record { start = at; end = skipped Name s at }) (skipped Name s at) h in
          inl (rw f.1 at (bare-name s at own f.0))

-- in quotes after blanks, before `=`, it isn't what stands bare
module _ (n rest : List ℕ) (at : ℕ) (blanks : are_of Blank (take at (n ++ 61 ∷ rest)) ≡ true) where
  within-name : (q : ℕ) → get_or (n ++ 61 ∷ rest) at 0 ≡ q → are_of (Not q) n ≡ true → at < length n → ⊥
  unfolding of_class
  within-name q here free h =
      let e : get_or n at 0 ≡ q = sym (get_or-append n (61 ∷ rest) 0 at h) ∙ here in
      let t : not (eqb (get_or n at 0) q) ≡ true = are-each (Not q) n at free h in
      true≢false (sym t ∙ rw (eq-eqb (get_or n at 0) q e))

  behind-name : (q : ℕ) → is_quote q ≡ true → get_or (n ++ 61 ∷ rest) at 0 ≡ q → length n ≤ at → ⊥
  unfolding is_quote of_class is_blank
  behind-name q is here h = elim (dec_le at (length n)) [ yes k ↦ same (omega arith) | no k ↦ past (lt_of_not-le k) ]
    where
      sign : get_or (n ++ 61 ∷ rest) (length n) 0 ≡ 61
      sign = get_or-append_seam n 61 rest 0

      same : at ≡ length n → ⊥
      same e =
          let z : q ≡ 61 = sym here ∙ rw e sign in
          true≢false (sym is ∙ rw z)

      past : length n < at → ⊥
      past k =
          let size : length n < length (take at (n ++ 61 ∷ rest)) = omega (arith, length-take at (n ++ 61 ∷ rest), length-append n (61 ∷ rest)) in
          let t : is_blank (get_or (take at (n ++ 61 ∷ rest)) (length n) 0) ≡ true = are-each Blank (take at (n ++ 61 ∷ rest)) (length n) blanks size in
          true≢false (sym t ∙ rw (get_or-take at (n ++ 61 ∷ rest) (length n) 0 k, sign))

blanks-first : (s : List ℕ) → are_of Blank (take (skipped Blank s 0) s) ≡ true
unfolding skipped
blanks-first s = let e : 0 + run Blank s ≡ run Blank s = omega arith in rw e (run-are Blank s)

pub name-bare : (d : Dialect) (n v rest : List ℕ) → line_items d (n ++ 61 ∷ rest) ≡ setting n v ∷ [] → is_bare_name n ≡ true
unfolding setting_at
name-bare d n v rest e =
    let r = line-setting d (n ++ 61 ∷ rest) n v e in
    go (name-how (n ++ 61 ∷ rest) n v at r.own (name-says (n ++ 61 ∷ rest) n v at (name_at (n ++ 61 ∷ rest) at) r.says))
  where
    at : ℕ
    at = skipped Blank (n ++ 61 ∷ rest) 0

    q : ℕ
    q = get_or (n ++ 61 ∷ rest) at 0

    blanks : are_of Blank (take at (n ++ 61 ∷ rest)) ≡ true
    blanks = blanks-first (n ++ 61 ∷ rest)

    go : (is_bare_name n ≡ true) ⊎ ((is_quote q ≡ true) × (are_of (Not q) n ≡ true)) → is_bare_name n ≡ true
    go (inl h) = h
    go (inr h) =
        absurd
        (elim (dec_le (length n) at) [ yes k ↦ behind-name n rest at blanks q h.0 refl k | no k ↦ within-name n rest at blanks q refl h.1 (lt_of_not-le k) ])

-- ---- a value

module _ (s v : List ℕ) where
  closed-named : (t : Option Text) → Named s v (closed s t) → Named s v t
  unfolding closed
  closed-named None h = h
  closed-named (Some w) h = go (leb (length s) (skipped Blank s w.next)) h
    where
      go : (b : Bool) → Named s v (cond b (found w.part w.next) None) → part_bytes s w.part ≡ v
      go true h = h
      go false h = absurd h

  quoted-length : (at : ℕ) → Named s v (quoted_at s at) → length v ≤ length s - (at + 1)
  unfolding quoted_at
  quoted-length at = go (ltb end (length s))
    where
      end : ℕ
      end = skipped (Not (get_or s at 0)) s (at + 1)

      go : (b : Bool) → Named s v (cond b (found (record { start = at + 1; end = end }) (end + 1)) None) → length v ≤ length s - (at + 1)
      go true h = omega (arith, (between-length s (at + 1) end).0, ap length h)
      go false h = absurd h

  -- one that isn't empty, behind blanks
  value-how : (from : ℕ) → from ≤ length s → drop from s ≡ v → 0 < length v → Named s v (value_at s (skipped Blank s from))
      → (skipped Blank s from ≡ from) × (is_quote (get_or s from 0) ≡ false) × (trimmed v ≡ length v)
  unfolding value_at
  value-how from inside here some = go (is_quote (get_or s at 0)) refl
    where
      at : ℕ
      at = skipped Blank s from

      end : ℕ
      end = at + trimmed (drop at s)

      size : length s ≡ from + length v
      size = omega (arith, length-drop from s, ap length here)

      go : (b : Bool) → is_quote (get_or s at 0) ≡ b → Named s v (cond b (closed s (quoted_at s at)) (found (record { start = at; end = end }) (length s)))
          → (skipped Blank s from ≡ from) × (is_quote (get_or s from 0) ≡ false) × (trimmed v ≡ length v)
      go true e h = absurd (let l = quoted-length at (closed-named (quoted_at s at) h) in omega (arith, size, skipped-from Blank s from))
      go false e h =
          let q : skipped Blank s from ≡ from = omega (arith, size, skipped-from Blank s from, (between-length s at end).0, ap length h) in
          let t : length v ≤ trimmed (drop (skipped Blank s from) s) = omega (arith, (between-length s at end).1, ap length h) in
          let u : length v ≤ trimmed v = rw (q, here) at t in
          (q, rw q at e, omega (arith, trimmed-le v))

bare-none : is_bare_value [] ≡ true
unfolding is_bare_value is_blank is_quote trimmed
bare-none = refl

bare-made : (v : List ℕ) → is_blank (get_or v 0 0) ≡ false → is_quote (get_or v 0 0) ≡ false → trimmed v ≡ length v → is_bare_value v ≡ true
unfolding is_bare_value
bare-made v b q t = rw (b, q) (eq-eqb (trimmed v) (length v) t)

value-alone : (s v : List ℕ) (from : ℕ) → from ≤ length s → drop from s ≡ v → Named s v (value_at s (skipped Blank s from)) → is_bare_value v ≡ true
unfolding skipped
value-alone s [] from inside here h = bare-none
value-alone s (b ∷ w) from inside here h =
    let r = value-how s (b ∷ w) from inside here (omega arith) h in
    let st : Stands s from (b ∷ []) w = record { is = here } in
    let none : run Blank (b ∷ w) ≡ 0 = omega (arith, r.0, ap (run Blank) here) in
    bare-made (b ∷ w) (solid-first b w none) (rw (byte-here st) at r.1) r.2

module _ (s n v : List ℕ) where
  value-says : (at start : ℕ) (name : Part) (t : Option Text) → Means s n v (after_equals s at start name t) → Named s v t
  unfolding after_equals
  value-says at start name None h = h
  value-says at start name (Some w) h = (zoned-says s n v start name w.part h).1

  behind-equals : NameBack s 0 n v → Means s n v (setting_at s 0) → is_bare_value v ≡ true
  unfolding setting_at after_name
  behind-equals name h =
      let next = name.found.next in
      let sign : Stands s next (61 ∷ []) v = record { is = name.behind } in
      let place = not-skipped Blank s next (61 ∷ v) name.behind (equals-blank v) in
      let k : Means s n v (after_equals s 0 (skipped Blank s (next + 1)) name.found.part (value_at s (skipped Blank s (next + 1)))) = rw (name.found.is, place, byte-here sign) at h in
      value-alone s v (next + 1) (omega (arith, within-here sign)) (drop_past sign) (value-says 0 (skipped Blank s (next + 1)) name.found.part (value_at s (skipped Blank s (next + 1))) k)

pub value-bare : (d : Dialect) (n v : List ℕ) → is_name n ≡ true → line_items d (name_text n ++ 61 ∷ v) ≡ setting n v ∷ [] → is_bare_value v ≡ true
value-bare d n v p e =
    let s = name_text n ++ 61 ∷ v in
    let f = name-starts n p in
    let first : name_text n ++ 61 ∷ v ≡ f.first ∷ (f.more ++ 61 ∷ v) = ap (λ (t : List ℕ). t ++ 61 ∷ v) f.is in
    let at : skipped Blank (name_text n ++ 61 ∷ v) 0 ≡ 0 =
    not-skipped Blank (name_text n ++ 61 ∷ v) 0 (f.first ∷ (f.more ++ 61 ∷ v)) first (solid-run (f.first ∷ (f.more ++ 61 ∷ v)) f.solid) in
    behind-equals (name_text n ++ 61 ∷ v) n v (name_back (name_text n ++ 61 ∷ v) 0 v n p refl) (rw at at (line-setting d (name_text n ++ 61 ∷ v) n v e).says)
