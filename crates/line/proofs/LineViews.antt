-- Views of a line that is read: for each answer of `content_of` and `read_line` all that is known of it, proved once. A property of lines is a
-- projection of these: an entry by its time and its command, a setting by its name and its value, a refusal by its number and its column.
-- Assumes nothing.
use Rattle.std.specs.Prelude.{Some, None, Option, ℤ, Ok, Err, Result}
use Rattle.refusal.specs.declared.Refusal.TheVariants.{LineTooLong, NulByte, NoCommand, BadSetting, BadOffset, ControlByte}
use Rattle.refusal.specs.Numbers.{number_of}
use mathlib.Core.Path.{◌≡◌, refl}
use mathlib.Core.Bool.{Bool, true, false, cond}
use mathlib.Core.List.{List}
use Prim.Native.Nat.{ℕ, ◌+◌, ◌≤◌, ◌<◌}
use native.Mathlib.Omega.{arith}
use lib.ListN.{length, get_or}
use lib.Dec.{eqb, leb, ltb}
use borrow.Author.Tests.{ltb-true, ltb-false, eqb-true}
use Rattle.octets.specs.declared.class.Class.TheVariants.{Blank, Not, InLine}
use Rattle.octets.specs.Runs.{skipped}
use Rattle.octets.proofs.Runs.{skipped-within, byte-within}
use Rattle.line.specs.declared.Rules.{Rules}
use Rattle.line.specs.declared.time.When.{When}
use Rattle.line.specs.declared.Part.{Part}
use Rattle.line.specs.declared.time.Time.{Time}
use Rattle.line.specs.declared.assignment.Text.{Text}
use Rattle.field.specs.declared.Fault.{Fault}
use Rattle.line.specs.declared.Line.{Line}
use Rattle.line.specs.declared.Line.TheVariants as line
use Rattle.line.specs.Limits.{max_line}
use Rattle.line.specs.declared.Kind.{Kind}
use Rattle.line.specs.declared.Kind.TheVariants.{User, System}
use Rattle.line.specs.declared.user.Owner.{Owner}
use Rattle.line.specs.declared.user.Column.{Column}
use Rattle.line.specs.Users.{column_of, column_at}
use Rattle.line.specs.Entries.{time_at, with_command, after_owner, with_user, by_kind, after_time, entry_at}
use Rattle.line.specs.Owners.{time_runs}
use Rattle.line.specs.Offsets.{zone_of, is_allowed_setting, Zoned}
use Rattle.line.specs.Assignments.{part_bytes, name_at, value_at, after_equals, after_name, setting_at}
use Rattle.line.specs.Lines.{starts_entry, content_from, content_of, byte_fault, read_line}
use Rattle.line.proofs.TimeViews.{LineRefused, refused, TimeView, time-view}
use Rattle.line.proofs.Zones.{zoned-is, zone-stands}
pub use Rattle.line.proofs.TextViews.{Inside}
use Rattle.line.proofs.TextViews.{FoundAs, NamePart, ValuePart, name-view, value-view, name-inside, value-inside}
use Rattle.line.specs.Times.{time_of}

-- ---- the views

-- the first byte that isn't blank
abbrev pub content_start : List ℕ → ℕ
content_start s = skipped Blank s 0

-- in a system table the command follows the user, of which the column is accepted
pub record AfterUser (s : List ℕ) (next start : ℕ) : Type 0 where
  pub owner : Owner
  pub end : ℕ
  pub column : column_at s next ≡ column_of owner end
  pub command : start ≡ skipped Blank s end

-- where the command starts, if the time ends at `next`
abbrev pub CommandAt : Kind → List ℕ → ℕ → ℕ → Type 0
CommandAt User s next start = start ≡ next
CommandAt System s next start = AfterUser s next start

-- an entry: its time, and its command, which isn't empty
pub record EntryView (rules : Rules) (s : List ℕ) (when : When) (start : ℕ) : Type 0 where
  pub next : ℕ
  pub time : time_at rules.dialect s (content_start s) ≡ time_of when next
  pub command : CommandAt rules.kind s next start
  pub some : start < length s

-- a setting: its name, which starts no other line, and its value, after blanks
pub record SettingView (s : List ℕ) (name value : Part) (zone : Option ℤ) : Type 0 where
  pub before : ℕ
  pub own : (eqb (get_or s (content_start s) 0) 35 ≡ false) × (starts_entry (get_or s (content_start s) 0) ≡ false)
  pub named : NamePart s (content_start s) name
  pub valued : ValuePart s (skipped Blank s before) value
  pub name_in : Inside (length s) name
  pub value_in : Inside (length s) value
  pub allowed : is_allowed_setting (part_bytes s name) (part_bytes s value) ≡ true
  pub offset : zone ≡ zone_of (part_bytes s name) (part_bytes s value)

module _ (rules : Rules) (s : List ℕ) where
  -- a line of any length
  abbrev pub ContentView : Result Line Fault → Type 0
  ContentView (Ok line.Ignored) = Unit {0}
  ContentView (Ok (line.Setting name value zone)) = SettingView s name value zone
  ContentView (Ok (line.Entry when start)) = EntryView rules s when start
  ContentView (Err fault) = LineRefused rules.dialect (length s + 1) fault.refusal fault.column

  -- a line that isn't too long, or is refused for it
  abbrev pub LineView : Result Line Fault → Type 0
  LineView (Ok line.Ignored) = length s ≤ max_line
  LineView (Ok (line.Setting name value zone)) = (length s ≤ max_line) × SettingView s name value zone
  LineView (Ok (line.Entry when start)) = (length s ≤ max_line) × EntryView rules s when start
  LineView (Err fault) = LineRefused rules.dialect (max_line + 1) fault.refusal fault.column

pub setting-zoned : {s : List ℕ} {name value : Part} {zone : Option ℤ} → SettingView s name value zone → Zoned zone
setting-zoned v = rw v.offset (zone-stands _ _ v.allowed)

module _ (rules : Rules) (s : List ℕ) where
  -- ---- an entry

  module _ (when : When) (next : ℕ) (is : time_at rules.dialect s (content_start s) ≡ time_of when next) where
    command-view : (start : ℕ) → CommandAt rules.kind s next start → ContentView rules s (with_command s when start)
    unfolding with_command number_of
    command-view start at = go (ltb start (length s)) refl
      where
        go : (t : Bool) → ltb start (length s) ≡ t
            → ContentView rules s (cond t (Ok (line.Entry when start)) (Err (record { refusal = NoCommand; column = length s + 1 })))
        go true p = record { next = next; time = is; command = at; some = ltb-true _ _ p }
        go false p = refused refl (omega arith)

    user-view : rules.kind ≡ System → ContentView rules s (with_user s when next)
    unfolding with_user after_owner with_command number_of
    user-view k = go (ltb next (length s)) (column_at s next) refl refl
      where
        go : (t : Bool) (c : Option Column) → ltb next (length s) ≡ t → column_at s next ≡ c
            → ContentView rules s (cond t (after_owner s when next c) (with_command s when next))
        go true (Some w) p q = command-view _ (rw k (record { owner = w.owner; end = w.next; column = q; command = refl }))
        go true None p q = refused refl (omega (arith, ltb-true next (length s) p))
        go false c p q = rw p (refused refl (omega arith))

    kind-view : (k : Kind) → rules.kind ≡ k → ContentView rules s (by_kind k (with_command s when next) (with_user s when next))
    kind-view User k = command-view next (rw k refl)
    kind-view System k = user-view k

  entry-view : ContentView rules s (entry_at rules s (content_start s))
  unfolding entry_at after_time
  entry-view = go (time_at rules.dialect s (content_start s)) refl (time-view rules.dialect s (content_start s))
    where
      go : (t : Result Time Fault) → time_at rules.dialect s (content_start s) ≡ t → TimeView rules.dialect s (content_start s) (time_runs s (content_start s)) t
          → ContentView rules s (after_time rules s t)
      go (Err fault) is h = h
      go (Ok t) is h = kind-view t.when t.next is rules.kind refl

  -- ---- a setting

  setting-view : (eqb (get_or s (content_start s) 0) 35 ≡ false) × (starts_entry (get_or s (content_start s) 0) ≡ false) → ContentView rules s (setting_at s (content_start s))
  unfolding setting_at after_name after_equals number_of
  setting-view own = named (name_at s at) (name-view s at)
    where
      at : ℕ
      at = content_start s

      h : at ≤ length s
      h = skipped-within Blank s 0 (omega arith)

      bad : ContentView rules s (Err (record { refusal = BadSetting; column = at + 1 }))
      bad = refused refl (omega (arith, h))

      named : (t : Option Text) → FoundAs (NamePart s at) t → ContentView rules s (after_name s at t)
      named None n = bad
      named (Some w) n = go (eqb (get_or s equals 0) 61) refl
        where
          equals : ℕ
          equals = skipped Blank s w.next

          start : ℕ
          start = skipped Blank s (equals + 1)

          valued : start ≤ length s → (v : Option Text) → FoundAs (ValuePart s start) v → ContentView rules s (after_equals s at start w.part v)
          valued l None v = bad
          valued l (Some x) v = rw (zoned-is s start w.part x.part) (may (is_allowed_setting (part_bytes s w.part) (part_bytes s x.part)) refl)
            where
              may : (t : Bool) → is_allowed_setting (part_bytes s w.part) (part_bytes s x.part) ≡ t
                  → ContentView rules s (cond t (Ok (line.Setting w.part x.part (zone_of (part_bytes s w.part) (part_bytes s x.part)))) (Err (record { refusal = BadOffset; column = start + 1 })))
              may true e =
                  record {
                    before = equals + 1;
                    own = own;
                    named = n;
                    valued = v;
                    name_in = name-inside s at h n;
                    value_in = value-inside s start l v;
                    allowed = e;
                    offset = refl;
                  }
              may false e = refused refl (omega arith)

          go : (b : Bool) → eqb (get_or s equals 0) 61 ≡ b
              → ContentView rules s (cond b (after_equals s at start w.part (value_at s start)) (Err (record { refusal = BadSetting; column = at + 1 })))
          go true p =
              let e : get_or s equals 0 ≡ 61 = eqb-true _ _ p in
              let k : equals < length s = byte-within s equals (omega arith) in
              let l : start ≤ length s = skipped-within Blank s (equals + 1) (omega arith) in
              valued l (value_at s start) (value-view s start)
          go false p = bad

  -- ---- by the first byte that isn't blank

  pub content-view : ContentView rules s (content_of rules s)
  unfolding content_of content_from
  content-view = go (leb (length s) at) (eqb (get_or s at 0) 35) (starts_entry (get_or s at 0)) refl refl
    where
      at : ℕ
      at = content_start s

      go : (a b c : Bool) → eqb (get_or s at 0) 35 ≡ b → starts_entry (get_or s at 0) ≡ c
          → ContentView rules s (cond a (Ok line.Ignored) (cond b (Ok line.Ignored) (cond c (entry_at rules s at) (setting_at s at))))
      go true b c p q = tt
      go false true c p q = tt
      go false false true p q = entry-view
      go false false false p q = setting-view (p, q)

  -- ---- any line

  short-view : length s ≤ max_line → (x : Result Line Fault) → ContentView rules s x → LineView rules s x
  short-view short (Ok line.Ignored) w = short
  short-view short (Ok (line.Setting name value z)) w = (short, w)
  short-view short (Ok (line.Entry when start)) w = (short, w)
  short-view short (Err fault) w = record { from = w.from; to = w.to; rising = w.rising; inside = omega (arith, w.inside) }

  pub line_view : LineView rules s (read_line rules s)
  unfolding read_line byte_fault number_of
  line_view = go (ltb max_line (length s)) (ltb (skipped InLine s 0) (length s)) (ltb (skipped (Not 0) s 0) (length s)) refl
    where
      fault : Bool → Fault
      fault t = cond t (record { refusal = NulByte; column = skipped (Not 0) s 0 + 1 }) (record { refusal = ControlByte; column = skipped InLine s 0 + 1 })

      go : (a b c : Bool) → ltb max_line (length s) ≡ a
          → LineView rules s (cond a (Err (record { refusal = LineTooLong; column = 1001 })) (cond b (Err (fault c)) (content_of rules s)))
      go true b c p = refused refl (omega arith)
      go false true true p =
          refused refl (omega (arith, ltb-false max_line (length s) p, skipped-within (Not 0) s 0 (omega arith)))
      go false true false p =
          refused refl (omega (arith, ltb-false max_line (length s) p, skipped-within InLine s 0 (omega arith)))
      go false false c p = short-view (ltb-false max_line (length s) p) (content_of rules s) content-view

  pub setting-proper : {name value : Part} {zone : Option ℤ} → read_line rules s ≡ Ok (line.Setting name value zone)
      → (length s ≤ max_line) × (Inside (length s) name) × (Inside (length s) value) × Zoned zone
  setting-proper p = let w = rw p at line_view in (w.0, w.1.name_in, w.1.value_in, setting-zoned w.1)

  pub entry-proper : {when : When} {start : ℕ} → read_line rules s ≡ Ok (line.Entry when start) → (length s ≤ max_line) × (start < length s)
  entry-proper p = let w = rw p at line_view in (w.0, w.1.some)

  -- what a setting says of the offset is what its name and value say, and those may stand
  pub setting-says : {name value : Part} {zone : Option ℤ} → read_line rules s ≡ Ok (line.Setting name value zone)
      → (zone ≡ zone_of (part_bytes s name) (part_bytes s value)) × (is_allowed_setting (part_bytes s name) (part_bytes s value) ≡ true)
  setting-says p = let w = rw p at line_view in (w.1.offset, w.1.allowed)
