-- Laws of a line: the item that it means is a proper one, and a proper item is read back from its text, which has no newline and no byte 0.
-- Assumes nothing.
use Rattle.std.specs.Prelude.{Ok, Err, Result}
use mathlib.Core.Path.{◌≡◌, refl, ap, ◌∙◌}
use mathlib.Core.Bool.{Bool, true, false, cond, ◌||◌, true≢false, and-eq-true_iff, ◌&&◌}
use mathlib.Core.List.{List, [], ◌∷◌, ◌++◌}
use Prim.Native.Nat.{ℕ}
use native.Mathlib.Omega.{arith}
use lib.ListN.{length}
use lib.Dec.{eqb}
use borrow.Author.Tests.{lt-leb}
use Rattle.octets.specs.Texts.{text}
use Rattle.octets.specs.declared.class.Class.TheVariants.{Blank, Not, InLine}
use Rattle.octets.specs.Classes.{is_blank, is_control, of_class}
use Rattle.octets.specs.Runs.{are_of, skipped, between}
use Rattle.octets.proofs.Places.{are-append, blank-end, solid-run, not-skipped}
use Rattle.field.specs.Limits.{minute_limits, hour_limits, day_limits, month_limits, weekday_limits}
use Rattle.field.specs.Numbers.{is_digit}
use Rattle.field.proofs.Theorems.{minute-usual, hour-usual, day-usual, month-usual, weekday-usual}
use Rattle.schedule.specs.declared.Schedule.{Schedule}
use Rattle.field.specs.declared.Dialect.{Dialect}
use Rattle.line.specs.declared.Line.{Line}
use Rattle.line.specs.declared.Line.TheVariants as line
use Rattle.line.proofs.Theorems.{time-view, content_start, ContentView, content-view}
use Rattle.line.specs.Assignments.{setting_at}
use Rattle.line.specs.Entries.{entry_at}
use Rattle.line.specs.Lines.{starts_entry, content_from, content_of}
use Rattle.normal.specs.Meanings.{Item, setting, boot, timed, of_user, item_in, line_items}
use Rattle.normal.specs.Texts.{in_quotes, quoted, starts_other, is_bare_name, is_bare_value, name_text, value_text, schedule_text, item_text}
use Rattle.line.specs.Offsets.{is_allowed_setting}
use Rattle.normal.specs.Proper.{is_quotable, is_name, is_value, is_command, is_schedule, is_item, are_items}
use Rattle.normal.proofs.Settings.{name-proper, value-proper}
use Rattle.normal.proofs.SettingTexts.{name-parts, name-starts, setting-back}
use Rattle.normal.proofs.Entries.{command-proper, entry-items}
use Rattle.normal.proofs.EntryTexts.{field-clean, command-parts, boot-back, timed-starts, timed-back}
use Rattle.field.specs.declared.Fault.{Fault}

-- ---- what is read is proper

pub line-proper : (d : Dialect) (s : List ℕ) → are_of InLine s ≡ true → are_items (line_items d s) ≡ true
unfolding line_items item_in are_items is_item starts_other
line-proper d s clean = go (content_of (of_user d) s) (content-view (of_user d) s)
  where
    go : (x : Result Line Fault) → ContentView (of_user d) s x → are_items (item_in s x) ≡ true
    go (Ok line.Ignored) w = refl
    go (Err f) w = refl
    go (Ok (line.Setting name value _)) w =
        let n = name-proper s clean (content_start s) (rw (w.own.0, w.own.1)) w.named in
        let v = value-proper s clean (skipped Blank s w.before) (blank-end s w.before) w.valued in
        rw (n, v, w.allowed)
    go (Ok (line.Entry when start)) w =
        let t = rw w.time at (time-view d s (content_start s)) in
        entry-items when (between s start (length s)) t.sets (command-proper s clean start w.some (rw w.command t.solid))

-- ---- what is proper is read back

-- a line by its first byte, which isn't blank
by_first : (d : Dialect) (b : ℕ) (more : List ℕ) → is_blank b ≡ false → content_of (of_user d) (b ∷ more) ≡ content_from (of_user d) (b ∷ more) 0 b
unfolding content_of
by_first d b more solid =
    let none : skipped Blank (b ∷ more) 0 ≡ 0 = not-skipped Blank (b ∷ more) 0 (b ∷ more) refl (solid-run (b ∷ more) solid) in
    rw (none, lt-leb (length (b ∷ more)) 0 (omega arith))

setting-first : (d : Dialect) (s : List ℕ) (b : ℕ) → starts_other b ≡ false → content_from (of_user d) s 0 b ≡ setting_at s 0
unfolding content_from starts_other
setting-first d s b e = go (eqb b 35) (starts_entry b) e
  where
    go : (t u : Bool) → (t || u) ≡ false → cond t (Ok line.Ignored) (cond u (entry_at (of_user d) s 0) (setting_at s 0)) ≡ setting_at s 0
    go false false e = refl
    go true u e = absurd (true≢false e)
    go false true e = absurd (true≢false e)

entry_first : (d : Dialect) (s : List ℕ) (b : ℕ) → eqb b 35 ≡ false → starts_entry b ≡ true → content_from (of_user d) s 0 b ≡ entry_at (of_user d) s 0
unfolding content_from
entry_first d s b p q = rw (p, q)

module _ (d : Dialect) (s : List ℕ) (b : ℕ) (more : List ℕ) (is : s ≡ b ∷ more) (solid : is_blank b ≡ false) where
  by_byte : content_of (of_user d) s ≡ content_from (of_user d) s 0 b
  by_byte = rw is (by_first d b more solid)

  setting-line : starts_other b ≡ false → line_items d s ≡ item_in s (setting_at s 0)
  unfolding line_items
  setting-line own = ap (item_in s) (by_byte ∙ setting-first d s b own)

  entry-line : eqb b 35 ≡ false → starts_entry b ≡ true → line_items d s ≡ item_in s (entry_at (of_user d) s 0)
  unfolding line_items
  entry-line p q = ap (item_in s) (by_byte ∙ entry_first d s b p q)

boot-line : (d : Dialect) (c : List ℕ) → line_items d (text "@reboot " ++ c) ≡ item_in (text "@reboot " ++ c) (entry_at (of_user d) (text "@reboot " ++ c) 0)
unfolding starts_entry is_digit is_blank
boot-line d c = entry-line d (text "@reboot " ++ c) 64 (text "reboot " ++ c) refl refl refl refl

pub line-back : (d : Dialect) (i : Item) → is_item i ≡ true → line_items d (item_text i) ≡ i ∷ []
unfolding is_item item_text
line-back d (setting name value) e =
    let t = (and-eq-true_iff (is_name name) (is_value value && is_allowed_setting name value)).0 e in
    let u = (and-eq-true_iff (is_value value) (is_allowed_setting name value)).0 t.1 in
    let f = name-starts name t.0 in
    setting-line d (name_text name ++ 61 ∷ value_text value) f.first (f.more ++ 61 ∷ value_text value)
    (ap (λ (n : List ℕ). n ++ 61 ∷ value_text value) f.is) f.solid f.own
    ∙ setting-back name value t.0 u.0 u.1
line-back d (boot command) e = boot-line d command ∙ boot-back d command e
line-back d (timed x command) e =
    let t = (and-eq-true_iff (is_schedule x) (is_command command)).0 e in
    let f = timed-starts x command t.0 in
    entry-line d (schedule_text x ++ 32 ∷ command) f.first f.more f.is f.solid f.no-comment f.entry
    ∙ timed-back x command t.0 d t.1

-- ---- its text has only bytes that a line may have

quoted-clean : (s : List ℕ) → are_of InLine s ≡ true → are_of InLine (quoted s) ≡ true
unfolding quoted of_class is_control are_of
quoted-clean s h = go (are_of (Not 34) s)
  where
    go : (t : Bool) → are_of InLine (cond t (in_quotes 34 s) (in_quotes 39 s)) ≡ true
    go true = are-append InLine s (34 ∷ []) h refl
    go false = are-append InLine s (39 ∷ []) h refl

text-clean : (t : Bool) (s : List ℕ) → are_of InLine s ≡ true → are_of InLine (cond t s (quoted s)) ≡ true
text-clean true s h = h
text-clean false s h = quoted-clean s h

spaced-clean : (a b : List ℕ) → are_of InLine a ≡ true → are_of InLine b ≡ true → are_of InLine (a ++ 32 ∷ b) ≡ true
unfolding of_class is_control are_of
spaced-clean a b h k = are-append InLine a (32 ∷ b) h k

schedule-clean : (x : Schedule) → are_of InLine (schedule_text x) ≡ true
unfolding schedule_text
schedule-clean x =
    search (spaced-clean, field-clean minute_limits minute-usual, field-clean hour_limits hour-usual, field-clean day_limits day-usual, field-clean month_limits month-usual, field-clean weekday_limits weekday-usual)

pub item-clean : (i : Item) → is_item i ≡ true → are_of InLine (item_text i) ≡ true
unfolding is_item item_text name_text value_text is_value of_class is_control are_of
item-clean (setting name value) e =
    let t = (and-eq-true_iff (is_name name) (is_value value && is_allowed_setting name value)).0 e in
    let u = (and-eq-true_iff (is_value value) (is_allowed_setting name value)).0 t.1 in
    let v = ((and-eq-true_iff (are_of InLine value) (is_bare_value value || is_quotable value)).0 u.0).0 in
    are-append InLine (name_text name) (61 ∷ value_text value) (text-clean (is_bare_name name) name (name-parts name t.0).clean)
    (text-clean (is_bare_value value) value v)
item-clean (boot command) e = (command-parts command e).clean
item-clean (timed x command) e =
    let t = (and-eq-true_iff (is_schedule x) (is_command command)).0 e in
    spaced-clean (schedule_text x) command (schedule-clean x) (command-parts command t.1).clean
