-- Laws of a table by its lines: a good table means what its lines mean, one after the other, and lines that are the texts of proper items make
-- a good table.
-- Assumes nothing.
use Rattle.std.specs.Prelude.{Option, Ok, Err, Result}
use mathlib.Core.Path.{◌≡◌, refl, sym, ap, ◌∙◌}
use mathlib.Core.Bool.{Bool, true, false, cond, not, ◌&&◌, and-eq-true_iff}
use mathlib.Core.List.{List, [], ◌∷◌, ◌++◌, map, append-nil}
use Prim.Native.Nat.{ℕ, suc, ◌+◌, ◌≤◌}
use native.Mathlib.Omega.{arith}
use lib.ListN.{length, drop}
use lib.Seq.{take_all}
use lib.IntN.{ℤ}
use Rattle.refusal.specs.declared.Refusal.TheVariants.{LineTooLong, TooManyEntries}
use Rattle.refusal.proofs.Numbers.{number-small}
use Rattle.field.specs.declared.Dialect.{Dialect}
use Rattle.line.specs.declared.Rules.{Rules}
use Rattle.line.specs.Offsets.{utc, zone_of, in_force}
use lib.Dec.{eqb, leb, ltb}
use borrow.Author.Tests.{ltb-true, ltb-false, lt-ltb, le-ltb, leb-true, not-true}
use Rattle.octets.specs.declared.class.Class.TheVariants.{Not, InLine}
use Rattle.octets.specs.Classes.{of_class}
use Rattle.octets.specs.Runs.{run, are_of, skipped, between}
use Rattle.octets.proofs.Runs.{run-over, no-newline}
use Rattle.octets.proofs.Places.{run-are, are_all, are-so, Stands, between-part}
use Rattle.line.specs.declared.Part.{Part}
use Rattle.line.specs.declared.time.When.{When}
use Rattle.line.specs.declared.time.When.TheVariants.{Reboot, Timed}
use Rattle.line.specs.declared.Line.{Line}
use Rattle.line.specs.declared.Line.TheVariants as line
use Rattle.crontab.specs.declared.table.Table.{Table}
use Rattle.crontab.specs.Limits.{max_table, max_entries}
use Rattle.line.specs.Limits.{max_line}
use Rattle.crontab.specs.Lines.{onto, lines_of, is_cut, is_last}
use Rattle.line.specs.Lines.{content_of, byte_fault, read_line}
use Rattle.crontab.specs.Items.{Items, placed, moved, after_line, items_from, items_of}
use Rattle.crontab.specs.Items as items
use Rattle.line.specs.Assignments.{part_bytes}
use Rattle.crontab.specs.Tables.{refused_table, empty_table, with_entry, with_items, table_of, refusal_in}
use Rattle.crontab.proofs.Theorems.{LinesAt, lines_at, table-short}
use Rattle.line.proofs.Theorems.{Inside, LineView, line_view}
use Rattle.crontab.proofs.Sound.{SoundItems, items-sound}
use Rattle.normal.specs.Meanings.{Item, setting, boot, timed, entry_item, entries_in, of_user, meanings, meaning_of, item_in, line_items, items_in, offsets_from, entry_offsets}
use Rattle.normal.specs.Texts.{item_text, normal_text, are_short}
use Rattle.normal.specs.Proper.{is_item, are_items}
use Rattle.normal.proofs.Lines as lines
use Rattle.field.specs.declared.Fault.{Fault}

-- ---- items without a fault

abbrev pub Clean : Items → Type 0
Clean items.done = Unit {0}
Clean (items.fault refusal line column) = ⊥
Clean (items.setting line name value later) = Clean later
Clean (items.entry e later) = Clean later

pub good-clean : (rules : Rules) (s : List ℕ) (m k : ℕ) (t : Table) (x : Items) → SoundItems rules s m k x → refusal_in (with_items t x) ≡ 0 → Clean x
unfolding with_items refused_table
good-clean rules s m k t items.done h e = tt
good-clean rules s m k t (items.fault refusal line column) h e = omega (arith, e, number-small refusal)
good-clean rules s m k t (items.setting line name value later) h e = good-clean rules s (line + 1) k t later h.2 e
good-clean rules s m k t (items.entry x later) h e = good-clean rules s (x.line + 1) (k + 1) (with_entry t x) later h.2 e

clean-good : (t : Table) (x : Items) → Clean x → refusal_in (with_items t x) ≡ 0
unfolding with_items with_entry
clean-good t items.done h = refl
clean-good t (items.fault refusal line column) h = absurd h
clean-good t (items.setting line name value later) h = clean-good t later h
clean-good t (items.entry x later) h = clean-good (with_entry t x) later h

-- ---- lines

-- no newline in any of them
abbrev Free : List (List ℕ) → Type 0
Free [] = Unit {0}
Free (l ∷ ls) = (are_of (Not 10) l ≡ true) × Free ls

onto-free : (b : ℕ) (ls : List (List ℕ)) → eqb b 10 ≡ false → Free ls → Free (onto b ls)
unfolding onto are_of of_class
onto-free b [] e h = (rw e, tt)
onto-free b (l ∷ ls) e h = (rw e h.0, h.1)

lines-free : (s : List ℕ) → Free (lines_of s)
unfolding lines_of are_of
lines-free [] = tt
lines-free (b ∷ s) = go (eqb b 10) refl (lines-free s)
  where
    go : (c : Bool) → eqb b 10 ≡ c → Free (lines_of s) → Free (cond c ([] ∷ lines_of s) (onto b (lines_of s)))
    go true e h = (refl, h)
    go false e h = onto-free b (lines_of s) e h

-- ---- a line that isn't refused

abbrev Read : Result Line Fault → Type 0
Read (Ok line.Ignored) = Unit {0}
Read (Ok (line.Setting name value _)) = Unit {0}
Read (Ok (line.Entry when start)) = Unit {0}
Read (Err f) = ⊥

whole-are : (s : List ℕ) → length s ≤ run InLine s → are_of InLine s ≡ true
whole-are s h = rw take_all at (run-are InLine s)

line_read : (d : Dialect) (s : List ℕ) → Read (read_line (of_user d) s) → (read_line (of_user d) s ≡ content_of (of_user d) s) × (are_of InLine s ≡ true)
unfolding read_line skipped
line_read d s h = go (ltb max_line (length s)) (ltb (0 + run InLine s) (length s)) refl h
  where
    go : (a b : Bool) → ltb (0 + run InLine s) (length s) ≡ b
        → Read (cond a (Err (record { refusal = LineTooLong; column = 1001 })) (cond b (Err (byte_fault s)) (content_of (of_user d) s)))
        → (cond a (Err (record { refusal = LineTooLong; column = 1001 })) (cond b (Err (byte_fault s)) (content_of (of_user d) s)) ≡ content_of (of_user d) s)
        × (are_of InLine s ≡ true)
    go true b e h = absurd h
    go false true e h = absurd h
    go false false e h = (refl, whole-are s (omega (arith, ltb-false (0 + run InLine s) (length s) e)))

-- a line that is short enough and has only bytes that it may have
line_plain : (d : Dialect) (s : List ℕ) → length s ≤ max_line → are_of InLine s ≡ true → read_line (of_user d) s ≡ content_of (of_user d) s
unfolding read_line skipped run
line_plain d s short clean =
    let all : run InLine s ≡ length s + 0 = rw append-nil at (run-over InLine s [] (are_all InLine s clean)) in
    rw (le-ltb max_line (length s) short, le-ltb (0 + run InLine s) (length s) (omega arith))

-- ---- one line more

entry-one : (when : When) (c : List ℕ) (is : List Item) → entries_in (entry_item when c ∷ is) ≡ suc (entries_in is)
unfolding entries_in entry_item
entry-one Reboot c is = refl
entry-one (Timed x) c is = refl

-- what a line gives where no fault follows, behind k entries
record Given (s l : List ℕ) (k : ℕ) (x : Result Line Fault) (later : ℕ → ℤ → Items) (all : Items) : Type 0 where
  count : ℕ
  offset : ℤ
  read : Read x
  clean : Clean (later count offset)
  counts : count ≡ k + entries_in (item_in l x)
  few : k ≤ max_entries → count ≤ max_entries
  means : meanings s all ≡ item_in l x ++ meanings s (later count offset)

module _ (s l : List ℕ) (at : ℕ) (here : Stands s at l (drop (at + length l) s)) where
  part-here : (p : Part) → Inside (length l) p → part_bytes s (moved at p) ≡ part_bytes l p
  part-here p i = between-part here p.start p.end i.order i.within

  line-given : (rules : Rules) (n k : ℕ) (o : ℤ) (x : Result Line Fault) (later : ℕ → ℤ → Items) → LineView rules l x → Clean (after_line at n (length l) k o x later)
      → Given s l k x later (after_line at n (length l) k o x later)
  unfolding after_line item_in meanings entries_in
  line-given rules n k o (Ok line.Ignored) later p h =
      record { count = k; offset = o; read = tt; clean = h; counts = omega arith; few = λ f. f; means = refl }
  line-given rules n k o (Ok (line.Setting name value zone)) later p h =
      record {
        count = k;
        offset = in_force zone o;
        read = tt;
        clean = h;
        counts = omega arith;
        few = λ f. f;
        means = rw (part-here name p.1.name_in, part-here value p.1.value_in);
      }
  line-given rules n k o (Err f) later p h = absurd h
  line-given rules n k o (Ok (line.Entry when start)) later p h = go (ltb k max_entries) refl h
    where
      go : (t : Bool) → ltb k max_entries ≡ t → Clean (cond t (items.entry (placed at n (length l) o when start) (later (k + 1) o)) (items.fault TooManyEntries n 1))
          → Given s l k (Ok (line.Entry when start)) later (cond t (items.entry (placed at n (length l) o when start) (later (k + 1) o)) (items.fault TooManyEntries n 1))
      go true e h =
          record {
            count = k + 1;
            offset = o;
            read = tt;
            clean = h;
            counts = omega (arith, entry-one when (between l start (length l)) []);
            few = λ f. omega (arith, ltb-true k max_entries e);
            means = rw (between-part here start (length l) (omega (arith, p.1.some)) (omega arith));
          }
      go false e h = absurd h

-- ---- all lines

are-items-append : (a b : List Item) → are_items a ≡ true → are_items b ≡ true → are_items (a ++ b) ≡ true
unfolding are_items
are-items-append [] b p q = q
are-items-append (i ∷ a) b p q =
    let t = (and-eq-true_iff (is_item i) (are_items a)).0 p in
    rw t.0 (are-items-append a b t.1 q)

entries-append : (a b : List Item) → entries_in (a ++ b) ≡ entries_in a + entries_in b
unfolding entries_in
entries-append [] b = omega arith
entries-append (setting name value ∷ a) b = entries-append a b
entries-append (boot command ∷ a) b = rw (entries-append a b) (omega arith)
entries-append (timed x command ∷ a) b = rw (entries-append a b) (omega arith)

-- what lines give where there is no fault, behind k entries
record Meant (d : Dialect) (s : List ℕ) (k : ℕ) (ls : List (List ℕ)) (all : Items) : Type 0 where
  means : meanings s all ≡ items_in d ls
  proper : are_items (items_in d ls) ≡ true
  few : k ≤ max_entries → k + entries_in (items_in d ls) ≤ max_entries

-- where there is no fault, no line is the last of a cut table
uncut : (c : Bool) (f g : Items) → Clean (cond c f g) → (Clean f → ⊥) → (cond c f g ≡ g) × Clean g
uncut true f g h n = absurd (n h)
uncut false f g h n = (refl, h)

lines-meant : (d : Dialect) (s : List ℕ) (c : Bool) (at n k : ℕ) (o : ℤ) (ls : List (List ℕ)) → LinesAt s at ls → Free ls → Clean (items_from (of_user d) c at n k o ls)
    → Meant d s k ls (items_from (of_user d) c at n k o ls)
unfolding items_from items_in line_items meanings are_items entries_in
lines-meant d s c at n k o [] lie free h = record { means = refl; proper = refl; few = λ f. omega arith }
lines-meant d s c at n k o (l ∷ ls) lie free h =
    let u = uncut (c && is_last ls) _ _ h (λ z. z) in
    let g = line-given s l at lie.0 (of_user d) n k o (read_line (of_user d) l) (λ j next. items_from (of_user d) c (at + length l + 1) (n + 1) j next ls) (line_view (of_user d) l) u.1 in
    let r = line_read d l g.read in
    let m = lines-meant d s c (at + length l + 1) (n + 1) g.count g.offset ls lie.2 free.1 g.clean in
    let e : item_in l (read_line (of_user d) l) ≡ line_items d l = ap (item_in l) r.0 in
    record {
      means = rw u.0 (g.means ∙ rw (e, m.means));
      proper = are-items-append (line_items d l) (items_in d ls) (lines.line-proper d l r.1) m.proper;
      few = λ f. omega (arith, m.few (g.few f), g.counts, entries-append (line_items d l) (items_in d ls), ap entries_in e);
    }

-- ---- a good table

-- a table that isn't refused has no fault, and is short enough
abbrev table_items : (d : Dialect) → List ℕ → Items
table_items d s = items_from (of_user d) (is_cut s) 0 1 0 utc (lines_of s)

items-of : (d : Dialect) (s : List ℕ) → length s ≤ max_table → items_of (of_user d) s ≡ table_items d s
unfolding items_of
items-of d s h = rw (le-ltb max_table (length s) h)

good-items : (d : Dialect) (s : List ℕ) → refusal_in (table_of (of_user d) s) ≡ 0 → Clean (table_items d s)
unfolding table_of
good-items d s e =
    let i = items-of d s (table-short (of_user d) s e) in
    rw i at (good-clean (of_user d) s 1 0 empty_table (items_of (of_user d) s) (items-sound (of_user d) s) e)

items-good : (d : Dialect) (s : List ℕ) → length s ≤ max_table → Clean (table_items d s) → refusal_in (table_of (of_user d) s) ≡ 0
unfolding table_of
items-good d s short h = rw (items-of d s short) (clean-good empty_table (table_items d s) h)

meant : (d : Dialect) (s : List ℕ) → Clean (table_items d s) → Meant d s 0 (lines_of s) (table_items d s)
meant d s h = lines-meant d s (is_cut s) 0 1 0 utc (lines_of s) (lines_at s 0 s refl) (lines-free s) h

-- a good table means what its lines mean
pub meaning-lines : (d : Dialect) (s : List ℕ) → refusal_in (table_of (of_user d) s) ≡ 0 → meaning_of d s ≡ items_in d (lines_of s)
unfolding meaning_of
meaning-lines d s e = rw (items-of d s (table-short (of_user d) s e)) (meant d s (good-items d s e)).means

-- and has proper items, no more entries than there may be
pub meaning-proper : (d : Dialect) (s : List ℕ) → refusal_in (table_of (of_user d) s) ≡ 0 → are_items (meaning_of d s) ≡ true
meaning-proper d s e = rw (meaning-lines d s e) (meant d s (good-items d s e)).proper

pub meaning-few : (d : Dialect) (s : List ℕ) → refusal_in (table_of (of_user d) s) ≡ 0 → entries_in (meaning_of d s) ≤ max_entries
meaning-few d s e = rw (meaning-lines d s e) (let f = (meant d s (good-items d s e)).few (omega arith) in omega arith)

-- ---- lines that are the texts of proper items

-- a line up to its newline
first-line : (l rest : List ℕ) → are_of (Not 10) l ≡ true → lines_of (l ++ 10 ∷ rest) ≡ l ∷ lines_of rest
unfolding lines_of are_of of_class onto
first-line [] rest h = refl
first-line (b ∷ l) rest h =
    let t = (and-eq-true_iff (not (eqb b 10)) (are_of (Not 10) l)).0 h in
    rw (not-true (eqb b 10) t.0, first-line l rest t.1)

pub lines-written : (is : List Item) → are_items is ≡ true → lines_of (normal_text is) ≡ map item_text is
unfolding normal_text are_items lines_of
lines-written [] h = refl
lines-written (i ∷ is) h =
    let t = (and-eq-true_iff (is_item i) (are_items is)).0 h in
    first-line (item_text i) (normal_text is) (are-so InLine (Not 10) no-newline (item_text i) (lines.item-clean i t.0))
    ∙ rw (lines-written is t.1)

-- and its last byte is a newline
uncut-before : (a b : List ℕ) → is_cut b ≡ false → is_cut (a ++ 10 ∷ b) ≡ false
unfolding is_cut
uncut-before [] [] h = refl
uncut-before [] (x ∷ b) h = h
uncut-before (y ∷ []) b h = uncut-before [] b h
uncut-before (y ∷ z ∷ a) b h = uncut-before (z ∷ a) b h

written-uncut : (is : List Item) → is_cut (normal_text is) ≡ false
unfolding normal_text is_cut
written-uncut [] = refl
written-uncut (i ∷ is) = uncut-before (item_text i) (normal_text is) (written-uncut is)

pub items-written : (d : Dialect) (is : List Item) → are_items is ≡ true → items_in d (map item_text is) ≡ is
unfolding items_in are_items
items-written d [] h = refl
items-written d (i ∷ is) h =
    let t = (and-eq-true_iff (is_item i) (are_items is)).0 h in
    rw (lines.line-back d i t.0, items-written d is t.1)

-- a line that means an item, behind so few entries that it isn't refused with R12
line_kept : (at n size k : ℕ) (o : ℤ) (l : List ℕ) (x : Result Line Fault) (i : Item) (later : ℕ → ℤ → Items) → item_in l x ≡ i ∷ [] → k + entries_in (i ∷ []) ≤ max_entries
    → ((next : ℤ) → Clean (later (k + entries_in (i ∷ [])) next)) → Clean (after_line at n size k o x later)
unfolding after_line item_in entries_in
line_kept at n size k o l (Ok line.Ignored) i later e few h = absurd (omega (arith, ap length e))
line_kept at n size k o l (Ok (line.Setting name value zone)) i later e few h =
    let q : k + entries_in (i ∷ []) ≡ k = omega (arith, ap entries_in e) in
    rw q at (h (in_force zone o))
line_kept at n size k o l (Ok (line.Entry when start)) i later e few h =
    let q : k + entries_in (i ∷ []) ≡ k + 1 = omega (arith, ap entries_in e, entry-one when (between l start (length l)) []) in
    rw (lt-ltb k max_entries (omega arith)) (rw q at (h o))
line_kept at n size k o l (Err f) i later e few h = absurd (omega (arith, ap length e))

line-means : (d : Dialect) (i : Item) → is_item i ≡ true → item_in (item_text i) (content_of (of_user d) (item_text i)) ≡ i ∷ []
unfolding line_items
line-means d i e = lines.line-back d i e

kept : (d : Dialect) (at n k : ℕ) (o : ℤ) (is : List Item) → are_items is ≡ true → are_short is ≡ true → k + entries_in is ≤ max_entries → Clean (items_from (of_user d) false at n k o (map item_text is))
unfolding items_from are_items are_short
kept d at n k o [] p q few = tt
kept d at n k o (i ∷ is) p q few =
    let l = item_text i in
    let t = (and-eq-true_iff (is_item i) (are_items is)).0 p in
    let u = (and-eq-true_iff (leb (length (item_text i)) max_line) (are_short is)).0 q in
    let more : entries_in (i ∷ is) ≡ entries_in (i ∷ []) + entries_in is = entries-append (i ∷ []) is in
    let plain = line_plain d (item_text i) (leb-true (length (item_text i)) max_line u.0) (lines.item-clean i t.0) in
    line_kept at n (length (item_text i)) k o (item_text i) (read_line (of_user d) (item_text i)) i (λ j next. items_from (of_user d) false (at + length (item_text i) + 1) (n + 1) j next (map item_text is))
    (ap (item_in (item_text i)) plain ∙ line-means d i t.0) (omega arith)
    (λ next. kept d (at + length (item_text i) + 1) (n + 1) (k + entries_in (i ∷ [])) next is t.1 u.1 (omega arith))

-- proper items that fit make a good table, which means them
module _ (d : Dialect) (is : List Item) (proper : are_items is ≡ true) (short : are_short is ≡ true) (small : length (normal_text is) ≤ max_table) (few : entries_in is ≤ max_entries) where
  pub written-good : refusal_in (table_of (of_user d) (normal_text is)) ≡ 0
  written-good =
      items-good d (normal_text is) small (rw (written-uncut is, lines-written is proper) (kept d 0 1 0 utc is proper short (omega arith)))

  pub written-means : meaning_of d (normal_text is) ≡ is
  written-means = meaning-lines d (normal_text is) written-good ∙ rw (lines-written is proper) (items-written d is proper)

-- ---- offsets

entry-under : (o : ℤ) (when : When) (c : List ℕ) (is : List Item) → offsets_from o (entry_item when c ∷ is) ≡ o ∷ offsets_from o is
unfolding offsets_from entry_item
entry-under o Reboot c is = refl
entry-under o (Timed x) c is = refl

setting-under : (o : ℤ) (n v : List ℕ) (zone : Option ℤ) (is : List Item) → zone ≡ zone_of n v → offsets_from o (setting n v ∷ is) ≡ offsets_from (in_force zone o) is
unfolding offsets_from
setting-under o n v _ is e = ap (λ (z : Option ℤ). offsets_from (in_force z o) is) (sym e)

-- entries are under the offset that the settings before them say
lines-under : (d : Dialect) (s : List ℕ) (c : Bool) (at n k : ℕ) (o : ℤ) (ls : List (List ℕ)) → LinesAt s at ls → Clean (items_from (of_user d) c at n k o ls)
    → entry_offsets (items_from (of_user d) c at n k o ls) ≡ offsets_from o (meanings s (items_from (of_user d) c at n k o ls))
unfolding items_from after_line entry_offsets meanings offsets_from
lines-under d s c at n k o [] lie h = refl
lines-under d s c at n k o (l ∷ ls) lie h =
    let u = uncut (c && is_last ls) _ _ h (λ z. z) in
    rw u.0 (go (read_line (of_user d) l) refl (line_view (of_user d) l) u.1 (λ j next. lines-under d s c (at + length l + 1) (n + 1) j next ls lie.2))
  where
    later : ℕ → ℤ → Items
    later j next = items_from (of_user d) c (at + length l + 1) (n + 1) j next ls

    go : (x : Result Line Fault) → read_line (of_user d) l ≡ x → LineView (of_user d) l x → Clean (after_line at n (length l) k o x later)
        → ((j : ℕ) (next : ℤ) → Clean (later j next) → entry_offsets (later j next) ≡ offsets_from next (meanings s (later j next)))
        → entry_offsets (after_line at n (length l) k o x later) ≡ offsets_from o (meanings s (after_line at n (length l) k o x later))
    go (Ok line.Ignored) e p h more = more k o h
    go (Ok (line.Setting name value zone)) e p h more =
        let z = p.1.offset in
        rw (part-here s l at lie.0 name p.1.name_in, part-here s l at lie.0 value p.1.value_in)
        (more k (in_force zone o) h ∙ sym (setting-under o (part_bytes l name) (part_bytes l value) zone (meanings s (later k (in_force zone o))) z))
    go (Err f) e p h more = absurd h
    go (Ok (line.Entry when start)) e p h more = entry (ltb k max_entries) h
      where
        entry : (t : Bool) → Clean (cond t (items.entry (placed at n (length l) o when start) (later (k + 1) o)) (items.fault TooManyEntries n 1))
            → let x = cond t (items.entry (placed at n (length l) o when start) (later (k + 1) o)) (items.fault TooManyEntries n 1) in
            entry_offsets x ≡ offsets_from o (meanings s x)
        entry true h = rw (more (k + 1) o h) (sym (entry-under o when _ (meanings s (later (k + 1) o))))
        entry false h = absurd h

pub meaning-offsets : (d : Dialect) (s : List ℕ) → refusal_in (table_of (of_user d) s) ≡ 0 → entry_offsets (items_of (of_user d) s) ≡ offsets_from utc (meaning_of d s)
unfolding meaning_of
meaning-offsets d s e =
    rw (items-of d s (table-short (of_user d) s e)) (lines-under d s (is_cut s) 0 1 0 utc (lines_of s) (lines_at s 0 s refl) (good-items d s e))
