-- A table line by line, for tables of any length: what each line of it is in it, by the lines before it. Entry and setting are where their line is, an entry
-- is under the last offset before it, a fault refuses the table with its line's number, and a table that has none is good.
-- Assumes nothing.
use Rattle.std.specs.Prelude.{Option, Ok, Err, Result}
use mathlib.Core.Path.{◌≡◌, refl, sym, ap, ◌∙◌}
use mathlib.Core.Bool.{Bool, true, false, cond, ◌&&◌, and-false, true≢false}
use mathlib.Core.List.{List, [], ◌∷◌, ◌++◌}
use Prim.Native.Nat.{ℕ, ◌+◌, ◌≤◌, ◌<◌}
use native.Mathlib.Omega.{arith}
use lib.ListN.{length}
use lib.IntN.{ℤ}
use lib.Dec.{ltb}
use borrow.Author.Tests.{lt-ltb, le-ltb, ltb-true, ne_eqb, eq-eqb}
use Rattle.std.specs.Prelude.{Result, Ok, Err}
use Rattle.refusal.specs.declared.Refusal.{Refusal}
use Rattle.refusal.specs.declared.Refusal.TheVariants.{TableTooLong, TooManyEntries, NoSuchEntry, CutTable}
use Rattle.line.specs.declared.Rules.{Rules}
use Rattle.line.specs.declared.Part.{Part}
use Rattle.crontab.specs.declared.entry.Entry.{Entry}
use Rattle.line.specs.declared.time.When.{When}
use Rattle.field.specs.declared.Fault.{Fault}
use Rattle.line.specs.declared.Line.{Line}
use Rattle.line.specs.declared.Line.TheVariants as line
use Rattle.crontab.specs.declared.item.Cursor.{Cursor}
use Rattle.crontab.specs.Limits.{max_table, max_entries}
use Rattle.line.specs.Offsets.{utc, in_force}
use Rattle.crontab.specs.Refusals.{no_setting}
use Rattle.crontab.specs.Lines.{lines_of, is_cut, is_last}
use Rattle.line.specs.Lines.{read_line}
use Rattle.crontab.specs.Items.{Items, done, fault, setting, entry, moved, placed, after_line, last_fault, fault_of, items_from, items_of}
use Rattle.crontab.specs.Tables.{table_of, verdict_of, entry_in, refusal_in}
use Rattle.crontab.specs.Settings.{shown, setting_from, setting_in}
use Rattle.refusal.proofs.Numbers.{number-small}
use Rattle.crontab.proofs.Theorems.{table-short}
use Rattle.crontab.proofs.Tables.{entry_from, verdict_from, table-verdict, verdict-refusal, table-entry}
use Rattle.crontab.specs.LineByLine.{Accepted, NoSetting, entries_in, offset_after, AllAccepted, bytes_of, entries_among, offset_after_all}
use Rattle.crontab.specs.declared.setting.Setting.{Setting}
use Rattle.crontab.specs.declared.table.TableFault.{TableFault}

-- ---- the cursor after some lines

abbrev counted : Result Line Fault → ℕ → ℕ
counted (Ok line.Ignored) k = k
counted (Ok (line.Setting name value _)) k = k
counted (Ok (line.Entry when start)) k = k + 1
counted (Err f) k = k

abbrev onward : Cursor → List ℕ → Result Line Fault → Cursor
onward c l x = record { at = c.at + length l + 1; line = c.line + 1; count = counted x c.count; offset = offset_after x c.offset }

unfoldable after : Rules → Cursor → List (List ℕ) → Cursor
after rules c [] = c
after rules c (l ∷ ls) = after rules (onward c l (read_line rules l)) ls

abbrev from : Rules → Bool → Cursor → List (List ℕ) → Items
from rules cut c ls = items_from rules cut c.at c.line c.count c.offset ls

some_left : (before : List (List ℕ)) (l : List ℕ) (ls : List (List ℕ)) → is_last (before ++ l ∷ ls) ≡ false
unfolding is_last
some_left [] l ls = refl
some_left (b ∷ before) l ls = refl

-- a line that isn't the last of a cut table
module _ (rules : Rules) (cut : Bool) (c : Cursor) (l : List ℕ) (ls : List (List ℕ)) where
  abbrev later : ℕ → ℤ → Items
  later k o = items_from rules cut (c.at + length l + 1) (c.line + 1) k o ls

  abbrev inside : Items
  inside = after_line c.at c.line (length l) c.count c.offset (read_line rules l) later

  line-inside : (cut && is_last ls) ≡ false → from rules cut c (l ∷ ls) ≡ inside
  unfolding items_from
  line-inside e = rw e

-- what a walk makes of the items from a cursor on is the same from the cursor after some lines, where each of them changes nothing
module _ {A : Type 0} (rules : Rules) (cut : Bool) (w : Cursor → Items → A) (P : Cursor → Type 0)
    (back : (c : Cursor) (l : List ℕ) (x : Result Line Fault) → P (onward c l x) → P c)
    (each : (c : Cursor) (l : List ℕ) (ls : List (List ℕ)) (x : Result Line Fault) → Accepted x → P (onward c l x)
    → w c (after_line c.at c.line (length l) c.count c.offset x (later rules cut c l ls)) ≡ w (onward c l x) (from rules cut (onward c l x) ls)) where
  back-all : (before : List (List ℕ)) (c : Cursor) → P (after rules c before) → P c
  unfolding after
  back-all [] c p = p
  back-all (l ∷ before) c p = back c l (read_line rules l) (back-all before (onward c l (read_line rules l)) p)

  walked : (before : List (List ℕ)) (l : List ℕ) (ls : List (List ℕ)) (c : Cursor) → AllAccepted rules before → P (after rules c before)
      → w c (from rules cut c (before ++ l ∷ ls)) ≡ w (after rules c before) (from rules cut (after rules c before) (l ∷ ls))
  unfolding after
  walked [] l ls c a p = refl
  walked (b ∷ before) l ls c a p =
      ap (w c) (line-inside rules cut c b (before ++ l ∷ ls) (rw (some_left before l ls) (and-false cut)))
      ∙ each c b (before ++ l ∷ ls) (read_line rules b) a.0 (back-all before (onward c b (read_line rules b)) p)
      ∙ walked before l ls (onward c b (read_line rules b)) a.1 p

-- ---- three walks: the verdict, an entry of a number, the setting on a line

counted_back : (x : Result Line Fault) (k b : ℕ) → counted x k ≤ b → k ≤ b
counted_back (Ok line.Ignored) k b h = h
counted_back (Ok (line.Setting name value _)) k b h = h
counted_back (Ok (line.Entry when start)) k b h = omega arith
counted_back (Err f) k b h = h

other-entry : (f : Result Entry Refusal) (k i : ℕ) (e : Entry) (later : Items) → (k ≡ i → ⊥) → entry_from f k i (entry e later) ≡ entry_from f (k + 1) i later
unfolding entry_from
other-entry f k i e later d = rw (ne_eqb k i d)

here-entry : (f : Result Entry Refusal) (k : ℕ) (e : Entry) (later : Items) → entry_from f k k (entry e later) ≡ entry_from (Ok e) (k + 1) k later
unfolding entry_from
here-entry f k e later = rw (eq-eqb k k refl)

here-setting : (f : Result Setting Refusal) (n j : ℕ) (name value : Part) (later : Items) → n ≡ j → setting_from f j (setting n name value later) ≡ setting_from (shown name value) j later
unfolding setting_from
here-setting f n j name value later e = rw (eq-eqb n j e)

other-setting : (f : Result Setting Refusal) (n j : ℕ) (name value : Part) (later : Items) → (n ≡ j → ⊥) → setting_from f j (setting n name value later) ≡ setting_from f j later
unfolding setting_from
other-setting f n j name value later d = rw (ne_eqb n j d)

module _ (rules : Rules) (cut : Bool) (before : List (List ℕ)) (l : List ℕ) (ls : List (List ℕ)) (c : Cursor) (a : AllAccepted rules before) where
  abbrev there : Cursor
  there = after rules c before

  verdict-after : there.count ≤ max_entries
      → verdict_from c.count (from rules cut c (before ++ l ∷ ls)) ≡ verdict_from there.count (from rules cut there (l ∷ ls))
  unfolding after_line verdict_from
  verdict-after few =
      walked rules cut (λ c items. verdict_from c.count items) (λ c. c.count ≤ max_entries) (λ c l x p. counted_back x c.count max_entries p) each before l ls c a few
    where
      each : (c : Cursor) (l : List ℕ) (ls : List (List ℕ)) (x : Result Line Fault) → Accepted x → (onward c l x).count ≤ max_entries
          → verdict_from c.count (after_line c.at c.line (length l) c.count c.offset x (later rules cut c l ls))
          ≡ verdict_from (onward c l x).count (from rules cut (onward c l x) ls)
      each c l ls (Ok line.Ignored) a p = refl
      each c l ls (Ok (line.Setting name value _)) a p = refl
      each c l ls (Ok (line.Entry when start)) a p = rw (lt-ltb c.count max_entries (omega arith))
      each c l ls (Err f) a p = absurd a

  entry-after : (f : Result Entry Refusal) (i : ℕ) → i < max_entries → there.count ≤ i
      → entry_from f c.count i (from rules cut c (before ++ l ∷ ls)) ≡ entry_from f there.count i (from rules cut there (l ∷ ls))
  unfolding after_line entry_from
  entry-after f i few up =
      walked rules cut (λ c items. entry_from f c.count i items) (λ c. c.count ≤ i) (λ c l x p. counted_back x c.count i p) each before l ls c a up
    where
      each : (c : Cursor) (l : List ℕ) (ls : List (List ℕ)) (x : Result Line Fault) → Accepted x → (onward c l x).count ≤ i
          → entry_from f c.count i (after_line c.at c.line (length l) c.count c.offset x (later rules cut c l ls))
          ≡ entry_from f (onward c l x).count i (from rules cut (onward c l x) ls)
      each c l ls (Ok line.Ignored) a p = refl
      each c l ls (Ok (line.Setting name value _)) a p = refl
      each c l ls (Ok (line.Entry when start)) a p = rw (lt-ltb c.count max_entries (omega arith)) (other-entry f c.count i (placed c.at c.line (length l) c.offset when start) (later rules cut c l ls (c.count + 1) c.offset) (λ e. omega (arith, e)))
      each c l ls (Err f) a p = absurd a

  setting-after : (f : Result Setting Refusal) (j : ℕ) → there.count ≤ max_entries → there.line ≤ j
      → setting_from f j (from rules cut c (before ++ l ∷ ls)) ≡ setting_from f j (from rules cut there (l ∷ ls))
  unfolding after_line setting_from
  setting-after f j few up =
      walked rules cut (λ c items. setting_from f j items) (λ c. (c.count ≤ max_entries) × (c.line ≤ j))
      (λ c l x p. (counted_back x c.count max_entries p.0, omega (arith, p.1))) each before l ls c a (few, up)
    where
      each : (c : Cursor) (l : List ℕ) (ls : List (List ℕ)) (x : Result Line Fault) → Accepted x → ((onward c l x).count ≤ max_entries) × (c.line + 1 ≤ j)
          → setting_from f j (after_line c.at c.line (length l) c.count c.offset x (later rules cut c l ls))
          ≡ setting_from f j (from rules cut (onward c l x) ls)
      each c l ls (Ok line.Ignored) a p = refl
      each c l ls (Ok (line.Setting name value zone)) a p = other-setting f c.line j (moved c.at name) (moved c.at value) (later rules cut c l ls c.count (in_force zone c.offset)) (λ e. omega (arith, e, p.1))
      each c l ls (Ok (line.Entry when start)) a p = rw (lt-ltb c.count max_entries (omega (arith, p.0)))
      each c l ls (Err f) a p = absurd a

-- ---- the cursor by plain sums

module _ (rules : Rules) where
  after-at : (ls : List (List ℕ)) (c : Cursor) → (after rules c ls).at ≡ c.at + bytes_of ls
  unfolding after bytes_of
  after-at [] c = omega arith
  after-at (l ∷ ls) c = after-at ls (onward c l (read_line rules l)) ∙ omega arith

  after_line_lem : (ls : List (List ℕ)) (c : Cursor) → (after rules c ls).line ≡ c.line + length ls
  unfolding after
  after_line_lem [] c = omega arith
  after_line_lem (l ∷ ls) c = after_line_lem ls (onward c l (read_line rules l)) ∙ omega arith

  counted_is : (x : Result Line Fault) (k : ℕ) → counted x k ≡ k + entries_in x
  counted_is (Ok line.Ignored) k = omega arith
  counted_is (Ok (line.Setting name value _)) k = omega arith
  counted_is (Ok (line.Entry when start)) k = refl
  counted_is (Err f) k = omega arith

  after-count : (ls : List (List ℕ)) (c : Cursor) → (after rules c ls).count ≡ c.count + entries_among rules ls
  unfolding after entries_among
  after-count [] c = omega arith
  after-count (l ∷ ls) c =
      after-count ls (onward c l (read_line rules l)) ∙ omega (arith, counted_is (read_line rules l) c.count)

  after-offset : (ls : List (List ℕ)) (c : Cursor) → (after rules c ls).offset ≡ offset_after_all rules c.offset ls
  unfolding after offset_after_all
  after-offset [] c = refl
  after-offset (l ∷ ls) c = after-offset ls (onward c l (read_line rules l))

-- ---- a table without a fault

-- whether items end without one
abbrev Clean : Items → Type 0
Clean done = Unit {0}
Clean (fault refusal line column) = ⊥
Clean (setting line name value later) = Clean later
Clean (entry e later) = Clean later

-- what was found stays found
found-stays : (f : Result Entry Refusal) (k i : ℕ) (items : Items) → Clean items → i < k → entry_from f k i items ≡ f
unfolding entry_from
found-stays f k i done p h = refl
found-stays f k i (fault refusal line column) p h = absurd p
found-stays f k i (setting line name value later) p h = found-stays f k i later p h
found-stays f k i (entry e later) p h = other-entry f k i e later (λ z. omega (arith, z)) ∙ found-stays f (k + 1) i later p (omega arith)

module _ (rules : Rules) where
  -- lines that are accepted, in a table that isn't cut
  accepted-clean : (ls : List (List ℕ)) (c : Cursor) → AllAccepted rules ls → (after rules c ls).count ≤ max_entries → Clean (from rules false c ls)
  unfolding items_from after after_line
  accepted-clean [] c a few = tt
  accepted-clean (l ∷ ls) c a few = go (read_line rules l) a.0 (few-after ls (onward c l (read_line rules l)) few) (accepted-clean ls (onward c l (read_line rules l)) a.1 few)
    where
      few-after : (ls : List (List ℕ)) (c : Cursor) → (after rules c ls).count ≤ max_entries → c.count ≤ max_entries
      few-after ls c h = omega (arith, after-count rules ls c)

      go : (x : Result Line Fault) → Accepted x → (onward c l x).count ≤ max_entries → Clean (from rules false (onward c l x) ls)
          → Clean (after_line c.at c.line (length l) c.count c.offset x (later rules false c l ls))
      go (Ok line.Ignored) a h p = p
      go (Ok (line.Setting name value _)) a h p = p
      go (Ok (line.Entry when start)) a h p = rw (lt-ltb c.count max_entries (omega arith)) p
      go (Err f) a h p = absurd a

  -- and so the lines of a table that isn't refused are accepted, it isn't cut, and its entries aren't too many
  good-lines : (cut : Bool) (ls : List (List ℕ)) (c : Cursor) → c.count ≤ max_entries → refusal_in (verdict_from c.count (from rules cut c ls)) ≡ 0
      → AllAccepted rules ls × ((after rules c ls).count ≤ max_entries) × (is_last ls ≡ false → cut ≡ false)
  unfolding items_from after after_line verdict_from is_last
  good-lines cut [] c few good = (tt, few, λ z. absurd (true≢false z))
  good-lines cut (l ∷ ls) c few good = last (cut && is_last ls) refl (read_line rules l) good (λ x h e. good-lines cut ls (onward c l x) h e)
    where
      Outcome : Result Line Fault → Type 0
      Outcome x = (Accepted x × AllAccepted rules ls) × ((after rules (onward c l x) ls).count ≤ max_entries) × (false ≡ false → cut ≡ false)

      whole : (ls : List (List ℕ)) → (cut && is_last ls) ≡ false → (is_last ls ≡ false → cut ≡ false) → cut ≡ false
      whole [] e more = uncut cut e
        where
          uncut : (b : Bool) → (b && true) ≡ false → b ≡ false
          uncut true z = z
          uncut false z = refl
      whole (x ∷ ls) e more = more refl

      last : (t : Bool) → (cut && is_last ls) ≡ t → (x : Result Line Fault)
          → refusal_in (verdict_from c.count (cond t (fault_of c.line (last_fault (length l) c.count x)) (after_line c.at c.line (length l) c.count c.offset x (later rules cut c l ls)))) ≡ 0
          → ((x : Result Line Fault) → (onward c l x).count ≤ max_entries → refusal_in (verdict_from (onward c l x).count (from rules cut (onward c l x) ls)) ≡ 0
          → AllAccepted rules ls × ((after rules (onward c l x) ls).count ≤ max_entries) × (is_last ls ≡ false → cut ≡ false))
          → Outcome x
      last true e x good more = absurd (omega (arith, good, number-small (last_fault (length l) c.count x).refusal))
      last false e (Ok line.Ignored) good more = let (a, b, d) = more (Ok line.Ignored) few good in ((tt, a), b, λ z. whole ls e d)
      last false e (Ok (line.Setting name value zone)) good more = let (a, b, d) = more (Ok (line.Setting name value zone)) few good in ((tt, a), b, λ z. whole ls e d)
      last false e (Err f) good more = absurd (omega (arith, good, number-small f.refusal))
      last false e (Ok (line.Entry when start)) good more = full (ltb c.count max_entries) refl good
        where
          full : (t : Bool) → ltb c.count max_entries ≡ t
              → refusal_in (verdict_from c.count (cond t (entry (placed c.at c.line (length l) c.offset when start) (later rules cut c l ls (c.count + 1) c.offset)) (fault TooManyEntries c.line 1))) ≡ 0
              → Outcome (Ok (line.Entry when start))
          full true q good = let (a, b, d) = more (Ok (line.Entry when start)) (omega (arith, ltb-true c.count max_entries q)) good in ((tt, a), b, λ z. whole ls e d)
          full false q good = absurd (omega (arith, good, number-small TooManyEntries))

  -- accepted lines, no more entries than there may be, and a newline at the end: a good table
  accepted-verdict : (ls : List (List ℕ)) (c : Cursor) → AllAccepted rules ls → (after rules c ls).count ≤ max_entries
      → verdict_from c.count (from rules false c ls) ≡ Ok ((after rules c ls).count)
  unfolding items_from after after_line verdict_from
  accepted-verdict [] c a few = refl
  accepted-verdict (l ∷ ls) c a few =
      go (read_line rules l) a.0 (omega (arith, after-count rules ls (onward c l (read_line rules l)), few)) (accepted-verdict ls (onward c l (read_line rules l)) a.1 few)
    where
      go : (x : Result Line Fault) → Accepted x → (onward c l x).count ≤ max_entries
          → verdict_from (onward c l x).count (from rules false (onward c l x) ls) ≡ Ok ((after rules (onward c l x) ls).count)
          → verdict_from c.count (after_line c.at c.line (length l) c.count c.offset x (later rules false c l ls))
          ≡ Ok ((after rules (onward c l x) ls).count)
      go (Ok line.Ignored) a h p = p
      go (Ok (line.Setting name value _)) a h p = p
      go (Ok (line.Entry when start)) a h p = rw (lt-ltb c.count max_entries (omega arith)) p
      go (Err f) a h p = absurd a

  -- no line before the one they begin with has a setting of theirs
  settings-past : (ls : List (List ℕ)) (c : Cursor) (f : Result Setting Refusal) (j : ℕ) → AllAccepted rules ls → (after rules c ls).count ≤ max_entries → j < c.line
      → setting_from f j (from rules false c ls) ≡ f
  unfolding items_from after after_line setting_from
  settings-past [] c f j a few h = refl
  settings-past (l ∷ ls) c f j a few h =
      go (read_line rules l) a.0 (omega (arith, after-count rules ls (onward c l (read_line rules l)), few))
      (settings-past ls (onward c l (read_line rules l)) f j a.1 few (omega arith))
    where
      go : (x : Result Line Fault) → Accepted x → (onward c l x).count ≤ max_entries → setting_from f j (from rules false (onward c l x) ls) ≡ f
          → setting_from f j (after_line c.at c.line (length l) c.count c.offset x (later rules false c l ls)) ≡ f
      go (Ok line.Ignored) a k p = p
      go (Ok (line.Setting name value zone)) a k p =
          other-setting f c.line j (moved c.at name) (moved c.at value) (later rules false c l ls c.count (in_force zone c.offset)) (λ e. omega (arith, e)) ∙ p
      go (Ok (line.Entry when start)) a k p = rw (lt-ltb c.count max_entries (omega arith)) p
      go (Err f) a k p = absurd a

accepted-parts : (rules : Rules) (before : List (List ℕ)) (l : List ℕ) (ls : List (List ℕ)) → AllAccepted rules (before ++ l ∷ ls)
    → AllAccepted rules before × Accepted (read_line rules l) × AllAccepted rules ls
accepted-parts rules [] l ls a = (tt, a.0, a.1)
accepted-parts rules (b ∷ before) l ls a = let (x, y, z) = accepted-parts rules before l ls a.1 in ((a.0, x), y, z)

after-append : (rules : Rules) (before ls : List (List ℕ)) (c : Cursor) → after rules c (before ++ ls) ≡ after rules (after rules c before) ls
unfolding after
after-append rules [] ls c = refl
after-append rules (b ∷ before) ls c = after-append rules before ls (onward c b (read_line rules b))

-- ---- the verdict of a table

abbrev begin : Cursor
begin = record { at = 0; line = 1; count = 0; offset = utc }

abbrev pub refused_at : Refusal → ℕ → ℕ → Result ℕ TableFault
refused_at refusal line column = Err (record { refusal = refusal; line = line; column = column })

-- 1 comes first
pub too_long_lem : (rules : Rules) (s : List ℕ) → max_table < length s → verdict_of (table_of rules s) ≡ refused_at TableTooLong 0 0
unfolding items_of verdict_from
too_long_lem rules s h = sym (table-verdict rules s) ∙ rw (lt-ltb max_table (length s) h)

module _ (rules : Rules) (s : List ℕ) (short : length s ≤ max_table) where
  items-are : (cut : Bool) → is_cut s ≡ cut → items_of rules s ≡ from rules cut begin (lines_of s)
  unfolding items_of
  items-are cut e = rw (le-ltb max_table (length s) short, e)

  verdict-is : (cut : Bool) → is_cut s ≡ cut → verdict_of (table_of rules s) ≡ verdict_from 0 (from rules cut begin (lines_of s))
  verdict-is cut e = sym (table-verdict rules s) ∙ ap (verdict_from 0) (items-are cut e)

  -- a good table
  pub all-accepted : is_cut s ≡ false → AllAccepted rules (lines_of s) → entries_among rules (lines_of s) ≤ max_entries
      → verdict_of (table_of rules s) ≡ Ok (entries_among rules (lines_of s))
  all-accepted e a few =
      let n : (after rules begin (lines_of s)).count ≡ entries_among rules (lines_of s) = after-count rules (lines_of s) begin ∙ omega arith in
      verdict-is false e ∙ accepted-verdict rules (lines_of s) begin a (omega (arith, n, few)) ∙ rw n

  -- the first line that isn't accepted refuses it, after lines that are
  module _ (before : List (List ℕ)) (l : List ℕ) (ls : List (List ℕ)) (lines : lines_of s ≡ before ++ l ∷ ls)
      (a : AllAccepted rules before) (few : entries_among rules before ≤ max_entries) where
    abbrev here : Cursor
    here = after rules begin before

    count-here : here.count ≡ entries_among rules before
    count-here = after-count rules before begin ∙ omega arith

    line-here : here.line ≡ length before + 1
    line-here = after_line_lem rules before begin ∙ omega arith

    verdict-here : (cut : Bool) → is_cut s ≡ cut → verdict_of (table_of rules s) ≡ verdict_from here.count (from rules cut here (l ∷ ls))
    verdict-here cut e = verdict-is cut e ∙ rw lines (verdict-after rules cut before l ls begin a (omega (arith, few, count-here)))

    pub fault-of-line : {f : Fault} → read_line rules l ≡ Err f → verdict_of (table_of rules s) ≡ refused_at f.refusal (length before + 1) f.column
    unfolding items_from after_line verdict_from last_fault
    fault-of-line {f} is = verdict-here (is_cut s) refl ∙ rw (is, line-here) (go (is_cut s && is_last ls))
      where
        go : (t : Bool) → verdict_from here.count (cond t (fault f.refusal (length before + 1) f.column) (fault f.refusal (length before + 1) f.column))
            ≡ refused_at f.refusal (length before + 1) f.column
        go true = refl
        go false = refl

    pub entry-too-many : {when : When} {start : ℕ} → read_line rules l ≡ Ok (line.Entry when start) → entries_among rules before ≡ max_entries
        → verdict_of (table_of rules s) ≡ refused_at TooManyEntries (length before + 1) 1
    unfolding items_from after_line verdict_from last_fault
    entry-too-many is full = verdict-here (is_cut s) refl ∙ rw (is, line-here, le-ltb here.count max_entries (omega (arith, full, count-here))) (go (is_cut s && is_last ls))
      where
        go : (t : Bool) → verdict_from here.count (cond t (fault TooManyEntries (length before + 1) 1) (fault TooManyEntries (length before + 1) 1)) ≡ refused_at TooManyEntries (length before + 1) 1
        go true = refl
        go false = refl

-- a last line without a newline is 26, where no line has another fault
pub last-cut : (rules : Rules) (s : List ℕ) → length s ≤ max_table → is_cut s ≡ true → (before : List (List ℕ)) (l : List ℕ) → lines_of s ≡ before ++ l ∷ []
    → AllAccepted rules before → Accepted (read_line rules l) → entries_among rules before + entries_in (read_line rules l) ≤ max_entries
    → verdict_of (table_of rules s) ≡ refused_at CutTable (length before + 1) (length l + 1)
unfolding items_from verdict_from last_fault is_last
last-cut rules s short cut before l lines a this few =
    verdict-here rules s short before l [] lines a (omega arith) true cut
    ∙ rw (line-here rules s short before l [] lines a (omega arith)) (go (read_line rules l) this (omega (arith, count-here rules s short before l [] lines a (omega arith))))
  where
    k : ℕ
    k = (after rules begin before).count

    go : (x : Result Line Fault) → Accepted x → k + entries_in x ≤ max_entries
        → verdict_from k (fault_of (length before + 1) (last_fault (length l) k x)) ≡ refused_at CutTable (length before + 1) (length l + 1)
    go (Ok line.Ignored) a h = refl
    go (Ok (line.Setting name value _)) a h = refl
    go (Ok (line.Entry when start)) a h = rw (lt-ltb k max_entries (omega arith))
    go (Err f) a h = absurd a

-- ---- the lines of a good table

module _ (rules : Rules) (s : List ℕ) (good : refusal_in (table_of rules s) ≡ 0) where
  short : length s ≤ max_table
  short = table-short rules s good

  lines-good : (cut : Bool) → is_cut s ≡ cut
      → AllAccepted rules (lines_of s) × ((after rules begin (lines_of s)).count ≤ max_entries) × (is_last (lines_of s) ≡ false → cut ≡ false)
  lines-good cut e = good-lines rules cut (lines_of s) begin (omega arith) (ap (λ (v : Result ℕ TableFault). refusal_in v) (sym (verdict-is rules s short cut e)) ∙ verdict-refusal (table_of rules s) ∙ good)

  -- all of them are accepted
  pub good-accepted : AllAccepted rules (lines_of s) × (entries_among rules (lines_of s) ≤ max_entries)
  good-accepted = let (a, few, _) = lines-good (is_cut s) refl in (a, omega (arith, few, after-count rules (lines_of s) begin))

  module _ (before : List (List ℕ)) (l : List ℕ) (ls : List (List ℕ)) (lines : lines_of s ≡ before ++ l ∷ ls) where
    abbrev place : Cursor
    place = after rules begin before

    record LineOf : Type 0 where
      pub earlier : AllAccepted rules before
      pub others : AllAccepted rules ls
      pub few : (after rules (onward place l (read_line rules l)) ls).count ≤ max_entries
      pub items : items_of rules s ≡ from rules false begin (before ++ l ∷ ls)

    line_of : LineOf
    unfolding after
    line_of =
        let (a, few, uncut) = lines-good (is_cut s) refl in
        let (x, y, z) = accepted-parts rules before l ls (rw lines at a) in
        record {
          earlier = x;
          others = z;
          few = rw (after-append rules before (l ∷ ls) begin) at (rw lines at few);
          items = items-are rules s short false (uncut (rw lines (some_left before l ls))) ∙ rw lines;
        }

    module _ {when : When} {start : ℕ} (is : read_line rules l ≡ Ok (line.Entry when start)) where
      abbrev found : Entry
      found = placed place.at place.line (length l) place.offset when start

      entry-there : entry_in (table_of rules s) place.count ≡ Ok found
      unfolding items_from after_line
      entry-there =
          let o = line_of in
          let few : (after rules (onward place l (Ok (line.Entry when start))) ls).count ≤ max_entries = rw is at o.few in
          let room : place.count < max_entries = omega (arith, few, after-count rules ls (onward place l (Ok (line.Entry when start)))) in
          table-entry rules s place.count
          ∙ ap (entry_from (Err NoSuchEntry) 0 place.count) o.items
          ∙ entry-after rules false before l ls begin o.earlier (Err NoSuchEntry) place.count room (omega arith)
          ∙ rw (is, lt-ltb place.count max_entries room) (this (accepted-clean rules ls (onward place l (Ok (line.Entry when start))) o.others few))
        where
          this : Clean (from rules false (onward place l (Ok (line.Entry when start))) ls)
              → entry_from (Err NoSuchEntry) place.count place.count (entry found (from rules false (onward place l (Ok (line.Entry when start))) ls)) ≡ Ok found
          this clean =
              here-entry (Err NoSuchEntry) place.count found (from rules false (onward place l (Ok (line.Entry when start))) ls)
              ∙ found-stays (Ok found) (place.count + 1) place.count (from rules false (onward place l (Ok (line.Entry when start))) ls) clean (omega arith)

      -- an entry: its number is how many come before it, its place that of its line, and its offset the last one before it
      pub entry-of-line : entry_in (table_of rules s) (entries_among rules before)
          ≡ Ok (record {
            when = when;
            line = length before + 1;
            at = bytes_of before;
            start = bytes_of before + start;
            end = bytes_of before + length l;
            offset = offset_after_all rules utc before;
          })
      entry-of-line =
          let k : place.count ≡ entries_among rules before = after-count rules before begin ∙ omega arith in
          let n : place.line ≡ length before + 1 = after_line_lem rules before begin ∙ omega arith in
          let at : place.at ≡ bytes_of before = after-at rules before begin ∙ omega arith in
          rw k at entry-there ∙ rw (n, at, after-offset rules before begin)

    -- a setting, and none on a line that has another
    module _ (j : ℕ) (number : j ≡ place.line) where
      setting-there : (f : Result Setting Refusal) → setting_from f j (items_of rules s)
          ≡ setting_from f j (after_line place.at place.line (length l) place.count place.offset (read_line rules l) (later rules false place l ls))
      unfolding items_from
      setting-there f =
          let o = line_of in
          ap (setting_from f j) o.items
          ∙ setting-after rules false before l ls begin o.earlier f j
          (counted_back (read_line rules l) place.count max_entries (omega (arith, o.few, after-count rules ls (onward place l (read_line rules l))))) (omega (arith, number))

      none-later : (f : Result Setting Refusal) (x : Result Line Fault) → read_line rules l ≡ x → setting_from f j (from rules false (onward place l x) ls) ≡ f
      none-later f x is =
          let o = line_of in
          settings-past rules ls (onward place l x) f j o.others (rw is at o.few) (omega (arith, number))

      setting-is : {name value : Part} {zone : Option ℤ} → read_line rules l ≡ Ok (line.Setting name value zone)
          → setting_in (items_of rules s) j ≡ shown (moved place.at name) (moved place.at value)
      unfolding setting_in after_line
      setting-is {name} {value} {zone} is =
          setting-there (Err no_setting)
          ∙ rw is (here-setting (Err no_setting) place.line j (moved place.at name) (moved place.at value)
          (later rules false place l ls place.count (in_force zone place.offset)) (sym number))
          ∙ none-later (shown (moved place.at name) (moved place.at value)) (Ok (line.Setting name value zone)) is

      none_is : NoSetting (read_line rules l) → setting_in (items_of rules s) j ≡ Err no_setting
      unfolding setting_in after_line setting_from
      none_is none = setting-there (Err no_setting) ∙ go (read_line rules l) refl none
        where
          go : (x : Result Line Fault) → read_line rules l ≡ x → NoSetting x
              → setting_from (Err no_setting) j (after_line place.at place.line (length l) place.count place.offset x (later rules false place l ls)) ≡ Err no_setting
          go (Ok line.Ignored) is n = none-later (Err no_setting) (Ok line.Ignored) is
          go (Ok (line.Setting name value _)) is n = absurd n
          go (Ok (line.Entry when start)) is n =
              let o = line_of in
              let few : (after rules (onward place l (Ok (line.Entry when start))) ls).count ≤ max_entries = rw is at o.few in
              rw (lt-ltb place.count max_entries (omega (arith, few, after-count rules ls (onward place l (Ok (line.Entry when start))))))
              (none-later (Err no_setting) (Ok (line.Entry when start)) is)
          go (Err f) is n = absurd n

    number-here : length before + 1 ≡ place.line
    number-here = sym (after_line_lem rules before begin ∙ omega arith)

    pub setting-of-line : {name value : Part} {zone : Option ℤ} → read_line rules l ≡ Ok (line.Setting name value zone)
        → setting_in (items_of rules s) (length before + 1) ≡ shown (moved (bytes_of before) name) (moved (bytes_of before) value)
    setting-of-line is =
        let at : place.at ≡ bytes_of before = after-at rules before begin ∙ omega arith in
        setting-is (length before + 1) number-here is ∙ rw at

    pub no-setting-of-line : NoSetting (read_line rules l) → setting_in (items_of rules s) (length before + 1) ≡ Err no_setting
    no-setting-of-line none = none_is (length before + 1) number-here none
