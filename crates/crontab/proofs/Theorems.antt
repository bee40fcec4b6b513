-- What a caller may rely on: of a table that is read, of the entries it has, of where settings stand, and of how far ahead a firing is.
--   table-sound, table-short: a table that is read; a good one is as long as it may be
--   cut-refused: one that isn't refused is empty, or its last byte is a newline
--   table-refused, verdict-bad, selected-bad: a table that is refused, one whose verdict is a fault, and one whose selection is refused
--   entry-sound, entry-told: an entry that is found, and the answer to a number
--   owner-inside, owner-short: where an owner's parts stand
--   owner-judged: in a system table the owner that is shown is the one that was judged, with a user that isn't empty; owner-named: used for entry 511
--   entry-on-line, found-view: it is on a line of its table, which is the line that was read to it
--   owner-number, setting-number, due-told: the number of a refusal has eight bits
--   setting-inside, setting-short: where name and value stand
--   next-setting: the first line from a line on that has a setting is the least one, and where there is none no line has one
--   line-told: what is answered there, refused or not
--   next-told: what is said of when an entry fires next, refused or not
--   next-in-gap: a next firing that is told is at most 21,036,960 minutes ahead
--   next-by-clock: a next firing, refused or not, is what the slow engine (N5) says, minute by minute under the entry's offset;
--     clock-used: used for entry 511
-- The wrapping dialect. R7 is never given (W6):
--   never-reversed, verdict-never-reversed: never for a table in the second dialect, whatever its bytes
-- "In the first dialect nothing changes":
--   first-dialect-same: a table is in it what it was before there was a second, entry by entry and fault by fault
-- Rules act on each line apart from the others:
--   items_alike, table-alike: where all lines are read alike, so are the tables; untimed-table: a table of settings and words is the same in both dialects
-- "Matching, next firing and the line are proved once over both": all the others here hold of any rules, whatever their dialect.
-- Each rule once more in other words, for any bytes and numbers:
--   LineByLine: what each line of a table is in it, by the lines before it: good-accepted, all-accepted, too_long, fault-of-line, entry-too-many, last-cut,
--     entry-of-line, setting-of-line, no-setting-of-line; LineEnds: line-ends, line-alone, cut-is
--   EntryTimes: what an entry does goes by its time and its offset alone
--   EntryAnswers: an equation for each way that an answer about an entry, its owner or a setting can go: entry-none, entry-bad, asked-found, asked-none, owner-found,
--     owner-none, owner-user, owner-system, clock-plainly, clock-timed, settings-bad, lines-bad
-- Extremes uses table-sound, cut-refused, next-setting, first-dialect-same and never-reversed for system tables, their last entry and a line past the last.
-- Assumes nothing.
use mathlib.Core.Path.{◌≡◌, refl}
use mathlib.Core.Bool.{Bool, true, false, cond}
use mathlib.Core.List.{List}
use Prim.Native.Nat.{ℕ, ◌+◌, ◌-◌, ◌≤◌, ◌<◌}
use native.Mathlib.Nat.{lt_of_not-le}
use native.Mathlib.Decide.{dec_le}
use native.Mathlib.Omega.{arith}
use lib.ListN.{length, get_or, set, drop, length-set, length-drop}
use lib.Seq.{get_or-set_same, get_or-set_other, length-take-le}
use lib.Dec.{eqb, leb, ltb}
use borrow.Author.Tests.{ltb-true, ltb-false}
use Rattle.std.specs.Prelude.{Result, Ok, Err, IsOk, IfOk, IfErr}
use Rattle.refusal.specs.declared.Refusal.{Refusal}
use Rattle.refusal.specs.declared.Refusal.TheVariants.{TableTooLong, NoSuchEntry, NotOnCalendar, AtBootOnly, NoSetting}
use Rattle.refusal.specs.Numbers.{number_of, IsRefusal}
use Rattle.refusal.proofs.Numbers.{number-small}
use Rattle.calendar.specs.Dates.{last_minute}
use Rattle.schedule.specs.declared.Schedule.{Schedule}
use Rattle.schedule.specs.Local.{biased_offset, next_after_in}
use Rattle.schedule.proofs.Theorems.{next-on-calendar-in}
use Rattle.line.specs.declared.Rules.{Rules}
use Rattle.line.specs.declared.Part.{Part}
use Rattle.line.specs.declared.Kind.{Kind}
use Rattle.line.specs.declared.Kind.TheVariants.{User, System}
use Rattle.line.specs.declared.user.Owner.{Owner}
use Rattle.octets.specs.Runs.{between}
use Rattle.line.specs.Users.{absent}
use Rattle.line.specs.Entries.{by_kind}
use Rattle.crontab.specs.Owners.{shifted, shifted_all, owner_from, owner_of, owner_answer, owner_in}
use Rattle.line.specs.Owners.{nobody, line_owner}
use Rattle.line.proofs.Theorems.{Inside, owner-within}
use Rattle.line.specs.declared.time.When.{When}
use Rattle.line.specs.declared.time.When.TheVariants.{Reboot, Timed}
use Rattle.crontab.specs.declared.entry.Entry.{Entry}
use Rattle.crontab.specs.declared.table.Table.{Table}
use Rattle.crontab.specs.declared.table.TableFault.{TableFault}
use Rattle.crontab.specs.Limits.{max_table, max_entries}
use Rattle.line.specs.Limits.{max_line}
use Rattle.crontab.specs.Lines.{lines_of, is_cut}
use Rattle.line.specs.Offsets.{utc}
use Rattle.crontab.specs.Items.{Items, done, fault, setting, entry, moved, items_from, items_of}
use Rattle.crontab.specs.Tables.{blank_entry, no_entries, refused_table, empty_table, with_entry, with_items, table_of, entry_in, column_in, count_in, line_in, refusal_in, table_entries, verdict_of}
use Rattle.crontab.specs.Selections.{selected_by}
use Rattle.crontab.specs.Settings.{shown, setting_from, setting_in, next_line_in}
use Rattle.crontab.specs.Firings.{due_in, by_when, next_of, next_answer, next_in}
use Rattle.crontab.proofs.Sound.{Sound, SoundItems, items-sound}
use Rattle.crontab.proofs.Tables.{refused-some}
pub use Rattle.crontab.proofs.Gap.{next-in-gap}
pub use Rattle.crontab.proofs.Clocks.{next-by-clock, clock-used}
pub use Rattle.crontab.proofs.Cuts.{cut-refused}
pub use Rattle.crontab.proofs.Owners.{ShownAt, OwnerJudged, owner-judged, owner-named}
pub use Rattle.crontab.proofs.Reversed.{never-reversed, verdict-never-reversed}
pub use Rattle.crontab.proofs.FirstDialect.{first-dialect-same}
pub use Rattle.crontab.proofs.Alike.{ReadAlike, items_alike, table-alike, Untimed, untimed-table}
pub use Rattle.crontab.proofs.EntryViews.{FoundEntry, FoundView, found-view, entry-sound, entry-on-line}
pub use Rattle.crontab.proofs.LineNumbers.{HasSetting, HasNone, NextSetting, next-setting}
pub use Rattle.crontab.proofs.Lines.{LinesAt, lines_at}
use Rattle.crontab.specs.declared.setting.Setting.{Setting}

-- ---- a table

-- A table of n bytes. Its entries are sound, and a refused one has none; a good one has no place of fault.
pub record SoundTable (n : ℕ) (t : Result Table TableFault) : Type 0 where
  pub number : refusal_in t ≤ 27
  pub some : IfErr t (λ f. 1 ≤ number_of f.refusal)
  pub few : count_in t ≤ max_entries
  pub full : length (table_entries t) ≡ max_entries
  pub each : (i : ℕ) → i < count_in t → Sound n (get_or (table_entries t) i blank_entry)
  pub empty : (refusal_in t ≡ 0 → ⊥) → count_in t ≡ 0
  pub clean : refusal_in t ≡ 0 → (line_in t ≡ 0) × (column_in t ≡ 0)
  pub line-few : line_in t ≤ max_table + 1
  pub column-few : column_in t ≤ max_line + 1

module _ (rules : Rules) (s : List ℕ) where
  abbrev n : ℕ
  n = length s

  refused-sound : (refusal : Refusal) (line column : ℕ) → 1 ≤ number_of refusal → number_of refusal ≤ 27 → line ≤ max_table + 1 → column ≤ max_line + 1 → SoundTable n (refused_table refusal line column)
  unfolding refused_table no_entries
  refused-sound refusal line column h k i j =
      record {
        number = k;
        some = h;
        few = omega arith;
        full = refl;
        each = λ i z. absurd (omega arith);
        empty = λ z. refl;
        clean = λ z. absurd (omega arith);
        line-few = i;
        column-few = j;
      }

  -- a good table, by its count and its entries
  good-sound : (t : Table) → t.count ≤ max_entries → length t.entries ≡ max_entries
      → ((i : ℕ) → i < t.count → Sound n (get_or t.entries i blank_entry)) → SoundTable n (Ok t)
  good-sound t few full each =
      record {
        number = omega arith;
        some = tt;
        few = few;
        full = full;
        each = each;
        empty = λ z. absurd (z refl);
        clean = λ z. (refl, refl);
        line-few = omega arith;
        column-few = omega arith;
      }

  entry-added : (t : Table) (e : Entry) → t.count < max_entries → SoundTable n (Ok t) → Sound n e → SoundTable n (Ok (with_entry t e))
  unfolding with_entry
  entry-added t e h p q = good-sound (with_entry t e) (omega arith) (simp length-set p.full) at_each
    where
      long : t.count < length t.entries
      long = omega (arith, p.full)

      at_each : (i : ℕ) → i < t.count + 1 → Sound n (get_or (set t.entries t.count e) i blank_entry)
      at_each i k = elim (dec_le t.count i) [ yes c ↦ rw (same c, get_or-set_same t.entries t.count e blank_entry long) q | no c ↦ other (lt_of_not-le c) ]
        where
          same : t.count ≤ i → i ≡ t.count
          same c = omega arith

          other : i < t.count → Sound n (get_or (set t.entries t.count e) i blank_entry)
          other c = rw (get_or-set_other t.entries t.count i e blank_entry (λ z. omega (arith, z))) (p.each i c)

  with-sound : (m : ℕ) (t : Table) (items : Items) → SoundTable n (Ok t) → SoundItems rules s m t.count items → SoundTable n (with_items t items)
  unfolding with_items with_entry
  with-sound m t done p q = p
  with-sound m t (fault refusal line column) p q = refused-sound refusal line column q.0.from q.0.to q.1 q.0.inside
  with-sound m t (setting line name value later) p q = with-sound (line + 1) t later p q.2
  with-sound m t (entry e later) p q = with-sound (e.line + 1) (with_entry t e) later (entry-added t e q.1 p q.0) q.2

pub table-sound : (rules : Rules) (s : List ℕ) → SoundTable (length s) (table_of rules s)
unfolding table_of empty_table no_entries
table-sound rules s =
    with-sound rules s 1 empty_table (items_of rules s) (good-sound rules s empty_table (omega arith) refl (λ i z. absurd (omega arith))) (items-sound rules s)

-- a table that isn't refused has at most so many bytes
pub table-short : (rules : Rules) (s : List ℕ) → refusal_in (table_of rules s) ≡ 0 → length s ≤ max_table
unfolding table_of items_of with_items refused_table number_of
table-short rules s = go (ltb max_table (length s)) refl
  where
    go : (b : Bool) → ltb max_table (length s) ≡ b
        → refusal_in (with_items empty_table (cond b (fault TableTooLong 0 0) (items_from rules (is_cut s) 0 1 0 utc (lines_of s)))) ≡ 0 → length s ≤ max_table
    go true e z = absurd (omega arith)
    go false e z = ltb-false max_table (length s) e

-- a refusal isn't 0
pub table-refused : (rules : Rules) (s : List ℕ) {f : TableFault} → table_of rules s ≡ Err f → refusal_in (table_of rules s) ≡ 0 → ⊥
table-refused rules s is = refused-some (table_of rules s) is

-- a table whose verdict is a fault has that fault; one whose selection is refused has a fault with that refusal
module _ (rules : Rules) (s : List ℕ) where
  pub verdict-bad : {f : TableFault} → Err f ≡ verdict_of (table_of rules s) → table_of rules s ≡ Err f
  unfolding verdict_of
  verdict-bad {f} = go (table_of rules s)
    where
      go : (t : Result Table TableFault) → Err f ≡ verdict_of t → t ≡ Err f
      go (Ok t) e = cc
      go (Err g) e = cc

  pub selected-bad : (p : Entry → Bool) {refusal : Refusal} → Err refusal ≡ selected_by p (table_of rules s)
      → (f : TableFault) × (table_of rules s ≡ Err f) × (f.refusal ≡ refusal)
  unfolding selected_by
  selected-bad p {refusal} = go (table_of rules s)
    where
      go : (t : Result Table TableFault) → Err refusal ≡ selected_by p t → (f : TableFault) × (t ≡ Err f) × (f.refusal ≡ refusal)
      go (Ok t) e = cc
      go (Err g) e = (g, refl, cc)

-- ---- an entry that is found

-- an answer of a table of n bytes: an entry, and then the table isn't refused; or a refusal
abbrev pub EntryBounded : ℕ → Result Entry Refusal → Type 0
EntryBounded n (Ok e) = (Sound n e) × (n ≤ max_table)
EntryBounded n (Err refusal) = IsRefusal (number_of refusal)

pub entry-told : (rules : Rules) (s : List ℕ) (i : ℕ) → EntryBounded (length s) (entry_in (table_of rules s) i)
unfolding entry_in
entry-told rules s i = go (table_of rules s) (table-sound rules s) (table-short rules s)
  where
    go : (t : Result Table TableFault) → SoundTable (length s) t → (refusal_in t ≡ 0 → length s ≤ max_table) → EntryBounded (length s) (entry_in t i)
    go (Err f) sound short = number-small f.refusal
    go (Ok t) sound short = has (ltb i t.count) refl
      where
        has : (b : Bool) → ltb i t.count ≡ b → EntryBounded (length s) (cond b (Ok (get_or t.entries i blank_entry)) (Err NoSuchEntry))
        has true q = (sound.each i (ltb-true i t.count q), short refl)
        has false q = number-small NoSuchEntry

-- ---- the number of a refusal: not 0, and at most eight bits

refused-small : {A : Type 0} (answer : Result A Refusal) → IfErr answer (λ refusal. IsRefusal (number_of refusal))
refused-small (Ok value) = tt
refused-small (Err refusal) = number-small refusal

pub owner-number : (rules : Rules) (s : List ℕ) (i : ℕ) → IfErr (owner_in rules s i) (λ refusal. IsRefusal (number_of refusal))
owner-number rules s i = refused-small (owner_in rules s i)

pub setting-number : (rules : Rules) (s : List ℕ) (n : ℕ) → IfErr (setting_in (items_of rules s) n) (λ refusal. IsRefusal (number_of refusal))
setting-number rules s n = refused-small (setting_in (items_of rules s) n)

pub due-told : (rules : Rules) (s : List ℕ) (i m : ℕ) → IfErr (due_in (table_of rules s) i m) (λ refusal. IsRefusal (number_of refusal))
due-told rules s i m = refused-small (due_in (table_of rules s) i m)

-- ---- its owner

pub record OwnerInside (n : ℕ) (o : Owner) : Type 0 where
  pub user : Inside n o.user
  pub group : Inside n o.group
  pub class : Inside n o.class

shifted-inside : (at m n : ℕ) (p : Part) → p.end ≤ m → at + m ≤ n → Inside n (shifted at p)
unfolding shifted
shifted-inside at m n p h k = go (ltb p.start p.end) refl
  where
    go : (t : Bool) → ltb p.start p.end ≡ t → Inside n (cond t (moved at p) absent)
    go true e = let l = ltb-true p.start p.end e in record { order = omega arith; within = omega arith }
    go false e = record { order = omega arith; within = omega arith }

nobody-inside : (n : ℕ) → OwnerInside n nobody
nobody-inside n =
    record {
      user = record { order = omega arith; within = omega arith };
      group = record { order = omega arith; within = omega arith };
      class = record { order = omega arith; within = omega arith };
    }

pub of-inside : (rules : Rules) (s : List ℕ) (e : Entry) → Sound (length s) e → OwnerInside (length s) (owner_of rules s e)
unfolding owner_of owner_from between
of-inside rules s e h = go rules.kind
  where
    l : List ℕ
    l = between s e.at e.end

    size : e.at + length l ≤ length s
    size = omega (arith, length-take-le (e.end - e.at) (drop e.at s) (omega (arith, length-drop e.at s, h.line, h.some, h.within)), h.line, h.some, h.within)

    go : (k : Kind) → OwnerInside (length s) (by_kind k nobody (shifted_all e.at (line_owner l)))
    go User = nobody-inside (length s)
    go System =
        let o = owner-within l in
        record {
          user = shifted-inside e.at (length l) (length s) _ o.user size;
          group = shifted-inside e.at (length l) (length s) _ o.group size;
          class = shifted-inside e.at (length l) (length s) _ o.class size;
        }

module _ (rules : Rules) (s : List ℕ) (i : ℕ) where
  pub owner-inside : IfOk (owner_in rules s i) (OwnerInside (length s))
  unfolding owner_answer
  owner-inside = go (entry_in (table_of rules s) i) (entry-told rules s i)
    where
      go : (a : Result Entry Refusal) → EntryBounded (length s) a → IfOk (owner_answer rules s a) (OwnerInside (length s))
      go (Ok e) h = of-inside rules s e h.0
      go (Err refusal) h = tt

  pub owner-short : IsOk (owner_in rules s i) → length s ≤ max_table
  unfolding owner_answer
  owner-short = go (entry_in (table_of rules s) i) (entry-told rules s i)
    where
      go : (a : Result Entry Refusal) → EntryBounded (length s) a → IsOk (owner_answer rules s a) → length s ≤ max_table
      go (Ok e) h z = h.1
      go (Err refusal) h z = cc

-- ---- a setting

pub record SettingInside (n : ℕ) (a : Setting) : Type 0 where
  pub name : Inside n a.name
  pub value : Inside n a.value

module _ (rules : Rules) (s : List ℕ) where
  from-inside : (l k m : ℕ) (f : Result Setting Refusal) (items : Items) → IfOk f (SettingInside (length s)) → SoundItems rules s l k items → IfOk (setting_from f m items) (SettingInside (length s))
  unfolding setting_from
  from-inside l k m f done p q = p
  from-inside l k m f (fault refusal line column) p q = tt
  from-inside l k m f (entry e later) p q = from-inside (e.line + 1) (k + 1) m f later p q.2
  from-inside l k m f (setting line name value later) p q = from-inside (line + 1) k m (cond (eqb line m) (shown name value) f) later (go (eqb line m)) q.2
    where
      go : (t : Bool) → IfOk (cond t (shown name value) f) (SettingInside (length s))
      go true = record { name = q.0; value = q.1 }
      go false = p

pub setting-inside : (rules : Rules) (s : List ℕ) (k : ℕ) → IfOk (setting_in (items_of rules s) k) (SettingInside (length s))
unfolding setting_in
setting-inside rules s k = from-inside rules s 1 0 k (Err NoSetting) (items_of rules s) tt (items-sound rules s)

-- a setting that is found stands in a table that isn't too long
pub setting-short : (rules : Rules) (s : List ℕ) (k : ℕ) → IsOk (setting_in (items_of rules s) k) → length s ≤ max_table
unfolding setting_in items_of setting_from
setting-short rules s k = go (ltb max_table (length s)) refl
  where
    go : (b : Bool) → ltb max_table (length s) ≡ b
        → IsOk (setting_from (Err NoSetting) k (cond b (fault TableTooLong 0 0) (items_from rules (is_cut s) 0 1 0 utc (lines_of s)))) → length s ≤ max_table
    go true e z = cc
    go false e z = ltb-false max_table (length s) e

-- a line of the table, or a refusal
abbrev pub LineBounded : Result ℕ Refusal → Type 0
LineBounded (Ok k) = k ≤ max_table + 1
LineBounded (Err refusal) = IsRefusal (number_of refusal)

pub line-told : (rules : Rules) (s : List ℕ) (n : ℕ) → LineBounded (next_line_in (items_of rules s) n)
line-told rules s n = go (next_line_in (items_of rules s) n) (next-setting rules s n)
  where
    go : (a : Result ℕ Refusal) → NextSetting rules s n a → LineBounded a
    go (Ok k) h = omega (arith, h.2, table-short rules s h.0)
    go (Err refusal) h = number-small refusal

-- ---- when an entry fires next: a minute of the calendar, or a refusal

abbrev pub NextBounded : Result ℕ Refusal → Type 0
NextBounded (Ok n) = n ≤ last_minute
NextBounded (Err refusal) = IsRefusal (number_of refusal)

next-of : (e : Entry) (m : ℕ) → NextBounded (next_of e m)
unfolding next_of
next-of e m = go (leb m last_minute) e.when
  where
    o : ℕ
    o = biased_offset e.offset

    firing : (times : Schedule) (x : Result ℕ Refusal) → next_after_in times o m ≡ x → NextBounded x
    firing times (Ok n) p = next-on-calendar-in times o m n p
    firing times (Err refusal) p = number-small refusal

    go : (b : Bool) (when : When) → NextBounded (cond b (by_when when (Err AtBootOnly) (λ s. next_after_in s o m)) (Err NotOnCalendar))
    go false when = number-small NotOnCalendar
    go true Reboot = number-small AtBootOnly
    go true (Timed times) = firing times (next_after_in times o m) refl

pub next-told : (rules : Rules) (s : List ℕ) (i m : ℕ) → NextBounded (next_in (table_of rules s) i m)
unfolding next_in next_answer
next-told rules s i m = go (entry_in (table_of rules s) i) (entry-told rules s i)
  where
    go : (a : Result Entry Refusal) → EntryBounded (length s) a → NextBounded (next_answer a m)
    go (Ok e) h = next-of e m
    go (Err refusal) h = number-small refusal
