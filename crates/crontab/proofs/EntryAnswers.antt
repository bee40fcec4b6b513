-- What is answered about entries and settings, an equation for each way that an answer can go, for any rules, bytes and numbers.
-- Assumes nothing.
use Rattle.std.specs.Prelude.{Ok}
use mathlib.Core.Path.{◌≡◌, refl, ap, ◌∙◌}
use mathlib.Core.List.{List, ◌∷◌, ◌++◌}
use Prim.Native.Nat.{ℕ, ◌+◌, ◌-◌, ◌≤◌, ◌<◌}
use lib.ListN.{length}
use borrow.Author.Tests.{le-ltb, le-leb}
use Rattle.std.specs.Prelude.{Err, Result, Ok}
use Rattle.refusal.specs.declared.Refusal.{Refusal}
use Rattle.refusal.specs.declared.Refusal.TheVariants.{NoSuchEntry, NoSetting}
use Rattle.octets.specs.declared.class.Class.TheVariants.{Blank}
use Rattle.octets.specs.Runs.{skipped, between}
use Rattle.calendar.specs.Dates.{last_minute}
use Rattle.schedule.specs.declared.Schedule.{Schedule}
use Rattle.schedule.specs.Local.{biased_offset}
use Rattle.schedule.specs.Clocks.{clock_after_in}
use Rattle.line.specs.declared.Rules.{Rules}
use Rattle.line.specs.declared.Kind.TheVariants.{User, System}
use Rattle.line.specs.declared.user.Owner.{Owner}
use Rattle.line.specs.declared.time.When.TheVariants.{Timed}
use Rattle.line.specs.declared.Line.TheVariants as line
use Rattle.line.specs.Lines.{read_line}
use Rattle.line.specs.Users.{column_of, absent, column_at}
use Rattle.line.specs.Entries.{time_at}
use Rattle.line.proofs.Theorems.{content_start}
use Rattle.line.specs.Owners.{nobody}
use Rattle.crontab.specs.declared.entry.Entry.{Entry}
use Rattle.crontab.specs.declared.table.Table.{Table}
use Rattle.crontab.specs.declared.table.TableFault.{TableFault}
use Rattle.crontab.specs.Lines.{lines_of}
use Rattle.crontab.specs.Items.{Items, done, fault, setting, entry, items_of, moved}
use Rattle.crontab.specs.Tables.{refused_table, empty_table, with_entry, with_items, table_of, entry_in, count_in, refusal_in}
use Rattle.crontab.specs.Firings.{due_of, next_of, due_answer, due_in, next_answer, next_in}
use Rattle.crontab.specs.Owners.{owner_from, owner_of, owner_answer, owner_in}
use Rattle.crontab.specs.Settings.{setting_from, setting_in, line_or, next_line_from, next_line_in}
use Rattle.crontab.specs.Clocks.{clock_of, clock_answer, clock_in}
use Rattle.crontab.proofs.Tables.{good-is}
use Rattle.crontab.proofs.Theorems.{next-by-clock, owner-judged}
use Rattle.crontab.specs.declared.setting.Setting.{Setting}
use Rattle.line.specs.Times.{time_of}

-- ---- entries by number: the table's own refusal comes before 13

module _ (t : Result Table TableFault) (i : ℕ) where
  pub none-such : refusal_in t ≡ 0 → count_in t ≤ i → entry_in t i ≡ Err NoSuchEntry
  unfolding entry_in
  none-such good h = let (x, is) = good-is t good in rw (is, le-ltb i x.count (rw is at h))

  pub none-of-bad : {f : TableFault} → t ≡ Err f → entry_in t i ≡ Err f.refusal
  unfolding entry_in
  none-of-bad is = rw is

  -- what is asked of an entry that is found goes by the entry
  pub asked-found : {e : Entry} → entry_in t i ≡ Ok e → (m : ℕ) → (due_in t i m ≡ due_of e m) × (next_in t i m ≡ next_of e m)
  unfolding due_in due_answer next_in next_answer
  asked-found is m = rw is (refl, refl)

  pub asked-none : {n : Refusal} → entry_in t i ≡ Err n → (m : ℕ) → (due_in t i m ≡ Err n) × (next_in t i m ≡ Err n)
  unfolding due_in due_answer next_in next_answer
  asked-none is m = rw is (refl, refl)

module _ (rules : Rules) (s : List ℕ) (i : ℕ) where
  pub entry-none : refusal_in (table_of rules s) ≡ 0 → count_in (table_of rules s) ≤ i → entry_in (table_of rules s) i ≡ Err NoSuchEntry
  entry-none = none-such (table_of rules s) i

  pub entry-bad : {f : TableFault} → table_of rules s ≡ Err f → entry_in (table_of rules s) i ≡ Err f.refusal
  entry-bad = none-of-bad (table_of rules s) i

  -- the slow engine says the same of any entry and minute, refused or not
  pub clock-plainly : (m : ℕ) → next_in (table_of rules s) i m ≡ clock_in (table_of rules s) i m
  clock-plainly m = next-by-clock rules s i m

  pub clock-timed : {e : Entry} {times : Schedule} → entry_in (table_of rules s) i ≡ Ok e → e.when ≡ Timed times → (m : ℕ) → m ≤ last_minute
      → next_in (table_of rules s) i m ≡ clock_after_in times (biased_offset e.offset) m
  unfolding clock_in clock_answer clock_of
  clock-timed is timed m on = next-by-clock rules s i m ∙ rw (is, le-leb m last_minute on, timed)

  -- ---- owners

  pub owner-found : {e : Entry} → entry_in (table_of rules s) i ≡ Ok e → owner_in rules s i ≡ Ok (owner_of rules s e)
  unfolding owner_answer
  owner-found is = rw is

  pub owner-none : {n : Refusal} → entry_in (table_of rules s) i ≡ Err n → owner_in rules s i ≡ Err n
  unfolding owner_answer
  owner-none is = rw is

  -- a user table's entries have none
  pub owner-user : {e : Entry} → rules.kind ≡ User → entry_in (table_of rules s) i ≡ Ok e → owner_in rules s i ≡ Ok nobody
  unfolding owner_answer owner_of owner_from
  owner-user user is = rw (is, user)

  -- a system table's entry: its line is read as one, the column after the time was accepted, and what it names is shown, as parts of the table
  pub owner-system : {e : Entry} → rules.kind ≡ System → entry_in (table_of rules s) i ≡ Ok e
      → let l = between s e.at e.end in
      (before later : List (List ℕ)) × (next end : ℕ) × (o shown : Owner)
      × (lines_of s ≡ before ++ l ∷ later)
      × (e.line ≡ length before + 1)
      × (read_line rules l ≡ Ok (line.Entry e.when (e.start - e.at)))
      × (time_at rules.dialect l (content_start l) ≡ time_of e.when next)
      × (column_at l next ≡ column_of o end)
      × (e.start - e.at ≡ skipped Blank l end)
      × (owner_in rules s i ≡ Ok shown)
      × (shown.user ≡ moved e.at o.user)
      × (o.group.start < o.group.end → shown.group ≡ moved e.at o.group)
      × (o.group.end ≤ o.group.start → shown.group ≡ absent)
      × (o.class.start < o.class.end → shown.class ≡ moved e.at o.class)
      × (o.class.end ≤ o.class.start → shown.class ≡ absent)
      × (o.user.start < o.user.end)
  owner-system system found =
      let j = owner-judged rules s i system found in
      (j.line.before, j.line.later, j.next, j.end, j.owner, j.shown, j.line.lines, j.line.number, j.line.read, j.time, j.column, j.command, j.given, j.user, j.group.0, j.group.1, j.class.0, j.class.1, j.some)

-- ---- settings: a refused table has none

bad-setting : (items : Items) (t : Table) (so_far : Result Setting Refusal) (j : ℕ) {f : TableFault} → with_items t items ≡ Err f
    → setting_from so_far j items ≡ Err f.refusal
unfolding with_items setting_from refused_table with_entry
bad-setting done t so_far j is = cc
bad-setting (fault refusal line column) t so_far j {f} is =
    let same : record { refusal = refusal; line = line; column = column } ≡ f = cc in ap (λ (x : TableFault). Err x.refusal) same
bad-setting (setting line name value later) t so_far j is = bad-setting later t _ j is
bad-setting (entry e later) t so_far j is = bad-setting later (with_entry t e) so_far j is

bad-line : (items : Items) (t : Table) (so_far : Result ℕ Refusal) (j : ℕ) {f : TableFault} → with_items t items ≡ Err f
    → next_line_from so_far j items ≡ Err f.refusal
unfolding with_items next_line_from refused_table with_entry
bad-line done t so_far j is = cc
bad-line (fault refusal line column) t so_far j {f} is =
    let same : record { refusal = refusal; line = line; column = column } ≡ f = cc in ap (λ (x : TableFault). Err x.refusal) same
bad-line (setting line name value later) t so_far j is = bad-line later t (line_or so_far j line) j is
bad-line (entry e later) t so_far j is = bad-line later (with_entry t e) so_far j is

module _ (rules : Rules) (s : List ℕ) {f : TableFault} (bad : table_of rules s ≡ Err f) (j : ℕ) where
  pub settings-bad : setting_in (items_of rules s) j ≡ Err f.refusal
  unfolding setting_in table_of empty_table refused_table
  settings-bad = bad-setting (items_of rules s) empty_table (Err NoSetting) j bad

  pub lines-bad : next_line_in (items_of rules s) j ≡ Err f.refusal
  unfolding next_line_in table_of empty_table refused_table
  lines-bad = bad-line (items_of rules s) empty_table (Err NoSetting) j bad
