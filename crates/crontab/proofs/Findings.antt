-- Laws of one search in a table: its finding gives the verdict, an entry by its number, a setting by its line, and the first from a line on.
-- Assumes nothing.
use mathlib.Core.Path.{◌≡◌, refl, sym, ◌∙◌}
use mathlib.Core.Bool.{Bool, true, false, cond}
use mathlib.Core.List.{List}
use Prim.Native.Nat.{ℕ, ◌+◌}
use lib.Dec.{eqb, leb}
use Rattle.std.specs.Prelude.{Result, Ok, Err}
use Rattle.refusal.specs.declared.Refusal.{Refusal}
use Rattle.refusal.specs.declared.Refusal.TheVariants.{NoSuchEntry, NoSetting}
use Rattle.line.specs.declared.Rules.{Rules}
use Rattle.line.specs.declared.Part.{Part}
use Rattle.crontab.specs.declared.item.Item.{Item}
use Rattle.crontab.specs.declared.item.Item.TheVariants as item
use Rattle.crontab.specs.declared.find.Wanted.TheVariants as wanted
use Rattle.crontab.specs.declared.find.Finding.{Finding}
use Rattle.crontab.specs.Items.{Items, done, fault, setting, entry, items_of}
use Rattle.crontab.specs.Tables.{table_of, verdict_of, entry_in}
use Rattle.crontab.specs.Settings.{shown, setting_from, setting_in, line_or, next_line_from, next_line_in}
use Rattle.crontab.specs.Findings.{is_nothing, is_wanted_setting, is_wanted_entry, is_wanted, found_or, finding_from, nothing, finding_of}
use Rattle.crontab.proofs.Tables.{verdict_from, entry_from, table-verdict, table-entry}
use Rattle.crontab.specs.declared.entry.Entry.{Entry}
use Rattle.crontab.specs.declared.setting.Setting.{Setting}
use Rattle.crontab.specs.declared.table.TableFault.{TableFault}

-- ---- what is said by what was found, or by the table's fault

unfoldable pub as_verdict : Result Finding TableFault → Result ℕ TableFault
as_verdict (Ok found) = Ok found.count
as_verdict (Err f) = Err f

unfoldable pub as_entry : Item → Result Entry Refusal
as_entry item.Nothing = Err NoSuchEntry
as_entry (item.Setting name value) = Err NoSuchEntry
as_entry (item.Entry e) = Ok e

unfoldable pub entry_told : Result Finding TableFault → Result Entry Refusal
entry_told (Ok found) = as_entry found.item
entry_told (Err f) = Err f.refusal

unfoldable pub as_setting : Item → Result Setting Refusal
as_setting item.Nothing = Err NoSetting
as_setting (item.Setting name value) = shown name value
as_setting (item.Entry e) = Err NoSetting

unfoldable pub setting_told : Result Finding TableFault → Result Setting Refusal
setting_told (Ok found) = as_setting found.item
setting_told (Err f) = Err f.refusal

unfoldable pub as_line : Item → ℕ → Result ℕ Refusal
as_line item.Nothing line = Err NoSetting
as_line (item.Setting name value) line = Ok line
as_line (item.Entry e) line = Err NoSetting

unfoldable pub line_told : Result Finding TableFault → Result ℕ Refusal
line_told (Ok found) = as_line found.item found.line
line_told (Err f) = Err f.refusal

-- ---- the search, item by item

counted-found : (k : ℕ) (items : Items) → verdict_from k items ≡ as_verdict (finding_from wanted.Count nothing k items)
unfolding verdict_from finding_from found_or is_wanted is_wanted_setting is_wanted_entry as_verdict
counted-found k done = refl
counted-found k (fault refusal line column) = refl
counted-found k (setting line name value later) = counted-found k later
counted-found k (entry e later) = counted-found (k + 1) later

entry_found : (i k : ℕ) (found : Finding) (items : Items) → entry_from (as_entry found.item) k i items ≡ entry_told (finding_from (wanted.Entry i) found k items)
unfolding entry_from finding_from found_or is_wanted is_wanted_setting is_wanted_entry as_entry entry_told
entry_found i k found done = refl
entry_found i k found (fault refusal line column) = refl
entry_found i k found (setting line name value later) = entry_found i k found later
entry_found i k found (entry e later) =
    rw (← (either (eqb k i))) (entry_found i (k + 1) (cond (eqb k i) (record { item = item.Entry e; line = e.line; count = 0 }) found) later)
  where
    either : (b : Bool) → as_entry (cond b (record { item = item.Entry e; line = e.line; count = 0 }) found).item ≡ cond b (Ok e) (as_entry found.item)
    either true = refl
    either false = refl

setting-found : (n k : ℕ) (found : Finding) (items : Items)
    → setting_from (as_setting found.item) n items ≡ setting_told (finding_from (wanted.SettingOn n) found k items)
unfolding setting_from finding_from found_or is_wanted is_wanted_setting is_wanted_entry as_setting setting_told
setting-found n k found done = refl
setting-found n k found (fault refusal line column) = refl
setting-found n k found (entry e later) = setting-found n (k + 1) found later
setting-found n k found (setting line name value later) =
    rw (← (either (eqb line n))) (setting-found n k (cond (eqb line n) (record { item = item.Setting name value; line = line; count = 0 }) found) later)
  where
    either : (b : Bool) → as_setting (cond b (record { item = item.Setting name value; line = line; count = 0 }) found).item ≡ cond b (shown name value) (as_setting found.item)
    either true = refl
    either false = refl

-- the first one stays
line_stays : (n k l : ℕ) (name value : Part) (items : Items)
    → next_line_from (Ok l) n items ≡ line_told (finding_from (wanted.SettingFrom n) (record { item = item.Setting name value; line = l; count = 0 }) k items)
unfolding next_line_from line_or finding_from found_or is_wanted is_wanted_setting is_wanted_entry is_nothing as_line line_told
line_stays n k l name value done = refl
line_stays n k l name value (fault refusal line column) = refl
line_stays n k l name value (setting line a b later) = line_stays n k l name value later
line_stays n k l name value (entry e later) = line_stays n (k + 1) l name value later

line-found : (n k : ℕ) (items : Items)
    → next_line_from (Err NoSetting) n items ≡ line_told (finding_from (wanted.SettingFrom n) nothing k items)
unfolding next_line_from line_or finding_from found_or is_wanted is_wanted_setting is_wanted_entry is_nothing as_line line_told
line-found n k done = refl
line-found n k (fault refusal line column) = refl
line-found n k (entry e later) = line-found n (k + 1) later
line-found n k (setting line name value later) = go (leb n line) (line-found n k later)
  where
    go : (b : Bool)
        → next_line_from (Err NoSetting) n later ≡ line_told (finding_from (wanted.SettingFrom n) nothing k later)
        → next_line_from (cond b (Ok line) (Err NoSetting)) n later
        ≡ line_told (finding_from (wanted.SettingFrom n) (cond b (record { item = item.Setting name value; line = line; count = 0 }) nothing) k later)
    go true h = line_stays n k line name value later
    go false h = h

-- ---- of a whole table, by the item that was found

module _ (rules : Rules) (s : List ℕ) {f : Result Finding TableFault} where
  pub found-verdict : f ≡ finding_of wanted.Count (items_of rules s) → {x : Result Finding TableFault} → f ≡ x → as_verdict x ≡ verdict_of (table_of rules s)
  unfolding finding_of
  found-verdict e is = rw (← is, e) (sym (counted-found 0 (items_of rules s)) ∙ table-verdict rules s)

  pub found-entry : (i : ℕ) → f ≡ finding_of (wanted.Entry i) (items_of rules s) → {x : Result Finding TableFault} → f ≡ x → entry_told x ≡ entry_in (table_of rules s) i
  unfolding finding_of as_entry
  found-entry i e is = rw (← is, e) (sym (entry_found i 0 nothing (items_of rules s)) ∙ sym (table-entry rules s i))

module _ (n : ℕ) (items : Items) {f : Result Finding TableFault} where
  pub found-setting : f ≡ finding_of (wanted.SettingOn n) items → {x : Result Finding TableFault} → f ≡ x → setting_told x ≡ setting_in items n
  unfolding finding_of setting_in as_setting
  found-setting e is = rw (← is, e) (sym (setting-found n 0 nothing items))

  pub found-line : f ≡ finding_of (wanted.SettingFrom n) items → {x : Result Finding TableFault} → f ≡ x → line_told x ≡ next_line_in items n
  unfolding finding_of next_line_in
  found-line e is = rw (← is, e) (sym (line-found n 0 items))

-- ---- an item of another kind

pub no-entry : (x : Item) → ((e : Entry) → x ≡ item.Entry e → ⊥) → Err NoSuchEntry ≡ as_entry x
unfolding as_entry
no-entry item.Nothing h = refl
no-entry (item.Setting name value) h = refl
no-entry (item.Entry e) h = absurd (h e refl)

pub no-setting : (x : Item) → ((name value : Part) → x ≡ item.Setting name value → ⊥) → Err NoSetting ≡ as_setting x
unfolding as_setting
no-setting item.Nothing h = refl
no-setting (item.Setting name value) h = absurd (h name value refl)
no-setting (item.Entry e) h = refl

pub no-line : (x : Item) (line : ℕ) → ((name value : Part) → x ≡ item.Setting name value → ⊥) → Err NoSetting ≡ as_line x line
unfolding as_line
no-line item.Nothing line h = refl
no-line (item.Setting name value) line h = absurd (h name value refl)
no-line (item.Entry e) line h = refl
