-- The same walk by single lines, ignored ones too (`item::advance`): after the step over a line what is left gives the same, for the verdict, for an
-- entry, for a setting, for the line of the next one and for the table whole. Walks has it by the step that skips ignored lines.
-- Assumes nothing.
use mathlib.Core.Path.{◌≡◌, ◌∙◌}
use mathlib.Core.Bool.{cond}
use mathlib.Core.List.{List}
use Prim.Native.Nat.{ℕ, ◌+◌, ◌-◌, ◌<◌}
use native.Mathlib.Omega.{arith}
use lib.ListN.{length, set}
use lib.Dec.{eqb}
use Rattle.std.specs.Prelude.{Result, Ok, Err}
use Rattle.refusal.specs.declared.Refusal.{Refusal}
use Rattle.line.specs.declared.Rules.{Rules}
use Rattle.line.specs.declared.Part.{Part}
use Rattle.crontab.specs.declared.entry.Entry.{Entry}
use Rattle.field.specs.declared.Fault.{Fault}
use Rattle.crontab.specs.declared.item.Cursor.{Cursor}
use Rattle.crontab.specs.declared.item.Item.{Item}
use Rattle.crontab.specs.declared.item.Item.TheVariants as item
use Rattle.crontab.specs.declared.item.Step.{Step}
use Rattle.crontab.specs.Limits.{max_entries}
use Rattle.crontab.specs.Items.{fault}
use Rattle.crontab.specs.Inner.{items_at, given, counted, StepIs, Sound}
use Rattle.crontab.specs.Tables.{refused_table, with_entry, with_items}
use Rattle.crontab.specs.Settings.{shown, setting_from, line_or, next_line_from}
use Rattle.crontab.proofs.Tables.{good, verdict_from, entry_from}
use Rattle.crontab.proofs.Walks as walks
use Rattle.crontab.specs.declared.setting.Setting.{Setting}

module _ {rules : Rules} {s : List ℕ} {c : Cursor} {r : Step} (step : StepIs rules s c r) where
  -- each step leaves less to walk
  pub step_less : length s + 1 - r.next.at < length s + 1 - c.at
  step_less = omega (arith, step.onward, step.reached.place)

  module _ {x : Item} (is : r.item ≡ x) where
    left : items_at rules s c ≡ given c.line x (items_at rules s r.next)
    left = step.gives ∙ rw is

    count : r.next.count ≡ counted x c.count
    count = step.counts ∙ rw is

  pub count-entry : {e : Entry} → r.item ≡ item.Entry e → r.next.count ≡ c.count + 1
  unfolding counted
  count-entry is = count is

  pub count-setting : {name value : Part} → r.item ≡ item.Setting name value → r.next.count ≡ c.count
  unfolding counted
  count-setting is = count is

  pub count-nothing : r.item ≡ item.Nothing → r.next.count ≡ c.count
  unfolding counted
  count-nothing is = count is

  pub verdict-entry : {e : Entry} → r.item ≡ item.Entry e → verdict_from r.next.count (items_at rules s r.next) ≡ verdict_from c.count (items_at rules s c)
  unfolding given counted verdict_from
  verdict-entry is = rw (left is, count is)

  pub verdict-setting : {name value : Part} → r.item ≡ item.Setting name value
      → verdict_from r.next.count (items_at rules s r.next) ≡ verdict_from c.count (items_at rules s c)
  unfolding given counted verdict_from
  verdict-setting is = rw (left is, count is)

  pub verdict-nothing : r.item ≡ item.Nothing → verdict_from r.next.count (items_at rules s r.next) ≡ verdict_from c.count (items_at rules s c)
  unfolding given counted verdict_from
  verdict-nothing is = rw (left is, count is)

  module _ (f : Result Entry Refusal) (i : ℕ) where
    pub entry_here : {e : Entry} → r.item ≡ item.Entry e
        → entry_from (cond (eqb c.count i) (Ok e) f) r.next.count i (items_at rules s r.next) ≡ entry_from f c.count i (items_at rules s c)
    unfolding given counted entry_from
    entry_here is = rw (left is, count is)

    pub entry-setting : {name value : Part} → r.item ≡ item.Setting name value
        → entry_from f r.next.count i (items_at rules s r.next) ≡ entry_from f c.count i (items_at rules s c)
    unfolding given counted entry_from
    entry-setting is = rw (left is, count is)

    pub entry-nothing : r.item ≡ item.Nothing → entry_from f r.next.count i (items_at rules s r.next) ≡ entry_from f c.count i (items_at rules s c)
    unfolding given counted entry_from
    entry-nothing is = rw (left is, count is)

  module _ (f : Result Setting Refusal) (n : ℕ) where
    pub setting-here : {name value : Part} → r.item ≡ item.Setting name value
        → setting_from (cond (eqb c.line n) (shown name value) f) n (items_at rules s r.next) ≡ setting_from f n (items_at rules s c)
    unfolding given setting_from
    setting-here is = rw (left is)

    pub setting-entry : {e : Entry} → r.item ≡ item.Entry e → setting_from f n (items_at rules s r.next) ≡ setting_from f n (items_at rules s c)
    unfolding given setting_from
    setting-entry is = rw (left is)

    pub setting-nothing : r.item ≡ item.Nothing → setting_from f n (items_at rules s r.next) ≡ setting_from f n (items_at rules s c)
    unfolding given setting_from
    setting-nothing is = rw (left is)

  module _ (f : Result ℕ Refusal) (n : ℕ) where
    pub line-here : {name value : Part} → r.item ≡ item.Setting name value
        → next_line_from (line_or f n c.line) n (items_at rules s r.next) ≡ next_line_from f n (items_at rules s c)
    unfolding given next_line_from
    line-here is = rw (left is)

    pub line-entry : {e : Entry} → r.item ≡ item.Entry e → next_line_from f n (items_at rules s r.next) ≡ next_line_from f n (items_at rules s c)
    unfolding given next_line_from
    line-entry is = rw (left is)

    pub line-nothing : r.item ≡ item.Nothing → next_line_from f n (items_at rules s r.next) ≡ next_line_from f n (items_at rules s c)
    unfolding given next_line_from
    line-nothing is = rw (left is)

  pub entry-under : {e : Entry} → r.item ≡ item.Entry e → e.offset ≡ c.offset
  entry-under is = (rw is at step.under).0

  pub entry-sound : {e : Entry} → r.item ≡ item.Entry e → Sound (length s) e
  entry-sound is = (rw is at step.under).1

  -- the entries' array has a place for one more
  pub entry-room : {e : Entry} → r.item ≡ item.Entry e → c.count < max_entries
  unfolding counted
  entry-room is = omega (arith, count is, step.reached.few)

  module _ (es : List Entry) where
    pub table_here : {e : Entry} → r.item ≡ item.Entry e
        → with_items (good r.next.count (set es c.count e)) (items_at rules s r.next) ≡ with_items (good c.count es) (items_at rules s c)
    unfolding given counted with_items with_entry
    table_here is = rw (left is, count is)

    pub table-setting : {name value : Part} → r.item ≡ item.Setting name value
        → with_items (good r.next.count es) (items_at rules s r.next) ≡ with_items (good c.count es) (items_at rules s c)
    unfolding given counted with_items
    table-setting is = rw (left is, count is)

    pub table-nothing : r.item ≡ item.Nothing
        → with_items (good r.next.count es) (items_at rules s r.next) ≡ with_items (good c.count es) (items_at rules s c)
    unfolding given counted with_items
    table-nothing is = rw (left is, count is)

-- the line is refused
module _ (rules : Rules) (s : List ℕ) (c : Cursor) {f : Fault} (bad : items_at rules s c ≡ fault f.refusal c.line f.column) where
  pub verdict-refused : Err (record { refusal = f.refusal; line = c.line; column = f.column }) ≡ verdict_from c.count (items_at rules s c)
  unfolding verdict_from
  verdict-refused = rw bad

  pub entry-refused : (found : Result Entry Refusal) (i : ℕ) → Err f.refusal ≡ entry_from found c.count i (items_at rules s c)
  unfolding entry_from
  entry-refused found i = rw bad

  pub setting-refused : (found : Result Setting Refusal) (n : ℕ) → Err f.refusal ≡ setting_from found n (items_at rules s c)
  unfolding setting_from
  setting-refused found n = rw bad

  pub line_refused : (found : Result ℕ Refusal) (n : ℕ) → Err f.refusal ≡ next_line_from found n (items_at rules s c)
  unfolding next_line_from
  line_refused found n = rw bad

  pub table-refused : (es : List Entry) → refused_table f.refusal c.line f.column ≡ with_items (good c.count es) (items_at rules s c)
  table-refused = walks.table-refused rules s c bad
