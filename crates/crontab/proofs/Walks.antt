-- A walk over a table's items, step by step: what a step leaves, by its item, and how the table and what is found go on from there.
-- Assumes nothing.
use mathlib.Core.Path.{◌≡◌, refl, sym, ap, ◌∙◌}
use mathlib.Core.List.{List}
use Prim.Native.Nat.{ℕ, ◌+◌, ◌-◌, ◌<◌}
use native.Mathlib.Omega.{arith}
use lib.ListN.{length, set}
use lib.IntN.{ℤ}
use Rattle.std.specs.Prelude.{Ok, Err}
use Rattle.line.specs.declared.Rules.{Rules}
use Rattle.line.specs.declared.Part.{Part}
use Rattle.crontab.specs.declared.entry.Entry.{Entry}
use Rattle.crontab.specs.declared.item.Cursor.{Cursor}
use Rattle.crontab.specs.declared.item.Item.{Item}
use Rattle.crontab.specs.declared.item.Item.TheVariants as item
use Rattle.crontab.specs.declared.item.NextItem.{NextItem}
use Rattle.crontab.specs.declared.table.TableFault.{TableFault}
use Rattle.crontab.specs.declared.find.Wanted.{Wanted}
use Rattle.crontab.specs.declared.find.Finding.{Finding}
use Rattle.crontab.specs.Limits.{max_entries}
use Rattle.crontab.specs.Items.{Items, done, fault, setting, entry}
use Rattle.crontab.specs.Inner.{items_at, given, counted, ItemIs, Sound, Under, Stays, Leads}
use Rattle.crontab.specs.Tables.{refused_table, with_entry, with_items}
use Rattle.crontab.specs.Findings.{is_wanted, found_or, finding_from}
use Rattle.crontab.proofs.Tables.{good}
use Rattle.crontab.proofs.Items.{items-end}

-- ---- one step

leads-on : {n from next : ℕ} (x : Item) → from < n → Leads n from next x → from < next
leads-on item.Nothing h l = omega (arith, l)
leads-on (item.Setting name value) h l = l
leads-on (item.Entry e) h l = l

module _ {rules : Rules} {s : List ℕ} {c : Cursor} {r : NextItem} (step : ItemIs rules s c r) where
  -- each step leaves less to walk
  pub step_less : c.at < length s → length s + 1 - r.next.at < length s + 1 - c.at
  step_less h = omega (arith, leads-on r.item h step.leads, step.reached.place)

  module _ {x : Item} (is : r.item ≡ x) where
    left : items_at rules s c ≡ given r.line x (items_at rules s r.next)
    left = step.gives ∙ rw is

    count : r.next.count ≡ counted x c.count
    count = step.counts ∙ rw is

    leads : Leads (length s) c.at r.next.at x
    leads = rw is at step.leads

    under : Under (length s) c.offset x
    under = rw is at step.under

  pub left-nothing : r.item ≡ item.Nothing → items_at rules s c ≡ done
  unfolding given
  left-nothing is = left is ∙ items-end rules s r.next (leads is)

  module _ {name value : Part} (is : r.item ≡ item.Setting name value) where
    pub left-setting : items_at rules s c ≡ setting r.line name value (items_at rules s r.next)
    unfolding given
    left-setting = left is

    pub count-setting : r.next.count ≡ c.count
    unfolding counted
    count-setting = count is

    pub less-setting : length s + 1 - r.next.at < length s + 1 - c.at
    less-setting = omega (arith, leads is, step.reached.place)

  module _ {e : Entry} (is : r.item ≡ item.Entry e) where
    pub left-entry : items_at rules s c ≡ entry e (items_at rules s r.next)
    unfolding given
    left-entry = left is

    pub count-entry : r.next.count ≡ c.count + 1
    unfolding counted
    count-entry = count is

    pub less-entry : length s + 1 - r.next.at < length s + 1 - c.at
    less-entry = omega (arith, leads is, step.reached.place)

    pub entry-under : e.offset ≡ c.offset
    entry-under = (under is).0

    pub entry-sound : Sound (length s) e
    entry-sound = (under is).1

    -- the entries' array has a place for one more
    pub entry-room : c.count < max_entries
    entry-room = omega (arith, count-entry, step.reached.few)

  -- ---- the table so far

  module _ (es : List Entry) where
    pub table-nothing : r.item ≡ item.Nothing → Ok (good c.count es) ≡ with_items (good c.count es) (items_at rules s c)
    unfolding with_items
    table-nothing is = rw (left-nothing is)

    pub table-setting : {name value : Part} → r.item ≡ item.Setting name value
        → with_items (good r.next.count es) (items_at rules s r.next) ≡ with_items (good c.count es) (items_at rules s c)
    unfolding with_items
    table-setting is = rw (left-setting is, count-setting is)

    pub table_more : {e : Entry} → r.item ≡ item.Entry e
        → with_items (good r.next.count (set es c.count e)) (items_at rules s r.next) ≡ with_items (good c.count es) (items_at rules s c)
    unfolding with_items with_entry
    table_more is = rw (left-entry is, count-entry is)

  -- ---- what is found

  module _ (w : Wanted) (found : Finding) where
    finding-given : (x : Item) (later : Items) (n : ℕ) (o : ℤ) → Stays n c.offset o x
        → finding_from w (found_or w found n c.count x) (counted x c.count) later ≡ finding_from w found c.count (given n x later)
    unfolding finding_from found_or is_wanted given counted
    finding-given item.Nothing later n o u = refl
    finding-given (item.Setting name value) later n o u = refl
    finding-given (item.Entry e) later n o u = rw u

    pub finding-next : finding_from w (found_or w found r.line c.count r.item) r.next.count (items_at rules s r.next) ≡ finding_from w found c.count (items_at rules s c)
    finding-next =
        ap (λ (k : ℕ). finding_from w (found_or w found r.line c.count r.item) k (items_at rules s r.next)) step.counts
        ∙ finding-given r.item (items_at rules s r.next) r.line r.next.offset step.stays
        ∙ ap (finding_from w found c.count) (sym step.gives)

-- ---- a fault

module _ (rules : Rules) (s : List ℕ) (c : Cursor) {f : TableFault} (bad : items_at rules s c ≡ fault f.refusal f.line f.column) where
  pub table-refused : (es : List Entry) → refused_table f.refusal f.line f.column ≡ with_items (good c.count es) (items_at rules s c)
  unfolding with_items
  table-refused es = rw bad

  pub finding-refused : (w : Wanted) (found : Finding) → Err f ≡ finding_from w found c.count (items_at rules s c)
  unfolding finding_from
  finding-refused w found = rw bad
