-- Laws of the entries that are chosen, entry by entry.
-- Assumes nothing.
use mathlib.Core.Path.{◌≡◌, refl, sym, ap, ◌∙◌}
use mathlib.Core.Bool.{Bool, false, cond}
use mathlib.Core.List.{List}
use Prim.Native.Nat.{ℕ, ◌+◌, ◌≤◌, ◌<◌}
use native.Mathlib.Numerals.{add-one}
use native.Mathlib.Omega.{arith}
use lib.ListN.{length, set, length-set, replicate}
use lib.Seq.{get_or-set_same, get_or-set_other}
use lib.IntN.{ℤ}
use borrow.Author.Tests.{le-leb, lt-leb, lt-ltb}
use mir.Syntax.{w32}
use mir.Val.{to_z, of_z}
use Rattle.std.specs.Prelude.{Option, Result, Ok, Err}
use Rattle.refusal.specs.declared.Refusal.{Refusal}
use Rattle.refusal.specs.declared.Refusal.TheVariants.{TableTooLong}
use Rattle.crontab.specs.declared.table.Table.{Table}
use Rattle.crontab.specs.declared.table.TableFault.{TableFault}
use Rattle.crontab.specs.declared.select.Selection.{Selection}
use Rattle.octets.specs.BitSets.{with_member, bit_set_of}
use Rattle.octets.proofs.BitSets.{bit-set-same}
use Rattle.calendar.specs.Dates.{last_minute}
use Rattle.schedule.specs.declared.jump.Case.{Case}
use Rattle.schedule.specs.Local.{OffsetInRange, biased_offset, local_date}
use Rattle.schedule.specs.Jumps.{judged}
use Rattle.crontab.specs.declared.entry.Entry.{Entry}
use Rattle.crontab.specs.declared.select.Selector.{Selector}
use Rattle.crontab.specs.declared.select.Selector.TheVariants.{At}
use Rattle.line.specs.declared.Rules.{Rules}
use Rattle.line.specs.declared.Part.{Part}
use Rattle.crontab.specs.declared.item.Cursor.{Cursor}
use Rattle.crontab.specs.declared.item.Item.TheVariants as item
use Rattle.crontab.specs.declared.item.Item.TheVariants.{Nothing, Setting}
use Rattle.crontab.specs.declared.item.NextItem.{NextItem}
use Rattle.crontab.specs.Limits.{max_table, max_entries}
use Rattle.crontab.specs.Items.{fault, items_of}
use Rattle.crontab.specs.Inner.{items_at, Reached, ItemIs}
use Rattle.crontab.specs.Tables.{refusal_in, count_in, table_entries, blank_entry, no_entries, refused_table, empty_table, with_items, table_of}
use Rattle.crontab.proofs.Tables.{good}
use Rattle.crontab.proofs.Items.{start, items-start, start-reached}
use Rattle.crontab.proofs.Walks.{count-setting, count-entry, entry-room, table-nothing, table-refused, table-setting, table_more}
use Rattle.crontab.specs.Selections.{is_selected, date_under, bit_set_words, choice, selected_by}
use Rattle.crontab.specs.Firings.{is_fixed, fires_at}
use Rattle.line.proofs.Theorems.{kept}
use Rattle.calendar.specs.declared.Date.{Date}

-- one entry more
pub selected-more : (p : Entry → Bool) (es : List Entry) (k : ℕ) (e : Entry) → k < length es
    → let before = bit_set_of bit_set_words (choice p es) k in
    bit_set_of bit_set_words (choice p (set es k e)) (k + 1) ≡ cond (p e) (with_member before k) before
unfolding bit_set_of choice
selected-more p es k e h =
    rw (add-one k, get_or-set_same es k e blank_entry h, bit-set-same bit_set_words (choice p (set es k e)) (choice p es) k same)
  where
    same : (x : ℕ) → x < k → choice p (set es k e) x ≡ choice p es x
    same x j = rw (get_or-set_other es k x e blank_entry (λ q. omega (arith, q)))

pub selected-refused : (p : Entry → Bool) (refusal : Refusal) (line column : ℕ) → Err refusal ≡ selected_by p (refused_table refusal line column)
unfolding selected_by refused_table bit_set_of
selected-refused p refusal line column = refl

-- what a selection says of its table
pub selected-good : (p : Entry → Bool) (t : Result Table TableFault) {x : Selection} → Ok x ≡ selected_by p t
    → (refusal_in t ≡ 0) × (x.count ≡ count_in t) × (x.members ≡ bit_set_of bit_set_words (choice p (table_entries t)) (count_in t))
unfolding selected_by
selected-good p (Ok t) {x} e =
    let same : x ≡ record { count = t.count; members = bit_set_of bit_set_words (choice p t.entries) t.count } = cc in
    (refl, ap (λ (y : Selection). y.count) same, ap (λ (y : Selection). y.members) same)
selected-good p (Err f) e = cc

-- ---- a walk that marks the entries which pass a test

-- the entries so far, which no walk keeps, and the marks of those that pass
pub record Selecting (p : Entry → Bool) (rules : Rules) (s : List ℕ) (c : Cursor) (members : List ℕ) : Type 0 where
  pub entries : List Entry
  pub table : with_items (good c.count entries) (items_at rules s c) ≡ table_of rules s
  pub full : length entries ≡ max_entries
  pub marked : members ≡ bit_set_of bit_set_words (choice p entries) c.count
  pub reached : Reached s c

module _ (p : Entry → Bool) (rules : Rules) (s : List ℕ) where
  pub selecting-long : max_table < length s → Err TableTooLong ≡ selected_by p (table_of rules s)
  unfolding items_of table_of with_items
  selecting-long h = rw (lt-ltb max_table (length s) h) (selected-refused p TableTooLong 0 0)

  pub selecting-starts : length s ≤ max_table → Selecting p rules s start (replicate bit_set_words 0)
  unfolding table_of empty_table refused_table no_entries bit_set_of
  selecting-starts h = record { entries = no_entries; table = rw (items-start rules s h); full = refl; marked = refl; reached = start-reached s h }

module _ {p : Entry → Bool} {rules : Rules} {s : List ℕ} {c : Cursor} {members : List ℕ} (so : Selecting p rules s c members) {r : NextItem} (step : ItemIs rules s c r) where
  pub selecting-ends : r.item ≡ Nothing → Ok (record { count = c.count; members = members }) ≡ selected_by p (table_of rules s)
  unfolding selected_by
  selecting-ends is = rw (← (table-nothing step so.entries is ∙ so.table), so.marked)

  pub selecting-setting : {name value : Part} → r.item ≡ Setting name value → Selecting p rules s r.next members
  selecting-setting is =
      record {
        entries = so.entries;
        table = table-setting step so.entries is ∙ so.table;
        full = so.full;
        marked = rw (count-setting step is) so.marked;
        reached = step.reached;
      }

  pub selecting-entry : {e : Entry} → r.item ≡ item.Entry e → Selecting p rules s r.next (cond (p e) (with_member members c.count) members)
  selecting-entry {e} is =
      record {
        entries = set so.entries c.count e;
        table = table_more step so.entries is ∙ so.table;
        full = simp length-set so.full;
        marked = rw (count-entry step is, so.marked) (sym (selected-more p so.entries c.count e (omega (arith, entry-room step is, so.full))));
        reached = step.reached;
      }

module _ {p : Entry → Bool} {rules : Rules} {s : List ℕ} {c : Cursor} {members : List ℕ} (so : Selecting p rules s c members) {f : TableFault} (bad : items_at rules s c ≡ fault f.refusal f.line f.column) where
  pub selecting-refused : Err f.refusal ≡ selected_by p (table_of rules s)
  selecting-refused = selected-refused p f.refusal f.line f.column ∙ ap (selected_by p) (table-refused _ _ _ bad so.entries ∙ so.table)

-- an announced minute off the calendar calls nobody; on it, the local date is the minute's
module _ {which : Selector} {m : ℕ} {case : Case} (e : Entry) (is : which ≡ At m case) where
  pub selected-off : last_minute < m → false ≡ is_selected which e
  unfolding is_selected
  selected-off h = rw (is, lt-leb m last_minute h)

  pub selected-at : m ≤ last_minute → is_selected which e ≡ judged case (is_fixed e) (fires_at e) m
  unfolding is_selected
  selected-at h = rw (is, le-leb m last_minute h)

  pub date-at : m ≤ last_minute → date_under which e.offset ≡ local_date (biased_offset e.offset) m
  unfolding date_under
  date-at h = rw (is, le-leb m last_minute h)

-- the date under an offset that was read back
module _ (which : Selector) (z : ℤ) {d : Option Date} (h : OffsetInRange z) where
  pub date-kept : d ≡ date_under which (to_z w32 (of_z w32 z)) → d ≡ date_under which z
  date-kept p = p ∙ ap (date_under which) (kept h)

  pub date-back : d ≡ date_under which z → d ≡ date_under which (to_z w32 (of_z w32 z))
  date-back p = p ∙ ap (date_under which) (sym (kept h))
