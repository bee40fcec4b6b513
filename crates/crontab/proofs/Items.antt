-- Laws of the walk over a table's lines: what a step from a cursor gives, and where the walk starts and ends.
-- Assumes nothing.
use Rattle.std.specs.Prelude.{Option, Ok, Err}
use Rattle.refusal.specs.declared.Refusal.TheVariants.{TooManyEntries}
use mathlib.Core.Path.{◌≡◌, refl, sym, subst, ◌∙◌}
use mathlib.Core.List.{List}
use Prim.Native.Nat.{ℕ, ◌+◌, ◌-◌, ◌≤◌, ◌<◌}
use native.Mathlib.Omega.{arith}
use lib.ListN.{length, take, drop, length-drop, drop_of_length-le}
use lib.Seq.{length-take-le}
use lib.IntN.{ℤ}
use borrow.Author.Tests.{lt-ltb, le-ltb}
use Rattle.octets.specs.declared.class.Class.TheVariants.{Not, InLine}
use Rattle.octets.specs.Runs.{skipped, between}
use Rattle.octets.proofs.Runs.{skipped-from, skipped-within}
use Rattle.line.specs.declared.Rules.{Rules}
use Rattle.line.specs.declared.Part.{Part}
use Rattle.line.specs.declared.time.When.{When}
use Rattle.field.specs.declared.Fault.{Fault}
use Rattle.line.specs.declared.Line.TheVariants as line
use Rattle.crontab.specs.declared.item.Cursor.{Cursor}
use Rattle.crontab.specs.declared.item.Item.{Item}
use Rattle.crontab.specs.declared.item.Step.{Step}
use Rattle.crontab.specs.declared.item.BadLine.{BadLine}
use Rattle.crontab.specs.declared.item.Item.TheVariants as item
use Rattle.schedule.specs.Local.{OffsetInRange}
use Rattle.line.specs.Offsets.{utc, in_force}
use Rattle.crontab.specs.Limits.{max_table, max_entries}
use Rattle.line.specs.Limits.{max_line}
use Rattle.crontab.specs.Lines.{lines_of}
use Rattle.line.specs.Lines.{read_line}
use Rattle.crontab.specs.Items.{done, fault, moved, placed, after_line, last_fault, items_from, items_of}
use Rattle.crontab.specs.Inner.{items_at, behind, Reached, LineAt, given, counted, Sound, Under, Stays, Leads, bad_line, ended_step, step_at, StepIs, StepFault, ItemIs, ItemFault}
use Rattle.crontab.proofs.Lines.{line_end, end-found, stop-found, lines-first, next_start, last_line, ended-line}
use Rattle.line.proofs.Theorems.{force-in, setting-proper, entry-proper}

abbrev pub start : Cursor
start = record { at = 0; line = 1; count = 0; offset = utc }

pub items-start : (rules : Rules) (s : List ℕ) → length s ≤ max_table → items_at rules s start ≡ items_of rules s
unfolding items_at items_of
items-start rules s h = rw (le-ltb max_table (length s) h)

pub start-reached : (s : List ℕ) → length s ≤ max_table → Reached s start
start-reached s h = record { short = h; place = omega arith; lines = omega arith; few = omega arith; zone = omega arith }

pub items-end : (rules : Rules) (s : List ℕ) (c : Cursor) → length s ≤ c.at → items_at rules s c ≡ done
unfolding items_at items_from lines_of
items-end rules s c h = rw (drop_of_length-le s h)

-- the line at a cursor, by where it ends
module _ (rules : Rules) (s : List ℕ) (c : Cursor) (stop end : ℕ) (there : LineAt s c stop end) where
  reached : Reached s c
  reached = there.reached

  inside : c.at < length s
  inside = there.inside

  found : end ≡ line_end s c.at
  found = end-found s c.at stop end there.stops there.ends

  abbrev bytes : List ℕ
  bytes = take (end - c.at) (drop c.at s)

  abbrev next : ℕ → ℤ → Cursor
  next k o = behind c end k o

  pub line-order : c.at ≤ end
  line-order = rw found (skipped-from (Not 10) s c.at)

  within : end ≤ length s
  within = rw found (skipped-within (Not 10) s c.at (omega arith))

  pub line-ends : (end ≤ max_table) × (c.line ≤ max_table + 2)
  line-ends = (omega (arith, within, reached.short), omega (arith, inside, reached.short, reached.lines))

  size : length bytes ≡ end - c.at
  size = length-take-le (end - c.at) (drop c.at s) (omega (arith, within, length-drop c.at s))

  -- its first byte that it may not have
  pub line-from : c.at ≤ stop
  line-from = rw there.stops (skipped-from InLine s c.at)

  pub line-stops : stop - c.at ≡ skipped InLine bytes 0
  line-stops = stop-found s c.at stop end there.stops found

  step_is : (i : Item) (k : ℕ) (o : ℤ) → Ok (record { item = i; next = next k o }) ≡ step_at rules s c → items_at rules s c ≡ given c.line i (items_at rules s (next k o)) → k ≡ counted i c.count → k ≤ max_entries
      → OffsetInRange o → Under (length s) c.offset i → Stays c.line c.offset o i → StepIs rules s c (record { item = i; next = next k o })
  step_is i k o same g e few zone under stays =
      record {
        is = same;
        gives = g;
        onward = omega (arith, line-order);
        reached =
            record {
              short = reached.short;
              place = omega (arith, within);
              lines = omega (arith, line-order, reached.lines);
              few = few;
              zone = zone;
            };
        counts = e;
        under = under;
        stays = stays;
      }

  step_bad : (f : Fault) → Err (bad_line c end f) ≡ step_at rules s c → items_at rules s c ≡ fault f.refusal c.line f.column → StepFault rules s c (bad_line c end f)
  step_bad f same g =
      record {
        is = same;
        gives = g;
        line = refl;
        onward = omega (arith, line-order);
        reached =
            record {
              short = reached.short;
              place = omega (arith, within);
              lines = omega (arith, line-order, reached.lines);
              few = reached.few;
              zone = reached.zone;
            };
        counts = refl;
      }

  module _ {when : When} {first : ℕ} (is : read_line rules bytes ≡ Ok (line.Entry when first)) where
    -- its places have 16 bits
    pub entry-placed : (c.at ≤ max_table) × (c.line ≤ max_table) × (first ≤ max_line) × (end - c.at ≤ max_line)
    entry-placed =
        let p = entry-proper rules bytes is in
        let n = reached.short in
        let l = reached.lines in
        (omega arith, omega arith, omega (arith, p.0, p.1), omega (arith, p.0, size))

    entry_here : Sound (length s) (placed c.at c.line (end - c.at) c.offset when first)
    entry_here =
        let p = entry-proper rules bytes is in
        record {
          line = omega arith;
          short = omega (arith, p.0, size);
          some = omega (arith, p.1, size);
          within = omega (arith, within, line-order);
          zone = reached.zone;
        }

  -- the table ends there: its own fault, or 26
  pub step-last : length s ≤ end → StepFault rules s c (bad_line c end (last_fault (end - c.at) c.count (read_line rules bytes)))
  unfolding items_at items_from step_at between
  step-last h =
      step_bad (last_fault (end - c.at) c.count (read_line rules bytes))
      (rw (← found, le-ltb end (length s) h))
      (rw (lines-first s c.at end inside found, last_line s c.at end inside found h, size))

  -- a newline ends it
  module _ (ended : end < length s) where
    here : items_at rules s c
        ≡ after_line c.at c.line (end - c.at) c.count c.offset (read_line rules bytes) (λ k o. items_at rules s (next k o))
    unfolding items_at items_from
    here =
        rw (
          lines-first s c.at end inside found,
          ended-line s c.at end inside found ended,
          next_start s c.at end inside found,
          size,
        )

    step-ended : step_at rules s c ≡ ended_step c end (read_line rules bytes)
    unfolding step_at between
    step-ended = rw (← found, lt-ltb end (length s) ended)

    pub step-refused : {f : Fault} → read_line rules bytes ≡ Err f → StepFault rules s c (bad_line c end f)
    unfolding after_line ended_step
    step-refused {f} is = step_bad f (rw (step-ended, is)) (here ∙ rw is)

    pub step-full : {when : When} {first : ℕ} → read_line rules bytes ≡ Ok (line.Entry when first) → max_entries ≤ c.count
        → StepFault rules s c (bad_line c end (record { refusal = TooManyEntries; column = 1 }))
    unfolding after_line ended_step
    step-full is h =
        step_bad (record { refusal = TooManyEntries; column = 1 }) (rw (step-ended, is, le-ltb c.count max_entries h))
        (here ∙ rw (is, le-ltb c.count max_entries h))

    -- the offset that is read back from a cursor
    module _ {o : ℤ} (same : o ≡ c.offset) where
      in-zones : OffsetInRange o
      in-zones = subst OffsetInRange (sym same) reached.zone

      pub step-nothing : read_line rules bytes ≡ Ok line.Ignored → StepIs rules s c (record { item = item.Nothing; next = next c.count o })
      unfolding after_line given counted ended_step
      step-nothing is = step_is item.Nothing c.count o (rw (step-ended, is, same)) (here ∙ rw (is, same)) refl reached.few in-zones tt same

      pub step-entry : {when : When} {first : ℕ} → read_line rules bytes ≡ Ok (line.Entry when first) → c.count < max_entries
          → StepIs rules s c (record { item = item.Entry (placed c.at c.line (end - c.at) c.offset when first); next = next (c.count + 1) o })
      unfolding after_line given counted ended_step
      step-entry {when} {first} is h =
          step_is (item.Entry (placed c.at c.line (end - c.at) c.offset when first)) (c.count + 1) o
          (rw (step-ended, is, lt-ltb c.count max_entries h, same))
          (here ∙ rw (is, lt-ltb c.count max_entries h, same)) refl (omega arith) in-zones (refl, entry_here is) refl

    pub step-setting : {name value : Part} {zone : Option ℤ} {o : ℤ} → read_line rules bytes ≡ Ok (line.Setting name value zone) → o ≡ in_force zone c.offset
        → StepIs rules s c (record { item = item.Setting (moved c.at name) (moved c.at value); next = next c.count o })
    unfolding after_line given counted ended_step
    step-setting {name} {value} {zone} {o} is same =
        step_is (item.Setting (moved c.at name) (moved c.at value)) c.count o (rw (step-ended, is, same)) (here ∙ rw (is, same)) refl reached.few
        (subst OffsetInRange (sym same) (force-in zone c.offset (setting-proper rules bytes is).3 reached.zone)) tt tt

-- ---- from line to line up to an item

-- between two cursors there are ignored lines alone
pub record Skipped (rules : Rules) (s : List ℕ) (from c : Cursor) : Type 0 where
  pub reached : Reached s c
  pub left : items_at rules s from ≡ items_at rules s c
  pub count : c.count ≡ from.count
  pub offset : c.offset ≡ from.offset
  pub onward : from.at ≤ c.at

pub skipped-none : {rules : Rules} {s : List ℕ} {c : Cursor} → Reached s c → Skipped rules s c c
skipped-none h = record { reached = h; left = refl; count = refl; offset = refl; onward = omega arith }

module _ {rules : Rules} {s : List ℕ} {from c : Cursor} (so : Skipped rules s from c) where
  -- one ignored line more
  pub skipped-line : {r : Step} → StepIs rules s c r → r.item ≡ item.Nothing → Skipped rules s from r.next
  unfolding given counted
  skipped-line step is =
      record {
        reached = step.reached;
        left = so.left ∙ step.gives ∙ rw is;
        count = step.counts ∙ rw is so.count;
        offset = (rw is at step.stays) ∙ so.offset;
        onward = omega (arith, so.onward, step.onward);
      }

  -- an item ends it
  pub skipped-item : {r : Step} → StepIs rules s c r → (r.item ≡ item.Nothing → ⊥) → ItemIs rules s from (record { item = r.item; line = c.line; next = r.next })
  skipped-item {r} step some =
      record {
        gives = so.left ∙ step.gives;
        leads = past r.item some;
        reached = step.reached;
        counts = rw (← so.count) step.counts;
        under = rw (← so.offset) step.under;
        stays = rw (← so.offset) step.stays;
      }
    where
      past : (x : Item) → (x ≡ item.Nothing → ⊥) → Leads (length s) from.at r.next.at x
      past item.Nothing h = absurd (h refl)
      past (item.Setting name value) h = omega (arith, so.onward, step.onward)
      past (item.Entry e) h = omega (arith, so.onward, step.onward)

  -- a fault does
  pub skipped-fault : {r : BadLine} → StepFault rules s c r → ItemFault rules s from r
  skipped-fault bad =
      record {
        gives = so.left ∙ bad.gives ∙ rw bad.line;
        leads = omega (arith, so.onward, bad.onward);
        reached = bad.reached;
        counts = bad.counts ∙ so.count;
      }

  -- the table's end does
  pub skipped-end : length s ≤ c.at → ItemIs rules s from (record { item = item.Nothing; line = c.line; next = c })
  unfolding given counted
  skipped-end h = record { gives = so.left; leads = h; reached = so.reached; counts = so.count; under = tt; stays = so.offset }
