-- The same walk by single lines, ignored ones too (`item::advance` of crontab): what a line writes and what it leaves make up what was left before.
-- Walks has it by the step that skips ignored lines.
-- Assumes nothing.
use mathlib.Core.Path.{◌≡◌, ap, ◌∙◌}
use mathlib.Core.Bool.{◌&&◌}
use mathlib.Core.List.{List, ◌++◌}
use Prim.Native.Nat.{ℕ, ◌+◌}
use lib.ListN.{length}
use lib.Dec.{leb}
use Rattle.std.specs.Prelude.{Result}
use Rattle.refusal.specs.Numbers.{number_of}
use Rattle.field.specs.declared.Dialect.{Dialect}
use Rattle.field.specs.declared.Fault.{Fault}
use Rattle.line.specs.Limits.{max_line}
use Rattle.crontab.specs.declared.item.Cursor.{Cursor}
use Rattle.crontab.specs.declared.item.Item as line
use Rattle.crontab.specs.declared.item.Step.{Step}
use Rattle.crontab.specs.Items.{fault}
use Rattle.crontab.specs.Inner.{items_at, given, StepIs}
use Rattle.crontab.specs.Tables.{table_of, refusal_in}
use Rattle.crontab.proofs.Sound.{SoundItems}
use Rattle.crontab.proofs.Tables.{verdict_from}
use Rattle.normal.specs.Meanings.{Item, of_user}
use Rattle.normal.specs.Texts.{are_short}
use Rattle.normal.specs.Inner.{Within, line_text}
use Rattle.normal.proofs.Walks.{given-within, given-sound, given-verdict, given-short, Going, InParts, items_left}
use Rattle.normal.proofs.Walks as walks
use Rattle.crontab.specs.declared.table.TableFault.{TableFault}

module _ {d : Dialect} {s : List ℕ} {c : Cursor} {r : Step} (step : StepIs (of_user d) s c r) (going : Going d s c) where
  here : SoundItems (of_user d) s going.line c.count (given c.line r.item (items_at (of_user d) s r.next))
  here = rw step.gives at going.sound

  pub going-within : Within s r.item
  going-within = given-within (of_user d) s c.line going.line c.count (items_at (of_user d) s r.next) r.item here

  verdict-next : verdict_from r.next.count (items_at (of_user d) s r.next) ≡ verdict_from c.count (items_at (of_user d) s c)
  verdict-next =
      ap (λ (k : ℕ). verdict_from k (items_at (of_user d) s r.next)) step.counts
      ∙ given-verdict s c.line c.count (items_at (of_user d) s r.next) r.item ∙ rw step.gives

  pub going_next : Going d s r.next
  going_next =
      let next = given-sound (of_user d) s c.line going.line c.count (items_at (of_user d) s r.next) r.item here in
      record {
        reached = step.reached;
        line = next.0;
        sound = rw (← step.counts) at next.1;
        verdict = ap (λ (v : Result ℕ TableFault). refusal_in v) verdict-next ∙ going.verdict;
      }

module _ {d : Dialect} {s : List ℕ} {c : Cursor} {f : Fault} (bad : items_at (of_user d) s c ≡ fault f.refusal c.line f.column) (going : Going d s c) where
  -- a line that is refused refuses the table
  pub going-refused : number_of f.refusal ≡ refusal_in (table_of (of_user d) s)
  going-refused = walks.going-refused bad going

  -- and a good one has none
  pub going-kept : refusal_in (table_of (of_user d) s) ≡ 0 → ⊥
  going-kept = walks.going-kept bad going

module _ {d : Dialect} {s : List ℕ} {c : Cursor} {r : Step} (step : StepIs (of_user d) s c r) where
  pub parts_next : {part : line.Item → List ℕ} {all : List Item → List ℕ} → InParts s part all
      → part r.item ++ all (items_left d s r.next) ≡ all (items_left d s c)
  parts_next parts = parts.next c.line (items_at (of_user d) s r.next) r.item ∙ rw step.gives

  pub short-next : (leb (length (line_text s r.item)) (max_line + 1) && are_short (items_left d s r.next)) ≡ are_short (items_left d s c)
  short-next = given-short s c.line 0 (items_at (of_user d) s r.next) r.item ∙ rw step.gives
