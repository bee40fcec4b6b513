-- Laws of a walk over a table's lines that writes a text: what a step writes and what it leaves make up what was left before. What is written may be
-- any text that has a part for each line.
-- Assumes nothing.
use mathlib.Core.Path.{◌≡◌, refl, sym, ap, ◌∙◌}
use mathlib.Core.Bool.{Bool, true, false, ◌&&◌}
use mathlib.Core.List.{List, [], ◌∷◌, ◌++◌, append_assoc}
use Prim.Native.Nat.{ℕ, ◌+◌, ◌≤◌, ◌<◌}
use native.Mathlib.Omega.{arith}
use lib.ListN.{length, length-append}
use lib.Dec.{leb}
use borrow.Author.Tests.{lt-ltb, lt-leb, le-leb, leb-true, leb-false}
use Rattle.std.specs.Prelude.{Result, Err}
use Rattle.refusal.specs.declared.Refusal.TheVariants.{TableTooLong}
use Rattle.refusal.specs.Numbers.{number_of}
use Rattle.refusal.proofs.Numbers.{number-small}
use Rattle.field.specs.declared.Dialect.{Dialect}
use Rattle.line.specs.declared.Rules.{Rules}
use Rattle.crontab.specs.declared.item.Cursor.{Cursor}
use Rattle.crontab.specs.declared.item.Item as line
use Rattle.crontab.specs.declared.item.Item.TheVariants.{Nothing, Setting, Entry}
use Rattle.crontab.specs.declared.item.NextItem.{NextItem}
use Rattle.crontab.specs.Limits.{max_table}
use Rattle.line.specs.Limits.{max_line}
use Rattle.crontab.specs.Items.{Items, fault, items_of}
use Rattle.crontab.specs.Inner.{items_at, Reached, given, counted, ItemIs}
use Rattle.crontab.specs.Tables.{table_of, refusal_in}
use Rattle.crontab.proofs.Items.{start, items-start, start-reached, items-end}
use Rattle.crontab.proofs.Sound.{SoundItems, items-sound}
use Rattle.crontab.proofs.Tables.{verdict_from, table-verdict, verdict-refusal}
use Rattle.normal.specs.Meanings.{Item, of_user, meanings, meaning_of}
use Rattle.normal.specs.Texts.{normal_text, are_short}
use Rattle.normal.specs.Inner.{Within, line_text}
use Rattle.crontab.specs.declared.table.TableFault.{TableFault}

-- ---- what a line gives

module _ (rules : Rules) (s : List ℕ) (n m k : ℕ) (later : Items) where
  pub given-within : (x : line.Item) → SoundItems rules s m k (given n x later) → Within s x
  unfolding given
  given-within Nothing h = tt
  given-within (Setting name value) h = ((h.0.order, h.0.within), (h.1.order, h.1.within))
  given-within (Entry e) h = (omega (arith, h.0.some), h.0.within)

  pub given-sound : (x : line.Item) → SoundItems rules s m k (given n x later) → (j : ℕ) × SoundItems rules s j (counted x k) later
  unfolding given counted
  given-sound Nothing h = (m, h)
  given-sound (Setting name value) h = (n + 1, h.2)
  given-sound (Entry e) h = (e.line + 1, h.2)

pub line-limit : (t : List ℕ) → leb (length (t ++ 10 ∷ [])) (max_line + 1) ≡ leb (length t) max_line
line-limit t = go (leb (length t) max_line) refl
  where
    go : (b : Bool) → leb (length t) max_line ≡ b → leb (length (t ++ 10 ∷ [])) (max_line + 1) ≡ b
    go true e = le-leb (length (t ++ 10 ∷ [])) (max_line + 1) (omega (arith, length-append t (10 ∷ []), leb-true (length t) max_line e))
    go false e = lt-leb (length (t ++ 10 ∷ [])) (max_line + 1) (omega (arith, length-append t (10 ∷ []), leb-false (length t) max_line e))

module _ (s : List ℕ) (n k : ℕ) (later : Items) where
  pub given-verdict : (x : line.Item) → verdict_from (counted x k) later ≡ verdict_from k (given n x later)
  unfolding given counted verdict_from
  given-verdict Nothing = refl
  given-verdict (Setting name value) = refl
  given-verdict (Entry e) = refl

  -- a line with its newline is short, and those after it
  pub given-short : (x : line.Item) → (leb (length (line_text s x)) (max_line + 1) && are_short (meanings s later)) ≡ are_short (meanings s (given n x later))
  unfolding given line_text meanings are_short
  given-short Nothing = refl
  given-short (Setting name value) = rw line-limit
  given-short (Entry e) = rw line-limit

  given-text : (x : line.Item) → line_text s x ++ normal_text (meanings s later) ≡ normal_text (meanings s (given n x later))
  unfolding given line_text meanings normal_text
  given-text Nothing = refl
  given-text (Setting name value) = rw append_assoc
  given-text (Entry e) = rw append_assoc

-- ---- a walk

pub table-long : (d : Dialect) (s : List ℕ) → max_table < length s → number_of TableTooLong ≡ refusal_in (table_of (of_user d) s)
unfolding items_of verdict_from
table-long d s h =
    let e : verdict_from 0 (items_of (of_user d) s) ≡ Err (record { refusal = TableTooLong; line = 0; column = 0 }) = rw (lt-ltb max_table (length s) h) in
    ap (λ (v : Result ℕ TableFault). refusal_in v) (sym e ∙ table-verdict (of_user d) s) ∙ verdict-refusal (table_of (of_user d) s)

-- what holds at a cursor
pub record Going (d : Dialect) (s : List ℕ) (c : Cursor) : Type 0 where
  pub reached : Reached s c
  pub line : ℕ
  pub sound : SoundItems (of_user d) s line c.count (items_at (of_user d) s c)
  pub verdict : refusal_in (verdict_from c.count (items_at (of_user d) s c)) ≡ refusal_in (table_of (of_user d) s)

pub going-starts : (d : Dialect) (s : List ℕ) → length s ≤ max_table → Going d s start
going-starts d s h =
    record {
      reached = start-reached s h;
      line = 1;
      sound = rw (items-start (of_user d) s h) (items-sound (of_user d) s);
      verdict = rw (items-start (of_user d) s h, table-verdict (of_user d) s) (verdict-refusal (table_of (of_user d) s));
    }

module _ {d : Dialect} {s : List ℕ} {c : Cursor} {r : NextItem} (step : ItemIs (of_user d) s c r) (going : Going d s c) where
  here : SoundItems (of_user d) s going.line c.count (given r.line r.item (items_at (of_user d) s r.next))
  here = rw step.gives at going.sound

  pub going-within : Within s r.item
  going-within = given-within (of_user d) s r.line going.line c.count (items_at (of_user d) s r.next) r.item here

  verdict-next : verdict_from r.next.count (items_at (of_user d) s r.next) ≡ verdict_from c.count (items_at (of_user d) s c)
  verdict-next =
      ap (λ (k : ℕ). verdict_from k (items_at (of_user d) s r.next)) step.counts
      ∙ given-verdict s r.line c.count (items_at (of_user d) s r.next) r.item ∙ rw step.gives

  pub going_next : Going d s r.next
  going_next =
      let next = given-sound (of_user d) s r.line going.line c.count (items_at (of_user d) s r.next) r.item here in
      record {
        reached = step.reached;
        line = next.0;
        sound = rw (← step.counts) at next.1;
        verdict = ap (λ (v : Result ℕ TableFault). refusal_in v) verdict-next ∙ going.verdict;
      }

module _ {d : Dialect} {s : List ℕ} {c : Cursor} {f : TableFault} (bad : items_at (of_user d) s c ≡ fault f.refusal f.line f.column) (going : Going d s c) where
  -- a line that is refused refuses the table
  pub going-refused : number_of f.refusal ≡ refusal_in (table_of (of_user d) s)
  unfolding verdict_from
  going-refused = sym (rw bad) ∙ going.verdict

  -- and a good one has none
  pub going-kept : refusal_in (table_of (of_user d) s) ≡ 0 → ⊥
  going-kept good = omega (arith, going-refused, good, number-small f.refusal)

-- ---- what a step leaves

-- what is written of the items of a table: the parts of its lines, one after the other
pub record InParts (s : List ℕ) (part : line.Item → List ℕ) (all : List Item → List ℕ) : Type 0 where
  pub none : all [] ≡ []
  pub next : (n : ℕ) (later : Items) (x : line.Item) → part x ++ all (meanings s later) ≡ all (meanings s (given n x later))

pub text-parts : (s : List ℕ) → InParts s (line_text s) normal_text
unfolding normal_text
text-parts s = record { none = refl; next = λ n later. given-text s n 0 later }

-- the items from a cursor on
abbrev pub items_left : Dialect → List ℕ → Cursor → List Item
items_left d s c = meanings s (items_at (of_user d) s c)

pub left-starts : (d : Dialect) (s : List ℕ) → length s ≤ max_table → items_left d s start ≡ meaning_of d s
unfolding meaning_of
left-starts d s h = rw (items-start (of_user d) s h)

pub left-ends : (d : Dialect) (s : List ℕ) (c : Cursor) → length s ≤ c.at → items_left d s c ≡ []
unfolding meanings
left-ends d s c h = rw (items-end (of_user d) s c h)

pub left-none : {s : List ℕ} {part : line.Item → List ℕ} {all : List Item → List ℕ} → InParts s part all → (d : Dialect) (c : Cursor) → length s ≤ c.at
    → all (items_left d s c) ≡ []
left-none {s} {all = all} parts d c h = ap all (left-ends d s c h) ∙ parts.none

pub going-good : {d : Dialect} {s : List ℕ} {c : Cursor} → Going d s c → length s ≤ c.at → refusal_in (table_of (of_user d) s) ≡ 0
unfolding verdict_from
going-good {d} {s} {c} going h = sym (rw (items-end (of_user d) s c h) at going.verdict)

module _ {d : Dialect} {s : List ℕ} {c : Cursor} {r : NextItem} (step : ItemIs (of_user d) s c r) where
  pub parts_next : {part : line.Item → List ℕ} {all : List Item → List ℕ} → InParts s part all
      → part r.item ++ all (items_left d s r.next) ≡ all (items_left d s c)
  parts_next parts = parts.next r.line (items_at (of_user d) s r.next) r.item ∙ rw step.gives

  pub short-next : (leb (length (line_text s r.item)) (max_line + 1) && are_short (items_left d s r.next)) ≡ are_short (items_left d s c)
  short-next = given-short s r.line 0 (items_at (of_user d) s r.next) r.item ∙ rw step.gives
