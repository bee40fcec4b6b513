-- Laws of the lines as the functions write them: part by part.
-- Assumes nothing.
use mathlib.Core.Path.{◌≡◌, refl, sym, ◌∙◌}
use mathlib.Core.Bool.{Bool, true, false, cond}
use mathlib.Core.List.{List, [], ◌∷◌, ◌++◌, append_assoc}
use Prim.Native.Nat.{ℕ}
use lib.ListN.{length}
use Rattle.octets.specs.declared.class.Class.TheVariants.{Not}
use borrow.Author.Tests.{eq-eqb, ne_eqb}
use Rattle.octets.specs.Runs.{are_of, skipped, between}
use Rattle.octets.proofs.Places.{skipped-whole}
use Rattle.octets.proofs.Written.{wrote-next}
use Rattle.octets.specs.Texts.{text}
use Rattle.octets.specs.Clipped.{Wrote}
use Rattle.schedule.specs.declared.Schedule.{Schedule}
use Rattle.line.specs.declared.Part.{Part}
use Rattle.crontab.specs.declared.entry.Entry as entry
use Rattle.crontab.specs.declared.item.Item as line
use Rattle.crontab.specs.declared.item.Item.TheVariants.{Nothing, Setting, Entry}
use Rattle.line.specs.declared.time.When.{When}
use Rattle.line.specs.declared.time.When.TheVariants.{Reboot, Timed}
use Rattle.line.specs.Assignments.{part_bytes}
use Rattle.normal.specs.Meanings.{setting, entry_item}
use Rattle.normal.specs.Texts.{quoted, in_quotes, is_bare_name, is_bare_value, name_text, value_text, schedule_text, item_text}
use Rattle.normal.specs.Inner.{quote_for, bare_or_quoted, spaced, PartOf, Within, line_text}

-- ---- a setting

-- by where the run without a double quote ends
pub double-quote : (s : List ℕ) (n : ℕ) → n ≡ skipped (Not 34) s 0 → n ≡ length s → 34 ≡ quote_for s
unfolding quote_for
double-quote s n e h = rw (sym (skipped-whole (Not 34) s) ∙ eq-eqb (skipped (Not 34) s 0) (length s) (sym e ∙ h))

pub single-quote : (s : List ℕ) (n : ℕ) → n ≡ skipped (Not 34) s 0 → (n ≡ length s → ⊥) → 39 ≡ quote_for s
unfolding quote_for
single-quote s n e h = rw (sym (skipped-whole (Not 34) s) ∙ ne_eqb (skipped (Not 34) s 0) (length s) (λ q. h (e ∙ q)))

quoted-by : (s : List ℕ) → quoted s ≡ in_quotes (quote_for s) s
unfolding quoted quote_for
quoted-by s = go (are_of (Not 34) s)
  where
    go : (t : Bool) → cond t (in_quotes 34 s) (in_quotes 39 s) ≡ in_quotes (cond t 34 39) s
    go true = refl
    go false = refl

pub part-bare : (bare : Bool) (s : List ℕ) → bare ≡ true → bare_or_quoted bare s ≡ s
part-bare bare s e = rw e

pub part-quoted : (bare : Bool) (s : List ℕ) → bare ≡ false → bare_or_quoted bare s ≡ in_quotes (quote_for s) s
part-quoted bare s e = rw e (quoted-by s)

module _ (name value : List ℕ) where
  pub setting-text : item_text (setting name value) ≡ bare_or_quoted (is_bare_name name) name ++ 61 ∷ bare_or_quoted (is_bare_value value) value
  unfolding item_text name_text value_text
  setting-text = refl

-- ---- an entry

-- one behind another
pub spaced-next : (a b : List ℕ) {at mid next : ℕ} {before between now : List ℕ} → Wrote at (spaced a) before mid between
    → Wrote mid (spaced b) between next now → Wrote at (spaced (a ++ 32 ∷ b)) before next now
unfolding spaced
spaced-next a b f g =
    let e : (a ++ 32 ∷ b) ++ 32 ∷ [] ≡ (a ++ 32 ∷ []) ++ (b ++ 32 ∷ []) =
    append_assoc a (32 ∷ b) (32 ∷ []) ∙ sym (append_assoc a (32 ∷ []) (b ++ 32 ∷ [])) in
    rw e (wrote-next f g)

module _ (when : When) (command : List ℕ) where
  pub boot-text : when ≡ Reboot → item_text (entry_item when command) ≡ text "@reboot " ++ command
  unfolding item_text entry_item
  boot-text e = rw e

  module _ {s : Schedule} (e : when ≡ Timed s) where
    pub timed-text : item_text (entry_item when command) ≡ spaced (schedule_text s) ++ command
    unfolding item_text entry_item spaced
    timed-text = rw (e, append_assoc)

-- ---- a line

module _ (s : List ℕ) (x : line.Item) where
  pub line-none : x ≡ Nothing → line_text s x ≡ []
  unfolding line_text
  line-none is = rw is

  module _ {name value : Part} (is : x ≡ Setting name value) where
    pub setting-within : Within s x → PartOf s name.start name.end × PartOf s value.start value.end
    setting-within h = rw is at h

    pub line-setting : line_text s x ≡ item_text (setting (part_bytes s name) (part_bytes s value)) ++ 10 ∷ []
    unfolding line_text
    line-setting = rw is

  module _ {e : entry.Entry} (is : x ≡ Entry e) where
    pub entry-within : Within s x → PartOf s e.start e.end
    entry-within h = rw is at h

    pub line-entry : line_text s x ≡ item_text (entry_item e.when (between s e.start e.end)) ++ 10 ∷ []
    unfolding line_text
    line-entry = rw is
