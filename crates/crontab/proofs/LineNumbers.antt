-- The numbers of lines: in a table's items they rise, and none is past the table's end. So the first setting that a walk meets from a line on
-- is on the least such line.
-- Assumes nothing.
use mathlib.Core.Path.{◌≡◌, refl, sym, ap, ◌∙◌}
use mathlib.Core.Bool.{Bool, true, false, cond}
use mathlib.Core.List.{List}
use Prim.Native.Nat.{ℕ, ◌+◌, ◌≤◌, ◌<◌}
use native.Mathlib.Decide.{dec_le}
use native.Mathlib.Omega.{arith}
use lib.ListN.{length}
use lib.Dec.{eqb, leb}
use borrow.Author.Tests.{ne_eqb, eq-eqb, leb-true, leb-false}
use Rattle.std.specs.Prelude.{IsOk, Result, Ok, Err}
use Rattle.refusal.specs.declared.Refusal.{Refusal}
use Rattle.refusal.specs.declared.Refusal.TheVariants.{NoSetting}
use Rattle.refusal.specs.Numbers.{number_of}
use Rattle.line.specs.declared.Rules.{Rules}
use Rattle.line.specs.declared.Part.{Part}
use Rattle.crontab.specs.Items.{Items, done, fault, setting, entry, items_of}
use Rattle.crontab.specs.Tables.{table_of, verdict_of, refusal_in}
use Rattle.crontab.specs.Settings.{shown, setting_from, setting_in, line_or, next_line_from, next_line_in}
use Rattle.crontab.proofs.Sound.{SoundItems, items-sound}
use Rattle.crontab.proofs.Tables.{bad-is, verdict_from, table-verdict, verdict-refusal}
use Rattle.crontab.specs.declared.setting.Setting.{Setting}
use Rattle.crontab.specs.declared.table.Table.{Table}
use Rattle.crontab.specs.declared.table.TableFault.{TableFault}

-- ---- the first setting from a line on

-- the refusal of a table, by its items
abbrev fault_in : ℕ → Items → ℕ
fault_in k items = refusal_in (verdict_from k items)

unfoldable none : Result Setting Refusal
none = Err NoSetting

-- a setting on the line that is asked for, and on another
module _ (line n : ℕ) (name value : Part) (f : Result Setting Refusal) (later : Items) where
  this-line : line ≡ n → setting_from f n (setting line name value later) ≡ setting_from (shown name value) n later
  unfolding setting_from
  this-line e = rw (eq-eqb line n e)

  other-line : (line ≡ n → ⊥) → setting_from f n (setting line name value later) ≡ setting_from f n later
  unfolding setting_from
  other-line e = rw (ne_eqb line n e)

module _ (rules : Rules) (s : List ℕ) where
  -- what was found stays found
  kept : (m n k : ℕ) (f : Result Setting Refusal) (items : Items) → SoundItems rules s m k items → fault_in k items ≡ 0 → IsOk f → IsOk (setting_from f n items)
  unfolding setting_from verdict_from
  kept m n k f done p z h = h
  kept m n k f (fault refusal line column) p z h = absurd (omega (arith, p.0.from, z))
  kept m n k f (entry e later) p z h = kept (e.line + 1) n (k + 1) f later p.2 z h
  kept m n k f (setting line name value later) p z h = kept (line + 1) n k (cond (eqb line n) (shown name value) f) later p.2 z (go (eqb line n))
    where
      go : (t : Bool) → IsOk (cond t (shown name value) f)
      go true = refl
      go false = h

  line_kept : (m n k x : ℕ) (items : Items) → SoundItems rules s m k items → fault_in k items ≡ 0 → next_line_from (Ok x) n items ≡ Ok x
  unfolding next_line_from line_or verdict_from
  line_kept m n k x done p z = refl
  line_kept m n k x (fault refusal line column) p z = absurd (omega (arith, p.0.from, z))
  line_kept m n k x (entry e later) p z = line_kept (e.line + 1) n (k + 1) x later p.2 z
  line_kept m n k x (setting line name value later) p z = line_kept (line + 1) n k x later p.2 z

  -- nothing is found on a line before all of them
  past : (n k j : ℕ) (f : Result Setting Refusal) (items : Items) → SoundItems rules s n k items → fault_in k items ≡ 0 → j < n
      → setting_from f j items ≡ f
  unfolding setting_from verdict_from
  past n k j f done p z h = refl
  past n k j f (fault refusal line column) p z h = absurd (omega (arith, p.0.from, z))
  past n k j f (entry e later) p z h = past (e.line + 1) (k + 1) j f later p.2 z (omega (arith, p.3.0))
  past n k j f (setting line name value later) p z h =
      other-line line j name value f later (λ e. omega (arith, e, p.3.0)) ∙ past (line + 1) k j f later p.2 z (omega (arith, p.3.0))

  -- where a line is found it is from n on and has a setting, and no line between has one
  abbrev Nearest : ℕ → Items → Result ℕ Refusal → Type 0
  Nearest n items (Ok x) =
      (n ≤ x) × (x ≤ length s + 1) × IsOk (setting_from none x items) × ((j : ℕ) → n ≤ j → j < x → setting_from none j items ≡ Err NoSetting)
  Nearest n items (Err refusal) = (refusal ≡ NoSetting) × ((j : ℕ) → n ≤ j → setting_from none j items ≡ Err NoSetting)

  -- and so of items that have the same settings from n on
  over : (n : ℕ) (a b : Items) → ((j : ℕ) → n ≤ j → setting_from none j a ≡ setting_from none j b) → (x : Result ℕ Refusal)
      → Nearest n b x → Nearest n a x
  over n a b same (Ok x) r = (r.0, r.1, rw (same x r.0) r.2, λ j h i. same j h ∙ r.3 j h i)
  over n a b same (Err refusal) r = (r.0, λ j h. same j h ∙ r.1 j h)

  nearest : (a n k : ℕ) (items : Items) → SoundItems rules s a k items → fault_in k items ≡ 0
      → Nearest n items (next_line_from (Err NoSetting) n items)
  unfolding setting_from next_line_from line_or verdict_from none
  nearest a n k done p z = (refl, λ j h. refl)
  nearest a n k (fault refusal line column) p z = absurd (omega (arith, p.0.from, z))
  nearest a n k (entry e later) p z =
      over n (entry e later) later (λ j h. refl) (next_line_from (Err NoSetting) n later) (nearest (e.line + 1) n (k + 1) later p.2 z)
  nearest a n k (setting line name value later) p z = go (leb n line) refl (nearest (line + 1) n k later p.2 z)
    where
      all : Items
      all = setting line name value later

      go : (t : Bool) → leb n line ≡ t → Nearest n later (next_line_from (Err NoSetting) n later)
          → Nearest n all (next_line_from (cond t (Ok line) (Err NoSetting)) n later)
      go true e more =
          rw (line_kept (line + 1) n k line later p.2 z) (
            leb-true n line e,
            p.3.1,
            rw (this-line line line name value none later refl) (kept (line + 1) line k (shown name value) later p.2 z refl),
            λ j h i.
                other-line line j name value none later (λ e. omega (arith, e)) ∙ past (line + 1) k j none later p.2 z (omega arith),
          )
      go false e more =
          let before : line < n = leb-false n line e in
          over n all later (λ j h. other-line line j name value none later (λ e. omega (arith, e, before))) (next_line_from (Err NoSetting) n later) more

-- a refused table is refused here too
fault-told : (n k : ℕ) (f : Result ℕ Refusal) (items : Items) {g : TableFault} → verdict_from k items ≡ Err g → next_line_from f n items ≡ Err g.refusal
unfolding next_line_from verdict_from
fault-told n k f done z = cc
fault-told n k f (fault refusal line column) {g} z =
    let same : record { refusal = refusal; line = line; column = column } ≡ g = cc in ap (λ (x : TableFault). Err x.refusal) same
fault-told n k f (setting line name value later) z = fault-told n k (line_or f n line) later z
fault-told n k f (entry e later) z = fault-told n (k + 1) f later z

module _ (rules : Rules) (s : List ℕ) where
  -- whether a line has a setting
  abbrev pub HasSetting : ℕ → Type 0
  HasSetting j = IsOk (setting_in (items_of rules s) j)

  abbrev pub HasNone : ℕ → Type 0
  HasNone j = setting_in (items_of rules s) j ≡ Err NoSetting

  -- Line k is answered where the table is good: it isn't before line n and has a setting, and no line between has one. A refusal is the table's,
  -- or else 19, and then no line from n on has a setting.
  abbrev pub NextSetting : ℕ → Result ℕ Refusal → Type 0
  NextSetting n (Ok k) = (refusal_in (table_of rules s) ≡ 0) × (n ≤ k) × (k ≤ length s + 1) × HasSetting k × ((j : ℕ) → n ≤ j → j < k → HasNone j)
  NextSetting n (Err refusal) =
      ((refusal_in (table_of rules s) ≡ 0 → ⊥) → number_of refusal ≡ refusal_in (table_of rules s))
      × (refusal_in (table_of rules s) ≡ 0 → (refusal ≡ NoSetting) × ((j : ℕ) → n ≤ j → HasNone j))

  fault-is : fault_in 0 (items_of rules s) ≡ refusal_in (table_of rules s)
  fault-is = ap (λ (v : Result ℕ TableFault). refusal_in v) (table-verdict rules s) ∙ verdict-refusal (table_of rules s)

  pub next-setting : (n : ℕ) → NextSetting n (next_line_in (items_of rules s) n)
  unfolding next_line_in setting_in none verdict_of
  next-setting n = elim (dec_le (refusal_in (table_of rules s)) 0) [ yes h ↦ good (omega arith) | no h ↦ bad (λ z. h (omega (arith, z))) ]
    where
      items : Items
      items = items_of rules s

      good : refusal_in (table_of rules s) ≡ 0 → NextSetting n (next_line_from (Err NoSetting) n items)
      good z = go (next_line_from (Err NoSetting) n items) (nearest rules s 1 n 0 items (items-sound rules s) (fault-is ∙ z))
        where
          go : (x : Result ℕ Refusal) → Nearest rules s n items x → NextSetting n x
          go (Ok k) r = (z, r.0, r.1, r.2, r.3)
          go (Err refusal) r = (λ bad. absurd (bad z), λ good. r)

      bad : (refusal_in (table_of rules s) ≡ 0 → ⊥) → NextSetting n (next_line_from (Err NoSetting) n items)
      bad z =
          let (g, is) = bad-is (table_of rules s) z in
          rw (fault-told n 0 (Err NoSetting) items (table-verdict rules s ∙ ap verdict_of is)) (λ bad. sym (ap (λ (t : Result Table TableFault). refusal_in t) is), λ good. absurd (z good))
