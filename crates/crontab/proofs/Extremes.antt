-- The theorems of tables, each used where it says most: a system table in the second dialect, its last entry, a line past the last. A theorem that
-- said less would not give these.
-- Assumes nothing.
use mathlib.Core.Path.{◌≡◌, refl, ap}
use mathlib.Core.Logic.{◌⊎◌, inl, inr}
use mathlib.Core.List.{List, [], ◌∷◌}
use Prim.Native.Nat.{ℕ, ◌-◌, ◌<◌}
use native.Mathlib.Decide.{dec_le}
use native.Mathlib.Omega.{arith}
use lib.ListN.{length, get_or}
use Rattle.std.specs.Prelude.{Ok}
use Rattle.refusal.specs.Numbers.{number_of}
use Rattle.field.specs.declared.Dialect.TheVariants.{Rising, Wrapping}
use Rattle.field.specs.Refusals.{reversed}
use Rattle.line.specs.declared.Kind.{Kind}
use Rattle.line.specs.declared.Kind.TheVariants.{System}
use Rattle.line.specs.declared.Rules.{Rules}
use Rattle.crontab.specs.Items.{items_of}
use Rattle.crontab.specs.Tables.{blank_entry, table_of, entry_in, count_in, refusal_in, table_entries}
use Rattle.crontab.specs.FirstDialect.{first_table}
use Rattle.crontab.specs.Settings.{next_line_in}
use Rattle.crontab.proofs.Sound.{Sound}
use Rattle.crontab.proofs.Theorems.{table-sound, table-short, cut-refused, next-setting, HasSetting, HasNone, first-dialect-same, never-reversed}

abbrev far_rules : Rules
far_rules = record { kind = System; dialect = Wrapping }

-- table-sound: a table with an entry 511 has 512 of them and isn't refused, and this one is sound
pub sound-used : (s : List ℕ) → let t = table_of far_rules s in
    511 < count_in t → (count_in t ≡ 512) × (refusal_in t ≡ 0) × Sound (length s) (get_or (table_entries t) 511 blank_entry)
sound-used s h =
    let t = table-sound far_rules s in
    (omega (arith, t.few), elim (dec_le (refusal_in (table_of far_rules s)) 0) [ yes z ↦ omega arith | no z ↦ absurd (omega (arith, t.empty (λ e. z (omega (arith, e))))) ], t.each 511 h)

-- cut-refused: a table that isn't empty is refused, or its last byte is a newline
pub cut-used : (b : ℕ) (s : List ℕ) → refusal_in (table_of far_rules (b ∷ s)) ≡ 0 → get_or (b ∷ s) (length s) 0 ≡ 10
cut-used b s e = go (cut-refused far_rules (b ∷ s) e)
  where
    go : (b ∷ s ≡ []) ⊎ (get_or (b ∷ s) (length (b ∷ s) - 1) 0 ≡ 10) → get_or (b ∷ s) (length s) 0 ≡ 10
    go (inl z) = absurd (omega (arith, ap length z))
    go (inr z) = let i : length s ≡ length (b ∷ s) - 1 = omega arith in rw i z

-- next-setting: from line 0 on it is the first of all, and there is no line 49,154
pub next-first : (s : List ℕ) {k : ℕ} → next_line_in (items_of far_rules s) 0 ≡ Ok k → HasSetting far_rules s k × ((j : ℕ) → j < k → HasNone far_rules s j)
next-first s e = let n = rw e at (next-setting far_rules s 0) in (n.3, λ j h. n.4 j (omega arith) h)

pub next_past : (s : List ℕ) {k : ℕ} → next_line_in (items_of far_rules s) 49154 ≡ Ok k → ⊥
next_past s e = let n = rw e at (next-setting far_rules s 49154) in omega (arith, n.1, n.2, table-short far_rules s n.0)

-- first-dialect-same: entry 511 of either kind of table
pub first-used : (k : Kind) (s : List ℕ) → entry_in (table_of (record { kind = k; dialect = Rising }) s) 511 ≡ entry_in (first_table k s) 511
first-used k s = rw (first-dialect-same k s)

-- never-reversed: in either kind of table
pub never-used : (k : Kind) (s : List ℕ) → refusal_in (table_of (record { kind = k; dialect = Wrapping }) s) ≡ number_of reversed → ⊥
never-used k s = never-reversed (record { kind = k; dialect = Wrapping }) refl s
