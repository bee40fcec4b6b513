-- Refusal 7, a range from high to low, is never given in the second dialect: not for a table, whatever its bytes.
-- Assumes nothing.
use Rattle.refusal.specs.Numbers.{number_of}
use mathlib.Core.Path.{◌≡◌, sym, ap, ◌∙◌}
use mathlib.Core.Bool.{Bool, true, false, true≢false}
use mathlib.Core.List.{List}
use Prim.Native.Nat.{ℕ, ◌+◌}
use native.Mathlib.Omega.{arith}
use Rattle.field.specs.declared.Dialect.{Dialect}
use Rattle.field.specs.declared.Dialect.TheVariants.{Rising, Wrapping}
use Rattle.refusal.proofs.Numbers.{number-small, numbers-differ}
use Rattle.field.specs.Refusals.{reversed}
use Rattle.line.specs.declared.Rules.{Rules}
use Rattle.crontab.specs.declared.table.Table.{Table}
use Rattle.crontab.specs.Items.{Items, done, fault, setting, entry, items_of}
use Rattle.crontab.specs.Tables.{refused_table, empty_table, with_entry, with_items, table_of, verdict_of, refusal_in}
use Rattle.crontab.proofs.Tables.{verdict-refusal}
use Rattle.crontab.proofs.Sound.{SoundItems, items-sound}

with-rising : (rules : Rules) (s : List ℕ) (m k : ℕ) (t : Table) (items : Items) → SoundItems rules s m k items
    → refusal_in (with_items t items) ≡ number_of reversed → rules.dialect ≡ Rising
unfolding with_items with_entry refused_table
with-rising rules s m k t done p e = absurd (omega (arith, e, number-small reversed))
with-rising rules s m k t (fault refusal line column) p e = p.0.rising (numbers-differ refusal reversed e)
with-rising rules s m k t (setting line name value later) p e = with-rising rules s (line + 1) k t later p.2 e
with-rising rules s m k t (entry x later) p e = with-rising rules s (x.line + 1) (k + 1) (with_entry t x) later p.2 e

abbrev is_wrapping : Dialect → Bool
is_wrapping Rising = false
is_wrapping Wrapping = true

module _ (rules : Rules) (second : rules.dialect ≡ Wrapping) where
  pub never-reversed : (s : List ℕ) → refusal_in (table_of rules s) ≡ number_of reversed → ⊥
  unfolding table_of empty_table refused_table
  never-reversed s e =
      let r = with-rising rules s 1 0 empty_table (items_of rules s) (items-sound rules s) e in
      true≢false (ap is_wrapping (sym second ∙ r))

  -- nor in the verdict alone
  pub verdict-never-reversed : (s : List ℕ) → refusal_in (verdict_of (table_of rules s)) ≡ number_of reversed → ⊥
  verdict-never-reversed s e = never-reversed s (sym (verdict-refusal (table_of rules s)) ∙ e)
