-- T3: a table that is cut is refused, so one that isn't refused is empty or ends in a newline.
-- Assumes nothing.
use mathlib.Core.Path.{◌≡◌, refl, sym, ap, ◌∙◌}
use mathlib.Core.Bool.{Bool, true, false, not, true≢false}
use mathlib.Core.List.{List, [], ◌∷◌}
use mathlib.Core.Logic.{◌⊎◌, inl, inr}
use Prim.Native.Nat.{ℕ, suc, ◌+◌, ◌-◌}
use native.Mathlib.Omega.{arith}
use lib.ListN.{length, get_or}
use lib.Dec.{eqb}
use borrow.Author.Tests.{eqb-true}
use Rattle.line.specs.declared.Rules.{Rules}
use Rattle.crontab.specs.declared.table.Table.{Table}
use Rattle.crontab.specs.Lines.{is_cut}
use Rattle.crontab.specs.Items.{Items, done, fault, setting, entry, items_of}
use Rattle.crontab.specs.Tables.{refused_table, empty_table, with_entry, with_items, table_of, refusal_in}
use Rattle.crontab.proofs.Sound.{SoundItems, items-sound}

-- items of a cut table end in a fault
cut-fault : (rules : Rules) (s : List ℕ) → is_cut s ≡ true → (m k : ℕ) (t : Table) (x : Items) → SoundItems rules s m k x → refusal_in (with_items t x) ≡ 0 → ⊥
unfolding with_items refused_table
cut-fault rules s c m k t done h e = true≢false (sym c ∙ h)
cut-fault rules s c m k t (fault refusal line column) h e = omega (arith, h.0.from, e)
cut-fault rules s c m k t (setting line name value later) h e = cut-fault rules s c (line + 1) k t later h.2 e
cut-fault rules s c m k t (entry x later) h e = cut-fault rules s c (x.line + 1) (k + 1) (with_entry t x) later h.2 e

ends : (s : List ℕ) → is_cut s ≡ false → (s ≡ []) ⊎ (get_or s (length s - 1) 0 ≡ 10)
unfolding is_cut
ends [] e = inl refl
ends (b ∷ []) e = inr (eqb-true b 10 (go (eqb b 10) e))
  where
    go : (t : Bool) → not t ≡ false → t ≡ true
    go true e = refl
    go false e = absurd (true≢false e)
ends (b ∷ x ∷ s) e = go (ends (x ∷ s) e)
  where
    go : (x ∷ s ≡ []) ⊎ (get_or (x ∷ s) (length (x ∷ s) - 1) 0 ≡ 10) → (b ∷ x ∷ s ≡ []) ⊎ (get_or (b ∷ x ∷ s) (length (b ∷ x ∷ s) - 1) 0 ≡ 10)
    go (inl z) = absurd (omega (arith, ap length z))
    go (inr z) = let i : length (b ∷ x ∷ s) - 1 ≡ suc (length (x ∷ s) - 1) = omega arith in inr (rw i z)

-- a table that isn't refused is empty, or its last byte is a newline
pub cut-refused : (rules : Rules) (s : List ℕ) → refusal_in (table_of rules s) ≡ 0 → (s ≡ []) ⊎ (get_or s (length s - 1) 0 ≡ 10)
unfolding table_of
cut-refused rules s e = go (is_cut s) refl
  where
    go : (t : Bool) → is_cut s ≡ t → (s ≡ []) ⊎ (get_or s (length s - 1) 0 ≡ 10)
    go true c = absurd (cut-fault rules s c 1 0 empty_table (items_of rules s) (items-sound rules s) e)
    go false c = ends s c
