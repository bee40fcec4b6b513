-- In the first dialect a table is read as it was before there was a second.
-- Assumes nothing.
use mathlib.Core.Path.{◌≡◌, refl, ap}
use mathlib.Core.Bool.{Bool, cond, ◌&&◌}
use mathlib.Core.List.{List, [], ◌∷◌}
use Prim.Native.Nat.{ℕ, ◌+◌}
use lib.ListN.{length}
use lib.IntN.{ℤ}
use Rattle.field.specs.declared.Dialect.TheVariants.{Rising}
use Rattle.line.specs.declared.Kind.{Kind}
use Rattle.line.specs.declared.Rules.{Rules}
use Rattle.line.specs.Offsets.{utc}
use Rattle.crontab.specs.Lines.{lines_of, is_cut, is_last}
use Rattle.crontab.specs.Items.{fault_of, last_fault, items_from, items_of}
use Rattle.crontab.specs.Tables.{table_of}
use Rattle.crontab.specs.FirstDialect.{first_items_from, first_items, first_table}
use Rattle.line.specs.FirstDialect.{first_line}
use Rattle.line.proofs.Theorems.{first-line-same}
use Rattle.crontab.proofs.Alike.{after_same}

module _ (kind : Kind) where
  abbrev rising : Rules
  rising = record { kind = kind; dialect = Rising }

  from_first : (cut : Bool) (at n k : ℕ) (o : ℤ) (ls : List (List ℕ)) → items_from rising cut at n k o ls ≡ first_items_from kind cut at n k o ls
  unfolding items_from first_items_from
  from_first cut at n k o [] = refl
  from_first cut at n k o (l ∷ ls) =
      rw (first-line-same kind l)
      (ap (cond (cut && is_last ls) (fault_of n (last_fault (length l) k (first_line kind l))))
      (after_same at n (length l) k o (first_line kind l) _ _ (λ j p. from_first cut (at + length l + 1) (n + 1) j p ls)))

  pub first-dialect-same : (s : List ℕ) → table_of (record { kind = kind; dialect = Rising }) s ≡ first_table kind s
  unfolding table_of items_of first_table first_items
  first-dialect-same s = rw (from_first (is_cut s) 0 1 0 utc (lines_of s))
