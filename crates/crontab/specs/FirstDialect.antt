-- A table of the rising dialect, with nothing that wraps: `proofs.Theorems.first-dialect-same` says that the wrapping dialect changes
-- nothing in it (T8).
-- Assumes nothing.
use Rattle.std.specs.Prelude.{ℕ, ◌+◌, Bool, cond, ◌&&◌, List, [], ◌∷◌, length, ℤ, ltb, Result}
use Rattle.line.specs.declared.Kind.{Kind}
use Rattle.crontab.specs.declared.table.Table.{Table}
use Rattle.crontab.specs.declared.table.TableFault.{TableFault}
use Rattle.crontab.specs.Limits.{max_table}
use Rattle.crontab.specs.Refusals.{table_too_long}
use Rattle.line.specs.Offsets.{utc}
use Rattle.line.specs.FirstDialect.{first_line}
use Rattle.crontab.specs.Lines.{lines_of, is_cut, is_last}
use Rattle.crontab.specs.Items.{Items, done, fault, fault_of, after_line, last_fault}
use Rattle.crontab.specs.Tables.{empty_table, with_items}

-- T7, R29: line by line
unfoldable pub first_items_from : Kind → Bool → ℕ → ℕ → ℕ → ℤ → List (List ℕ) → Items
first_items_from kind cut at n k offset [] = done
first_items_from kind cut at n k offset (l ∷ ls) =
    cond (cut && is_last ls)
    (fault_of n (last_fault (length l) k (first_line kind l)))
    (after_line at n (length l) k offset (first_line kind l) (λ j next. first_items_from kind cut (at + length l + 1) (n + 1) j next ls))

-- T7, R1: a table's settings and entries
unfoldable pub first_items : Kind → List ℕ → Items
first_items kind s = cond (ltb max_table (length s)) (fault table_too_long 0 0) (first_items_from kind (is_cut s) 0 1 0 utc (lines_of s))

-- T7: a table by its items
unfoldable pub first_table : Kind → List ℕ → Result Table TableFault
first_table kind s = with_items empty_table (first_items kind s)
