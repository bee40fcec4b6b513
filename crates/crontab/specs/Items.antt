-- A table as the sequence of its settings and entries, each with the number of its line and its place, up to its end or to the fault that
-- refuses it whole (T7, R29). Lines count from 1, entries and places from 0.
-- Assumes nothing.
use Rattle.std.specs.Prelude.{ℕ, ◌+◌, Bool, cond, ◌&&◌, List, [], ◌∷◌, length, ltb, ℤ, Ok, Err, Result}
use Rattle.refusal.specs.declared.Refusal.{Refusal}
use Rattle.crontab.specs.declared.entry.Entry.{Entry}
use Rattle.line.specs.declared.Part.{Part}
use Rattle.line.specs.declared.time.When.{When}
use Rattle.line.specs.declared.Rules.{Rules}
use Rattle.field.specs.declared.Fault.{Fault}
use Rattle.line.specs.declared.Line.{Line}
use Rattle.line.specs.declared.Line.TheVariants as line
use Rattle.crontab.specs.Limits.{max_table, max_entries}
use Rattle.crontab.specs.Refusals.{table_too_long, too_many_entries, cut_table}
use Rattle.line.specs.Offsets.{utc, in_force}
use Rattle.crontab.specs.Lines.{lines_of, is_cut, is_last}
use Rattle.line.specs.Lines.{read_line}

-- T7: settings and entries, up to the end or a fault
pub data Items : Type 0 where
  done : Items
  -- refusal, line and column
  fault : Refusal → ℕ → ℕ → Items
  -- the line's number, name and value
  setting : ℕ → Part → Part → Items → Items
  entry : Entry → Items → Items

-- ---- from places in a line to places in the table

-- S6: a part of a line that starts at a place
abbrev pub moved : ℕ → Part → Part
moved at p = record { start = at + p.start; end = at + p.end }

-- T7, O1: the entry of line n, which has so many bytes, under an offset
abbrev pub placed : ℕ → ℕ → ℕ → ℤ → When → ℕ → Entry
placed at n size offset when start = record { when = when; line = n; at = at; start = at + start; end = at + size; offset = offset }

-- ---- line by line

-- T7, T9, R12, R30: line n, which starts at a place and has so many bytes, after k entries and under an offset; then the items of the lines
-- after it, which get the number of entries so far and the offset in force. R12 comes after all else on its line.
unfoldable pub after_line : ℕ → ℕ → ℕ → ℕ → ℤ → Result Line Fault → (ℕ → ℤ → Items) → Items
after_line at n size k offset (Ok line.Ignored) later = later k offset
after_line at n size k offset (Ok (line.Setting name value zone)) later =
    setting n (moved at name) (moved at value) (later k (in_force zone offset))
after_line at n size k offset (Ok (line.Entry when start)) later =
    cond (ltb k max_entries) (entry (placed at n size offset when start) (later (k + 1) offset)) (fault too_many_entries n 1)
after_line at n size k offset (Err f) later = fault f.refusal n f.column

-- R26, R12, R29: the last line of a cut table, of so many bytes and after k entries: its own fault, R12 too, or else R26
unfoldable pub last_fault : ℕ → ℕ → Result Line Fault → Fault
last_fault size k (Ok line.Ignored) = record { refusal = cut_table; column = size + 1 }
last_fault size k (Ok (line.Setting name value _)) = record { refusal = cut_table; column = size + 1 }
last_fault size k (Ok (line.Entry when start)) =
    cond (ltb k max_entries) (record { refusal = cut_table; column = size + 1 }) (record { refusal = too_many_entries; column = 1 })
last_fault size k (Err f) = f

-- R29: a line's fault as the table's
abbrev pub fault_of : ℕ → Fault → Items
fault_of n f = fault f.refusal n f.column

-- T2, T7, R29: the lines of a table that is cut or isn't; the next line starts a newline after this one
unfoldable pub items_from : Rules → Bool → ℕ → ℕ → ℕ → ℤ → List (List ℕ) → Items
items_from rules cut at n k offset [] = done
items_from rules cut at n k offset (l ∷ ls) =
    cond (cut && is_last ls)
    (fault_of n (last_fault (length l) k (read_line rules l)))
    (after_line at n (length l) k offset (read_line rules l) (λ j next. items_from rules cut (at + length l + 1) (n + 1) j next ls))

-- T7, R1: any bytes as a table
unfoldable pub items_of : Rules → List ℕ → Items
items_of rules s = cond (ltb max_table (length s)) (fault table_too_long 0 0) (items_from rules (is_cut s) 0 1 0 utc (lines_of s))
