-- A table line by line, without a walk (T9): what some lines together decide for the line after them. `proofs/LineByLine` says by these
-- what each line of a table is in it.
-- Assumes nothing.
use Rattle.std.specs.Prelude.{ℕ, ◌+◌, List, [], ◌∷◌, length, ℤ, Ok, Err, Result}
use Rattle.line.specs.declared.Rules.{Rules}
use Rattle.line.specs.declared.Line.{Line}
use Rattle.line.specs.declared.Line.TheVariants as line
use Rattle.line.specs.Offsets.{in_force}
use Rattle.line.specs.Lines.{read_line}
use Rattle.field.specs.declared.Fault.{Fault}

-- ---- one line

-- R29: a line that isn't bad
abbrev pub Accepted : Result Line Fault → Type 0
Accepted (Ok line.Ignored) = Unit {0}
Accepted (Ok (line.Setting name value _)) = Unit {0}
Accepted (Ok (line.Entry when start)) = Unit {0}
Accepted (Err fault) = ⊥

-- S8: a good line that is no setting
abbrev pub NoSetting : Result Line Fault → Type 0
NoSetting (Ok line.Ignored) = Unit {0}
NoSetting (Ok (line.Setting name value _)) = ⊥
NoSetting (Ok (line.Entry when start)) = Unit {0}
NoSetting (Err fault) = ⊥

-- T9: how many entries a line adds
abbrev pub entries_in : Result Line Fault → ℕ
entries_in (Ok line.Ignored) = 0
entries_in (Ok (line.Setting name value _)) = 0
entries_in (Ok (line.Entry when start)) = 1
entries_in (Err fault) = 0

-- O1, T9: the offset after a line, where another was in force before it
abbrev pub offset_after : Result Line Fault → ℤ → ℤ
offset_after (Ok line.Ignored) o = o
offset_after (Ok (line.Setting name value zone)) o = in_force zone o
offset_after (Ok (line.Entry when start)) o = o
offset_after (Err fault) o = o

-- ---- some lines

-- R29: no line is bad
abbrev pub AllAccepted : Rules → List (List ℕ) → Type 0
AllAccepted rules [] = Unit {0}
AllAccepted rules (l ∷ ls) = Accepted (read_line rules l) × AllAccepted rules ls

-- T2: the bytes of some lines, with a newline after each
unfoldable pub bytes_of : List (List ℕ) → ℕ
bytes_of [] = 0
bytes_of (l ∷ ls) = length l + 1 + bytes_of ls

-- T9: how many entries some lines have
unfoldable pub entries_among : Rules → List (List ℕ) → ℕ
entries_among rules [] = 0
entries_among rules (l ∷ ls) = entries_in (read_line rules l) + entries_among rules ls

-- O1, T9: the offset after some lines
unfoldable pub offset_after_all : Rules → ℤ → List (List ℕ) → ℤ
offset_after_all rules o [] = o
offset_after_all rules o (l ∷ ls) = offset_after_all rules (offset_after (read_line rules l) o) ls
