-- What one line is, by its bytes without the newline: ignored, a setting, an entry, or refused (T6, R30). It knows no table (T9). Places
-- count from 0, columns from 1.
-- Assumes nothing.
use Rattle.std.specs.Prelude.{ℕ, ◌+◌, Bool, cond, ◌||◌, List, length, get_or, eqb, leb, ltb, Ok, Err, Result}
use Rattle.octets.specs.declared.class.Class.TheVariants.{Blank, Not, InLine}
use Rattle.octets.specs.Runs.{skipped}
use Rattle.field.specs.Numbers.{is_digit}
use Rattle.field.specs.Fields.{asterisk}
use Rattle.line.specs.declared.Rules.{Rules}
use Rattle.field.specs.declared.Fault.{Fault}
use Rattle.line.specs.declared.Line.{Line}
use Rattle.line.specs.declared.Line.TheVariants.{Ignored}
use Rattle.line.specs.Limits.{max_line}
use Rattle.line.specs.Refusals.{line_too_long, nul_byte, control_byte}
use Rattle.line.specs.Assignments.{setting_at}
use Rattle.line.specs.Entries.{at_sign, entry_at}

-- T6: starts a comment
abbrev pub hash : ℕ
hash = 35

-- T6: a digit, `*` or `@`
unfoldable pub starts_entry : ℕ → Bool
starts_entry b = eqb b asterisk || (is_digit b || eqb b at_sign)

-- T6: by its first byte that isn't blank
unfoldable pub content_from : Rules → List ℕ → ℕ → ℕ → Result Line Fault
content_from rules s at first =
    cond (eqb first hash) (Ok Ignored) (cond (starts_entry first) (entry_at rules s at) (setting_at s at))

-- T6: blanks at the start are skipped
unfoldable pub content_of : Rules → List ℕ → Result Line Fault
content_of rules s = let at = skipped Blank s 0 in cond (leb (length s) at) (Ok Ignored) (content_from rules s at (get_or s at 0))

-- T5, R3, R27, R30: a line with a forbidden byte
unfoldable pub byte_fault : List ℕ → Fault
byte_fault s =
    let nul = skipped (Not 0) s 0 in
    cond (ltb nul (length s))
    (record { refusal = nul_byte; column = nul + 1 })
    (record { refusal = control_byte; column = skipped InLine s 0 + 1 })

-- T6, T9, R2, R30: what a line is
unfoldable pub read_line : Rules → List ℕ → Result Line Fault
read_line rules s =
    cond (ltb max_line (length s))
    (Err (record { refusal = line_too_long; column = max_line + 1 }))
    (cond (ltb (skipped InLine s 0) (length s)) (Err (byte_fault s)) (content_of rules s))
