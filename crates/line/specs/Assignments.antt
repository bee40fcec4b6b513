-- A line as a setting (S1): name, `=` and value, or its refusal (R11, R25). Places count from 0 in the line, columns from 1.
-- Assumes nothing.
use Rattle.std.specs.Prelude.{ℕ, ◌+◌, cond, List, length, drop, get_or, eqb, ltb, leb, Some, None, Option, ℤ, Ok, Err, Result}
use Rattle.octets.specs.declared.class.Class.TheVariants.{Blank, Name, Not}
use Rattle.line.specs.declared.Part.{Part}
use Rattle.line.specs.declared.assignment.Text.{Text}
use Rattle.line.specs.declared.Line.{Line}
use Rattle.line.specs.declared.Line.TheVariants.{Setting}
use Rattle.line.specs.Refusals.{bad_setting, bad_offset}
use Rattle.octets.specs.Classes.{equals_sign, is_quote}
use Rattle.octets.specs.Runs.{skipped, trimmed, between}
use Rattle.line.specs.Words.{same}
use Rattle.line.specs.Offsets.{zone_name, read_offset}
use Rattle.field.specs.declared.Fault.{Fault}

-- S6: the bytes of a part
abbrev pub part_bytes : List ℕ → Part → List ℕ
part_bytes s p = between s p.start p.end

-- S2, S4: a part that is there, and where the line goes on after it
abbrev pub found : Part → ℕ → Option Text
found part next = Some (record { part = part; next = next })

-- S3, S4: from the quote at a place to the next quote of its kind
unfoldable pub quoted_at : List ℕ → ℕ → Option Text
quoted_at s at =
    let end = skipped (Not (get_or s at 0)) s (at + 1) in
    cond (ltb end (length s)) (found (record { start = at + 1; end = end }) (end + 1)) None

-- S2, S3: a name has at least one byte
unfoldable pub non_empty : Option Text → Option Text
non_empty None = None
non_empty (Some text) = cond (ltb text.part.start text.part.end) (Some text) None

-- S2, S3: the name that starts at a place
unfoldable pub name_at : List ℕ → ℕ → Option Text
name_at s at =
    let end = skipped Name s at in
    non_empty (cond (is_quote (get_or s at 0)) (quoted_at s at) (found (record { start = at; end = end }) end))

-- S4: only blanks follow
unfoldable pub closed : List ℕ → Option Text → Option Text
closed s None = None
closed s (Some text) = cond (leb (length s) (skipped Blank s text.next)) (Some text) None

-- S4, S5: the value that starts at a place
unfoldable pub value_at : List ℕ → ℕ → Option Text
value_at s at =
    cond (is_quote (get_or s at 0))
    (closed s (quoted_at s at))
    (found (record { start = at; end = at + trimmed (drop at s) }) (length s))

-- ---- the setting whose name starts at a place

-- R25: at the place where the value starts, quote included
unfoldable pub after_offset : ℕ → Part → Part → Option ℤ → Result Line Fault
after_offset at name value None = Err (record { refusal = bad_offset; column = at + 1 })
after_offset at name value (Some minutes) = Ok (Setting name value (Some minutes))

-- O2, R25: a value that has to be an offset
unfoldable pub with_offset : List ℕ → ℕ → Part → Part → Result Line Fault
with_offset s at name value = after_offset at name value (read_offset (between s value.start value.end))

-- O1, S7: the setting whose value starts at a place, by its name
unfoldable pub zoned : List ℕ → ℕ → Part → Part → Result Line Fault
zoned s at name value = cond (same (between s name.start name.end) zone_name) (with_offset s at name value) (Ok (Setting name value None))

-- R11, R33: after the value was read
unfoldable pub after_equals : List ℕ → ℕ → ℕ → Part → Option Text → Result Line Fault
after_equals s at start name None = Err (record { refusal = bad_setting; column = at + 1 })
after_equals s at start name (Some value) = zoned s start name value.part

-- S1, R11: after the name was read
unfoldable pub after_name : List ℕ → ℕ → Option Text → Result Line Fault
after_name s at None = Err (record { refusal = bad_setting; column = at + 1 })
after_name s at (Some name) =
    let equals = skipped Blank s name.next in
    let start = skipped Blank s (equals + 1) in
    cond (eqb (get_or s equals 0) equals_sign)
    (after_equals s at start name.part (value_at s start))
    (Err (record { refusal = bad_setting; column = at + 1 }))

-- S1: the setting whose name starts at a place
unfoldable pub setting_at : List ℕ → ℕ → Result Line Fault
setting_at s at = after_name s at (name_at s at)
