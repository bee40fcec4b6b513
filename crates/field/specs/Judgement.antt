-- An element against its field's limits (R32): R6, then R7, then R8, all at the element's first byte. The first refusal from the left
-- counts.
-- Assumes nothing.
use Rattle.std.specs.Prelude.{ℕ, Bool, cond, not, ◌&&◌, ◌||◌, ltb, eqb, Option, Some, None, Ok, Err, Result}
use Rattle.refusal.specs.declared.Refusal.{Refusal}
use Rattle.field.specs.declared.Limits.{Limits}
use Rattle.field.specs.declared.Allowed.{Allowed}
use Rattle.field.specs.declared.Fault.{Fault}
use Rattle.field.specs.declared.element.Element.{Element}
use Rattle.field.specs.Refusals.{malformed, out_of_limits, reversed, step_zero}
use Rattle.field.specs.Values.{range_of, including}

-- F8, F9: what a field that is accepted means
abbrev pub means : ℕ → Bool → Result Allowed Fault
means set star = Ok (record { set = set; star = star })

-- R5, R6, R7, R8: a refusal at a column
abbrev pub refuses : Refusal → ℕ → Result Allowed Fault
refuses refusal column = Err (record { refusal = refusal; column = column })

-- R6: outside the field's limits
unfoldable pub outside : Limits → ℕ → Bool
outside l n = ltb n l.first || ltb l.last n

-- R6, R7, R8, W6: the result so far, and with one element more, whose first byte is at the column
unfoldable pub judged : Limits → ℕ → Result Allowed Fault → Option Element → Result Allowed Fault
judged l column (Err fault) e = Err fault
judged l column (Ok v) None = refuses malformed column
judged l column (Ok v) (Some e) =
    cond (outside l e.low || outside l e.high)
    (refuses out_of_limits column)
    (cond (ltb e.high e.low && not l.wraps)
    (refuses reversed column)
    (cond (eqb e.step 0)
    (refuses step_zero column)
    (means (including l v.set (range_of l e.low e.high e.step)) v.star)))
