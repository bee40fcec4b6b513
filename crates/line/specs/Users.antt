-- The user column of a system table's entry (U1, U2). Places count from 0 in the line.
-- Assumes nothing.
use Rattle.std.specs.Prelude.{ℕ, ◌+◌, ◌-◌, cond, not, ◌&&◌, List, get_or, eqb, leb, ltb, Some, None, Option}
use Rattle.octets.specs.declared.class.Class.TheVariants.{Solid, Account}
use Rattle.octets.specs.Runs.{skipped}
use Rattle.field.specs.Elements.{dash, slash}
use Rattle.line.specs.declared.Part.{Part}
use Rattle.line.specs.declared.assignment.Text.{Text}
use Rattle.line.specs.declared.user.Owner.{Owner}
use Rattle.line.specs.declared.user.Column.{Column}
use Rattle.line.specs.Limits.{max_account}
use Rattle.line.specs.Assignments.{found}

-- U1: before the group
abbrev pub colon : ℕ
colon = 58

-- ---- one part

-- U2: the name that starts at a place
unfoldable pub account_at : List ℕ → ℕ → Option Text
account_at s at =
    let end = skipped Account s at in
    cond (ltb at end && (leb (end - at) max_account && not (eqb (get_or s at 0) dash)))
    (found (record { start = at; end = end }) end)
    None

-- U4: an empty part at place 0
abbrev pub absent : Part
absent = record { start = 0; end = 0 }

-- U1: the name after `:` or `/`, absent if that isn't there
unfoldable pub account_after : ℕ → List ℕ → ℕ → Option Text
account_after mark s at = cond (eqb (get_or s at 0) mark) (account_at s (at + 1)) (found absent at)

-- ---- the three

-- U1: one part, and then the next
unfoldable pub and_then : Option Text → (Part → ℕ → Option Column) → Option Column
and_then None later = None
and_then (Some text) later = later text.part text.next

-- U1: a column, and where the line goes on after it
abbrev pub column_of : Owner → ℕ → Option Column
column_of owner next = Some (record { owner = owner; next = next })

-- U1, E3: the column ends here
unfoldable pub ended : List ℕ → Owner → ℕ → Option Column
ended s owner next = cond (eqb (skipped Solid s next) next) (column_of owner next) None

-- U1, U2: the column that starts at a place
unfoldable pub column_at : List ℕ → ℕ → Option Column
column_at s at =
    and_then (account_at s at)
    (λ user next. and_then (account_after colon s next)
    (λ group after. and_then (account_after slash s after)
    (λ class end. ended s (record { user = user; group = group; class = class }) end)))
