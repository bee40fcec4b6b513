-- The user column of a system table's line, found again by its runs of bytes (U4): it comes after one run if the time is a word, and after
-- five otherwise.
-- Assumes nothing.
use Rattle.std.specs.Prelude.{ℕ, zero, suc, cond, List, get_or, eqb, Some, None, Option}
use Rattle.octets.specs.declared.class.Class.TheVariants.{Blank, Solid}
use Rattle.octets.specs.Runs.{skipped}
use Rattle.line.specs.declared.user.Owner.{Owner}
use Rattle.line.specs.declared.user.Column.{Column}
use Rattle.line.specs.Users.{absent, column_at}
use Rattle.line.specs.Entries.{at_sign}

-- U4: all three are absent
abbrev pub nobody : Owner
nobody = record { user = absent; group = absent; class = absent }

-- U4: the column's three parts
unfoldable pub named_owner : Option Column → Owner
named_owner (Some column) = column.owner
named_owner None = nobody

-- E3: where a line goes on after so many runs of bytes that aren't blank, each with its blanks
unfoldable pub behind : ℕ → List ℕ → ℕ → ℕ
behind zero l at = at
behind (suc n) l at = behind n l (skipped Blank l (skipped Solid l at))

-- E2: how many runs the time has that starts at a place
unfoldable pub time_runs : List ℕ → ℕ → ℕ
time_runs l at = cond (eqb (get_or l at 0) at_sign) 1 5

-- U4: user, group and class of a line
unfoldable pub line_owner : List ℕ → Owner
line_owner l = let at = skipped Blank l 0 in named_owner (column_at l (behind (time_runs l at) l at))
