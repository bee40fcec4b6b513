-- A line as an entry (E1): its time, in a system table the user column, and the command.
-- Assumes nothing.
use Rattle.std.specs.Prelude.{ℕ, ◌+◌, cond, List, length, get_or, eqb, ltb, Some, None, Option, Ok, Err, Result}
use Rattle.octets.specs.declared.class.Class.TheVariants.{Blank}
use Rattle.octets.specs.Runs.{skipped}
use Rattle.field.specs.declared.Dialect.{Dialect}
use Rattle.line.specs.declared.Kind.{Kind}
use Rattle.line.specs.declared.Kind.TheVariants.{User, System}
use Rattle.line.specs.declared.Rules.{Rules}
use Rattle.line.specs.declared.time.When.{When}
use Rattle.line.specs.declared.time.Time.{Time}
use Rattle.line.specs.declared.Line.{Line}
use Rattle.line.specs.declared.Line.TheVariants.{Entry}
use Rattle.line.specs.declared.user.Column.{Column}
use Rattle.line.specs.Refusals.{no_command, bad_user}
use Rattle.line.specs.Times.{fields_at}
use Rattle.line.specs.Words.{word_at}
use Rattle.line.specs.Users.{column_at}
use Rattle.field.specs.declared.Fault.{Fault}

-- E2: starts a word
abbrev pub at_sign : ℕ
at_sign = 64

-- E2: the time that starts at a place, a word or five fields
unfoldable pub time_at : Dialect → List ℕ → ℕ → Result Time Fault
time_at d s at = cond (eqb (get_or s at 0) at_sign) (word_at s at) (fields_at d s at)

-- E5, R9: the command from a place to the line's end
unfoldable pub with_command : List ℕ → When → ℕ → Result Line Fault
with_command s when start =
    cond (ltb start (length s)) (Ok (Entry when start)) (Err (record { refusal = no_command; column = length s + 1 }))

-- U3, R20: the user column, and then the command
unfoldable pub after_owner : List ℕ → When → ℕ → Option Column → Result Line Fault
after_owner s when at None = Err (record { refusal = bad_user; column = at + 1 })
after_owner s when at (Some column) = with_command s when (skipped Blank s column.next)

-- U3, R9: a system table's entry after its time
unfoldable pub with_user : List ℕ → When → ℕ → Result Line Fault
with_user s when at = cond (ltb at (length s)) (after_owner s when at (column_at s at)) (with_command s when at)

-- T8: what one kind of table has, and what the other
abbrev pub by_kind : {A : Type 0} → Kind → A → A → A
by_kind User user system = user
by_kind System user system = system

-- E1, T8, R31: an entry after its time
unfoldable pub after_time : Rules → List ℕ → Result Time Fault → Result Line Fault
after_time rules s (Err fault) = Err fault
after_time rules s (Ok t) = by_kind rules.kind (with_command s t.when t.next) (with_user s t.when t.next)

-- E1: the entry that starts at a place
unfoldable pub entry_at : Rules → List ℕ → ℕ → Result Line Fault
entry_at rules s at = after_time rules s (time_at rules.dialect s at)
