-- What each of the eight words means, in both kinds of table and in any dialect: a time by its sets and stars, and where the command starts.
-- Assumes nothing.
use Rattle.std.specs.Prelude.{ℕ, refl, Bool, true, false, List, [], ◌∷◌, ◌++◌, Ok, Result}
use Rattle.octets.specs.Texts.{text}
use Rattle.octets.specs.Rows.{Hold}
use Rattle.octets.specs.Sets.{set_of, up_to}
use Rattle.field.specs.declared.Dialect.{Dialect}
use Rattle.line.specs.declared.Kind.TheVariants.{User, System}
use Rattle.line.specs.declared.time.When.{When}
use Rattle.line.specs.declared.time.When.TheVariants.{Reboot, Timed}
use Rattle.line.specs.declared.Line.{Line}
use Rattle.line.specs.declared.Line.TheVariants.{Entry}
use Rattle.line.specs.Lines.{read_line}
use Rattle.line.specs.Computing.{reading}
use Rattle.field.specs.declared.Fault.{Fault}

-- a word with a command in a user's table, and with a user and a command in a system's
abbrev in_tables : Dialect → List ℕ → Result Line Fault × Result Line Fault
in_tables d word =
    (read_line (record { kind = User; dialect = d }) (word ++ text " x"), read_line (record { kind = System; dialect = d }) (word ++ text " u x"))

-- a word of so many bytes
abbrev entries : When → ℕ → ℕ → Result Line Fault × Result Line Fault
entries when user system = (Ok (Entry when user), Ok (Entry when system))

-- minute 0; hours, days, months and weekdays, and whether each of the four begins with `*`
abbrev on_the_hour : List ℕ → List ℕ → List ℕ → List ℕ → Bool → Bool → Bool → Bool → When
on_the_hour hours days months weekdays hour day month weekday =
    Timed
    (record {
      minutes = set_of (0 ∷ []);
      hours = set_of hours;
      days = set_of days;
      months = set_of months;
      weekdays = set_of weekdays;
      stars = record { minutes = false; hours = hour; days = day; months = month; weekdays = weekday };
    })

words : (d : Dialect)
    → Hold (in_tables d)
    ((text "@reboot", entries Reboot 8 10)
    ∷ (text "@yearly", entries (on_the_hour (0 ∷ []) (1 ∷ []) (1 ∷ []) (up_to 0 6) false false false true) 8 10)
    ∷ (text "@annually", entries (on_the_hour (0 ∷ []) (1 ∷ []) (1 ∷ []) (up_to 0 6) false false false true) 10 12)
    ∷ (text "@monthly", entries (on_the_hour (0 ∷ []) (1 ∷ []) (up_to 1 12) (up_to 0 6) false false true true) 9 11)
    ∷ (text "@weekly", entries (on_the_hour (0 ∷ []) (up_to 1 31) (up_to 1 12) (0 ∷ []) false true true false) 8 10)
    ∷ (text "@daily", entries (on_the_hour (0 ∷ []) (up_to 1 31) (up_to 1 12) (up_to 0 6) false true true true) 7 9)
    ∷ (text "@midnight", entries (on_the_hour (0 ∷ []) (up_to 1 31) (up_to 1 12) (up_to 0 6) false true true true) 10 12)
    ∷ (text "@hourly", entries (on_the_hour (up_to 0 23) (up_to 1 31) (up_to 1 12) (up_to 0 6) true true true true) 8 10)
    ∷ [])
unfolding reading
words d = refl
