-- Every byte where it may end a line: newline alone does. And the numbers of a table's refusals.
-- Assumes nothing.
use Rattle.std.specs.Prelude.{ℕ, ◌≡◌, refl, List, [], ◌∷◌, ◌++◌, map}
use Rattle.refusal.specs.Numbers.{number_of}
use Rattle.octets.specs.Texts.{text}
use Rattle.octets.specs.AllBytes.{Lead, one, range, trying}
use Rattle.field.specs.declared.Dialect.TheVariants.{Rising}
use Rattle.line.specs.declared.Rules.{Rules}
use Rattle.line.specs.declared.Kind.TheVariants.{User}
use Rattle.crontab.specs.Refusals.{table_too_long, too_many_entries, no_such_entry, at_boot_only, no_setting, cut_table}
use Rattle.crontab.specs.Tables.{table_of, column_in, count_in, line_in, refusal_in}
use Rattle.crontab.specs.Computing.{reading}

abbrev of_user : Rules
of_user = record { kind = User; dialect = Rising }

-- the refusal, its line and column, and the count of entries
abbrev fault : List ℕ → List ℕ
fault s = let t = table_of of_user s in refusal_in t ∷ line_in t ∷ column_in t ∷ count_in t ∷ []

between-lines : Lead (λ b. fault (text "@reboot x" ++ b ∷ text "@reboot y\n"))
    (one 0 (3 ∷ 1 ∷ 10 ∷ 0 ∷ [])
    ∷ range 1 8 (27 ∷ 1 ∷ 10 ∷ 0 ∷ [])
    ∷ one 10 (0 ∷ 0 ∷ 0 ∷ 2 ∷ [])
    ∷ range 11 31 (27 ∷ 1 ∷ 10 ∷ 0 ∷ [])
    ∷ one 127 (27 ∷ 1 ∷ 10 ∷ 0 ∷ [])
    ∷ [])
    (λ b. 0 ∷ 0 ∷ 0 ∷ 1 ∷ [])
unfolding trying reading
between-lines = refl

-- a table's last byte
last_byte : Lead (λ b. fault (text "#" ++ b ∷ []))
    (one 0 (3 ∷ 1 ∷ 2 ∷ 0 ∷ [])
    ∷ range 1 8 (27 ∷ 1 ∷ 2 ∷ 0 ∷ [])
    ∷ one 10 (0 ∷ 0 ∷ 0 ∷ 0 ∷ [])
    ∷ range 11 31 (27 ∷ 1 ∷ 2 ∷ 0 ∷ [])
    ∷ one 127 (27 ∷ 1 ∷ 2 ∷ 0 ∷ [])
    ∷ [])
    (λ b. 26 ∷ 1 ∷ 3 ∷ 0 ∷ [])
unfolding trying reading
last_byte = refl

-- ---- the refusals of a table

refusals : map number_of (table_too_long ∷ too_many_entries ∷ no_such_entry ∷ at_boot_only ∷ no_setting ∷ cut_table ∷ []) ≡ 1 ∷ 12 ∷ 13 ∷ 15 ∷ 19 ∷ 26 ∷ []
unfolding number_of
refusals = refl
