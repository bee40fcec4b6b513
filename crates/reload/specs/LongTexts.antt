-- Two entries mean the same only if all of their command and of their user column is the same: long texts that differ in their last byte, in their first, or in
-- length, and numbers of a time past 32 bits.
-- Assumes nothing.
use Rattle.std.specs.Prelude.{refl, Bool, true, false, List, [], ◌∷◌, ◌++◌, ℕ, replicate}
use Rattle.octets.specs.Rows.{Hold}
use Rattle.octets.specs.Texts.{text}
use Rattle.field.specs.declared.Dialect.TheVariants.{Wrapping}
use Rattle.line.specs.declared.Kind.TheVariants.{System}
use Rattle.crontab.specs.Computing.{zoning}
use Rattle.runqueue.specs.Jobs.{job_at}
use Rattle.reload.specs.Targets.{same_in}
use Rattle.reload.specs.Computing.{reloading}

-- the first entries of two system tables in the second dialect
abbrev same_first : List ℕ × List ℕ → Bool
same_first (s, t) = same_in (record { kind = System; dialect = Wrapping }) s 0 t 0

-- a user, a group, a class and a command, each with a last byte of its own after as many as it may have
abbrev long : List ℕ → List ℕ → List ℕ → List ℕ → List ℕ
long user group class command =
    text "@reboot " ++ replicate 31 117 ++ user ++ text ":" ++ replicate 31 103 ++ group ++ text "/" ++ replicate 31 99 ++ class ++ text " " ++ replicate 880 120 ++ command ++ text "\n"

last-bytes : Hold same_first
    (((long (text "a") (text "b") (text "c") (text "d"), long (text "a") (text "b") (text "c") (text "d")), true)
    ∷ ((long (text "a") (text "b") (text "c") (text "d"), long (text "e") (text "b") (text "c") (text "d")), false)
    ∷ ((long (text "a") (text "b") (text "c") (text "d"), long (text "a") (text "e") (text "c") (text "d")), false)
    ∷ ((long (text "a") (text "b") (text "c") (text "d"), long (text "a") (text "b") (text "e") (text "d")), false)
    ∷ ((long (text "a") (text "b") (text "c") (text "d"), long (text "a") (text "b") (text "c") (text "e")), false)
    ∷ ((long (text "a") (text "b") (text "c") (text "d"), long (text "a") (text "b") (text "c") []), false)
    ∷ ((long (text "a") (text "b") (text "c") (text "d"), long (text "a") (text "b") (text "c") (text "d ")), false)
    ∷ [])
unfolding reloading zoning job_at
last-bytes = refl

-- the first byte, upper case and lower case; the last minute, day and month of a time
first-bytes : Hold same_first
    (((text "@reboot u ab\n", text "@reboot u bb\n"), false)
    ∷ ((text "@reboot u ab\n", text "@reboot u Ab\n"), false)
    ∷ ((text "@reboot u ab\n", text "@reboot U ab\n"), false)
    ∷ ((text "59 23 31 12 6 u a\n", text "59 23 31 12 6 u a\n"), true)
    ∷ ((text "59 23 31 12 6 u a\n", text "58 23 31 12 6 u a\n"), false)
    ∷ ((text "59 23 31 12 6 u a\n", text "59 22 31 12 6 u a\n"), false)
    ∷ ((text "59 23 31 12 6 u a\n", text "59 23 30 12 6 u a\n"), false)
    ∷ ((text "59 23 31 12 6 u a\n", text "59 23 31 11 6 u a\n"), false)
    ∷ ((text "59 23 31 12 6 u a\n", text "59 23 31 12 5 u a\n"), false)
    ∷ [])
unfolding reloading zoning job_at
first-bytes = refl
