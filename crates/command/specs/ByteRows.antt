-- Every decision that a command's next byte makes, over all 256 bytes.
-- In the comments `?` is the byte that is tried.
-- Assumes nothing.
use Rattle.std.specs.Prelude.{ℕ, refl, List, [], ◌∷◌, ◌++◌, Option, Some, None}
use Rattle.octets.specs.Texts.{text}
use Rattle.octets.specs.AllBytes.{Lead, one, trying}
use Rattle.command.specs.Parts.{shell_line, input_of}
use Rattle.command.specs.Computing.{splitting}

abbrev divided : List ℕ → List ℕ × Option (List ℕ)
divided c = (shell_line c, input_of c)

-- ---- in the shell line

-- `a?c`: only `%` ends it, and only `%` and the backslash are anything but themselves; newline and byte 0 too are bytes of it
in-shell : Lead (λ b. divided (97 ∷ b ∷ text "c")) (one 37 (text "a", Some (text "c")) ∷ []) (λ b. (97 ∷ b ∷ text "c", None))
unfolding trying splitting
in-shell = refl

-- `?` alone
shell-alone : Lead (λ b. divided (b ∷ [])) (one 37 ([], Some []) ∷ []) (λ b. (b ∷ [], None))
unfolding trying splitting
shell-alone = refl

-- `\?` and then a `%`, which no backslash before the pair escapes: before `%` the backslash goes, before any other byte both stay
shell-escaped : Lead (λ b. divided (92 ∷ b ∷ text "%x")) (one 37 (text "%", Some (text "x")) ∷ []) (λ b. (92 ∷ b ∷ [], Some (text "x")))
unfolding trying splitting
shell-escaped = refl

-- `?%x`: of all bytes the backslash alone escapes it
before-percent : Lead (λ b. divided (b ∷ text "%x"))
    (one 92 (text "%x", None) ∷ one 37 ([], Some (text "\nx")) ∷ [])
    (λ b. (b ∷ [], Some (text "x")))
unfolding trying splitting
before-percent = refl

-- ---- in the standard input

-- `%a?c`: a `%` is a newline, and every other byte itself
in-input : Lead (λ b. divided (text "%a" ++ b ∷ text "c")) (one 37 ([], Some (text "a\nc")) ∷ []) (λ b. ([], Some (97 ∷ b ∷ text "c")))
unfolding trying splitting
in-input = refl

-- `%?`: no newline is added
input-alone : Lead (λ b. divided (37 ∷ b ∷ [])) (one 37 ([], Some (text "\n")) ∷ []) (λ b. ([], Some (b ∷ [])))
unfolding trying splitting
input-alone = refl

-- `%\?%x`: as in the shell line
input-escaped : Lead (λ b. divided (text "%\\" ++ b ∷ text "%x"))
    (one 37 ([], Some (text "%\nx")) ∷ [])
    (λ b. ([], Some (92 ∷ b ∷ text "\nx")))
unfolding trying splitting
input-escaped = refl

-- `%?%x`
input-before-percent : Lead (λ b. divided (37 ∷ b ∷ text "%x"))
    (one 92 ([], Some (text "%x")) ∷ one 37 ([], Some (text "\n\nx")) ∷ [])
    (λ b. ([], Some (b ∷ text "\nx")))
unfolding trying splitting
input-before-percent = refl
