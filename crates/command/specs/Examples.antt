-- Commands and what becomes of them, computed from the definitions.
-- Assumes nothing.
use Rattle.std.specs.Prelude.{ℕ, ◌≡◌, refl, List, [], ◌∷◌, ◌++◌, replicate, Option, Some, None, Ok, Err}
use Rattle.refusal.specs.declared.Refusal.TheVariants.{TooShort}
use Rattle.octets.specs.Texts.{text}
use Rattle.octets.specs.Rows.{Hold}
use Rattle.command.specs.Parts.{shell_line, input_of, lengths_of}
use Rattle.command.specs.Buffers.{Split, split_step}
use Rattle.command.specs.Computing.{splitting}

-- a command's shell line and its standard input
abbrev divided : List ℕ → List ℕ × Option (List ℕ)
divided c = (shell_line c, input_of c)

texts : Hold divided
    -- `a\%b%c%%d%`: shell line `a%b`; input `c`, newline, newline, `d`, newline
    ((text "a\\%b%c%%d%", (text "a%b", Some (text "c\n\nd\n")))
    -- `\\%x`: two backslashes, and an unescaped `%`
    ∷ (text "\\\\%x", (text "\\\\", Some (text "x")))
    -- `\\\%x`: two backslashes and an escaped `%`
    ∷ (text "\\\\\\%x", (text "\\\\%x", None))
    -- `\a%\%`: a backslash before any other byte stays, and `\%` is a `%` in the input too
    ∷ (text "\\a%\\%", (text "\\a", Some (text "%")))
    -- `a\`, and `%\`: a backslash at the very end stays
    ∷ (text "a\\", (text "a\\", None))
    ∷ (text "%\\", ([], Some (text "\\")))
    -- nothing at all: no input
    ∷ ([], ([], None))
    -- `%` and `a%`: empty input
    ∷ (text "%", ([], Some []))
    ∷ (text "a%", (text "a", Some []))
    ∷ [])
unfolding splitting
texts = refl

-- a command, split into two buffers
abbrev split : List ℕ × List ℕ × List ℕ → Split
split (c, shell, input) = split_step c shell input

buffers : Hold split
    -- the second byte of each buffer stays
    (((text "a%b", text "12", text "34"), record { answer = Ok (record { shell = 1; input = Some 1 }); shell = text "a2"; input = text "b4" })
    -- "no input" needs no room, and empty input none either
    ∷ ((text "a", text "1", []), record { answer = Ok (record { shell = 1; input = None }); shell = text "a"; input = [] })
    ∷ ((text "a%", text "1", []), record { answer = Ok (record { shell = 1; input = Some 0 }); shell = text "a"; input = [] })
    -- an empty shell line needs no room either, nor do both
    ∷ ((text "%b", [], text "34"), record { answer = Ok (record { shell = 0; input = Some 1 }); shell = []; input = text "b4" })
    ∷ ((text "%b", text "12", text "3"), record { answer = Ok (record { shell = 0; input = Some 1 }); shell = text "12"; input = text "b" })
    ∷ ((text "%", [], []), record { answer = Ok (record { shell = 0; input = Some 0 }); shell = []; input = [] })
    ∷ (([], [], []), record { answer = Ok (record { shell = 0; input = None }); shell = []; input = [] })
    -- just enough room, by what is written: `\%` is one byte, and `%` none of the shell line; a byte less
    ∷ ((text "a\\%%b%c", text "12", text "345"), record { answer = Ok (record { shell = 2; input = Some 3 }); shell = text "a%"; input = text "b\nc" })
    ∷ ((text "a\\%%b%c", text "1", text "345"), record { answer = Err TooShort; shell = text "1"; input = text "345" })
    ∷ ((text "a\\%%b%c", text "12", text "34"), record { answer = Err TooShort; shell = text "12"; input = text "34" })
    ∷ ((text "ab", text "1", text "345"), record { answer = Err TooShort; shell = text "1"; input = text "345" })
    -- either buffer too short: refused, and nothing written
    ∷ ((text "a%b", text "1", []), record { answer = Err TooShort; shell = text "1"; input = [] })
    ∷ ((text "a%b", [], text "3"), record { answer = Err TooShort; shell = []; input = text "3" })
    ∷ [])
unfolding splitting
buffers = refl

-- lengths past eight bits: 300 bytes before the `%`, and 301 after it
long-parts : (lengths_of (replicate 300 97 ++ 37 ∷ replicate 301 98) ≡ record { shell = 300; input = Some 301 })
    × (split_step (replicate 300 97 ++ 37 ∷ replicate 301 98) (replicate 301 0) (replicate 302 0)
    ≡ record { answer = Ok (record { shell = 300; input = Some 301 }); shell = replicate 300 97 ++ 0 ∷ []; input = replicate 301 98 ++ 0 ∷ [] })
unfolding splitting
long-parts = (refl, refl)
