-- The shell line and the standard input of a command, by its pieces (K4, K5), and their lengths.
-- Assumes nothing.
use Rattle.std.specs.Prelude.{ℕ, false, List, [], ◌∷◌, length, Option, Some, None}
use Rattle.command.specs.declared.Piece.{Piece}
use Rattle.command.specs.declared.Piece.TheVariants.{Byte, Percent}
use Rattle.command.specs.declared.Lengths.{Lengths}
use Rattle.command.specs.Pieces.{pieces, bytes_of}

-- K4: the shell line of pieces
unfoldable pub up_to_percent : List Piece → List ℕ
up_to_percent [] = []
up_to_percent (Byte b ∷ s) = b ∷ up_to_percent s
up_to_percent (Percent ∷ s) = []

-- K4, K5: the input after the first `%` that isn't escaped, perhaps empty; none where there is no such `%`
unfoldable pub rest_of : List Piece → Option (List ℕ)
rest_of [] = None
rest_of (Byte b ∷ s) = rest_of s
rest_of (Percent ∷ s) = Some (bytes_of s)

-- ---- of a command's bytes

-- K4: of a command's bytes
unfoldable pub shell_line : List ℕ → List ℕ
shell_line c = up_to_percent (pieces false c)

-- K4, K5: of a command's bytes
unfoldable pub input_of : List ℕ → Option (List ℕ)
input_of c = rest_of (pieces false c)

-- K6: what is written to the input's buffer
unfoldable pub text_of : Option (List ℕ) → List ℕ
text_of None = []
text_of (Some t) = t

-- ---- lengths

-- K5: its length, or that there is none
unfoldable pub input_length : Option (List ℕ) → Option ℕ
input_length None = None
input_length (Some t) = Some (length t)

-- K4, K5: both lengths
unfoldable pub lengths_of : List ℕ → Lengths
lengths_of c = record { shell = length (shell_line c); input = input_length (input_of c) }
