-- A command read from left to right, as a list of pieces: bytes, and each `%` that isn't escaped (K1, K2, K3). Which piece goes where is in
-- Parts.
-- Assumes nothing.
use Rattle.std.specs.Prelude.{ℕ, Bool, true, false, cond, List, [], ◌∷◌, ◌++◌, eqb}
use Rattle.octets.specs.Classes.{newline}
use Rattle.command.specs.declared.Piece.{Piece}
use Rattle.command.specs.declared.Piece.TheVariants.{Byte, Percent}

-- K1: `%`
abbrev pub percent : ℕ
percent = 37

-- K1: escapes a `%`
abbrev pub backslash : ℕ
backslash = 92

-- K1: a byte with no backslash before it; a backslash gives nothing until the next byte is known
unfoldable pub alone : ℕ → List Piece
alone b = cond (eqb b backslash) [] (cond (eqb b percent) (Percent ∷ []) (Byte b ∷ []))

-- K1, K2: a byte with a backslash before it
unfoldable pub paired : ℕ → List Piece
paired b = cond (eqb b percent) (Byte percent ∷ []) (Byte backslash ∷ Byte b ∷ [])

-- K1, K2, K3: the pieces of bytes; `true` after a backslash
unfoldable pub pieces : Bool → List ℕ → List Piece
pieces false [] = []
pieces false (b ∷ s) = alone b ++ pieces (eqb b backslash) s
-- K3: a backslash at the very end stays
pieces true [] = Byte backslash ∷ []
pieces true (b ∷ s) = paired b ++ pieces false s

-- K4: the byte that a piece is in the input: an unescaped `%` is a newline
unfoldable pub byte_of : Piece → ℕ
byte_of (Byte b) = b
byte_of Percent = newline

-- K4: the bytes of pieces in the input
unfoldable pub bytes_of : List Piece → List ℕ
bytes_of [] = []
bytes_of (p ∷ s) = byte_of p ∷ bytes_of s
