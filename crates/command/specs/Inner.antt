-- What the functions inside promise each other: a step over a piece, and where the shell line ends.
-- Assumes nothing.
use Rattle.std.specs.Prelude.{◌≡◌, ℕ, ◌<◌, Bool, true, false, List, [], ◌∷◌, length, drop, Some, None}
use Rattle.command.specs.declared.Piece.{Piece}
use Rattle.command.specs.declared.Piece.TheVariants.{Byte, Percent}
use Rattle.command.specs.declared.Shell.{Shell}
use Rattle.command.specs.declared.Shell.TheVariants.{Whole, Cut}
use Rattle.command.specs.declared.Step.{Step}
use Rattle.command.specs.declared.Pieces.{Pieces}
use Rattle.command.specs.Pieces.{pieces, bytes_of}
use Rattle.command.specs.Parts.{shell_line, input_of}

-- the pieces of bytes of which the first may be the second of a pair, whose backslash was passed
unfoldable pub ahead : Bool → List ℕ → List Piece
ahead false s = pieces false s
ahead true [] = []
ahead true (b ∷ s) = Byte b ∷ pieces false s

-- the pieces that an iterator has left
abbrev pub left : Pieces → List Piece
left p = ahead p.second (drop p.at p.command.now)

-- a step over a byte of text
abbrev pub text_step : ℕ → ℕ → Bool → Step
text_step b next second = record { piece = Byte b; next = next; second = second }

-- a step from place i: its piece is the first of what lies ahead, and the others lie ahead of it; no pair begins with a `%`
pub record StepIs (c : List ℕ) (i : ℕ) (second : Bool) (r : Step) : Type 0 where
  pub onward : i < r.next
  pub unpaired : r.piece ≡ Percent → r.second ≡ false
  pub gives : ahead second (drop i c) ≡ r.piece ∷ ahead r.second (drop r.next c)

-- the shell line's length, and what the input is
abbrev pub ShellIs : List ℕ → Shell → Type 0
ShellIs c (Whole n) = (length (shell_line c) ≡ n) × (input_of c ≡ None)
ShellIs c (Cut n input) = (length (shell_line c) ≡ n) × (input_of c ≡ Some (bytes_of (left input)))
