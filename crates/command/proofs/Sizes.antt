-- Laws of lengths: a command's shell line and standard input together are no longer than the command.
-- Assumes nothing.
use mathlib.Core.Path.{◌≡◌, refl, ap}
use mathlib.Core.Bool.{Bool, true, false}
use mathlib.Core.List.{List, [], ◌∷◌}
use Prim.Native.Nat.{ℕ, suc, ◌+◌, ◌≤◌}
use native.Mathlib.Omega.{arith}
use lib.Dec.{eqb}
use lib.ListN.{length, take, length-append}
use Rattle.command.specs.declared.Piece.{Piece}
use Rattle.command.specs.declared.Piece.TheVariants.{Byte, Percent}
use Rattle.command.specs.Pieces.{percent, backslash, alone, paired, pieces, byte_of, bytes_of}
use Rattle.command.specs.Parts.{up_to_percent, rest_of, shell_line, input_of, text_of}

-- ---- pieces

-- what a backslash before the bytes counts
abbrev before : Bool → ℕ
before true = 1
before false = 0

alone-length : (b : ℕ) → length (alone b) + before (eqb b backslash) ≤ 1
unfolding alone
alone-length b = go (eqb b backslash) (eqb b percent) refl refl
  where
    go : (q p : Bool) → eqb b backslash ≡ q → eqb b percent ≡ p → length (alone b) + before (eqb b backslash) ≤ 1
    go true p e f = rw e (omega arith)
    go false true e f = rw (e, f) (omega arith)
    go false false e f = rw (e, f) (omega arith)

paired-length : (b : ℕ) → length (paired b) ≤ 2
unfolding paired
paired-length b = go (eqb b percent) refl
  where
    go : (p : Bool) → eqb b percent ≡ p → length (paired b) ≤ 2
    go true f = rw f (omega arith)
    go false f = rw f (omega arith)

pub pieces-length : (q : Bool) (s : List ℕ) → length (pieces q s) ≤ length s + before q
unfolding pieces
pieces-length false [] = omega arith
pieces-length true [] = omega arith
pieces-length false (b ∷ s) =
    rw (length-append (alone b) (pieces (eqb b backslash) s)) (omega (arith, alone-length b, pieces-length (eqb b backslash) s))
pieces-length true (b ∷ s) = rw (length-append (paired b) (pieces false s)) (omega (arith, paired-length b, pieces-length false s))

pub bytes-length : (p : List Piece) → length (bytes_of p) ≡ length p
unfolding bytes_of
bytes-length [] = refl
bytes-length (x ∷ p) = ap suc (bytes-length p)

-- ---- the parts

-- the shell line is the front of all that could be written
pub line-front : (p : List Piece) → take (length (up_to_percent p)) (bytes_of p) ≡ up_to_percent p
unfolding up_to_percent bytes_of byte_of
line-front [] = refl
line-front (Byte b ∷ p) = ap (λ (s : List ℕ). b ∷ s) (line-front p)
line-front (Percent ∷ p) = refl

parts-length : (p : List Piece) → length (up_to_percent p) + length (text_of (rest_of p)) ≤ length p
unfolding up_to_percent rest_of text_of
parts-length [] = omega arith
parts-length (Byte b ∷ p) = omega (arith, parts-length p)
parts-length (Percent ∷ p) = omega (arith, bytes-length p)

pub line-length : (p : List Piece) → length (up_to_percent p) ≤ length p
line-length p = omega (arith, parts-length p)

pub split-length : (c : List ℕ) → length (shell_line c) + length (text_of (input_of c)) ≤ length c
unfolding shell_line input_of
split-length c = omega (arith, parts-length (pieces false c), pieces-length false c)
