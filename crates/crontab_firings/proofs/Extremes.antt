-- The theorems of pieces used at their edges: the first and the last minute of the calendar. An added hypothesis, or a part less of a conclusion, breaks
-- one of these.
-- Assumes nothing.
use mathlib.Core.Path.{refl}
use mathlib.Core.List.{List, ◌++◌}
use Prim.Native.Nat.{ℕ}
use native.Mathlib.Omega.{arith}
use lib.ListN.{take}
use Rattle.std.specs.Prelude.{Result}
use Rattle.crontab.specs.declared.table.Table.{Table}
use Rattle.crontab.specs.declared.table.TableFault.{TableFault}
use Rattle.firings.specs.Lists.{merged_of}
use Rattle.crontab_firings.specs.Pieces.{LinesOf, PieceLines, Pieces, last, more}
use Rattle.crontab_firings.proofs.Pieces.{pieces_whole, piece-on}

-- a piece of the first minute, one of the last, and the one between
pub pieces-three : (t : Result Table TableFault) (one two three : List ℕ)
    → LinesOf (merged_of t 0 1) one → LinesOf (merged_of t 1 4223371678) two → LinesOf (merged_of t 4223371678 4223371679) three
    → LinesOf (merged_of t 0 4223371679) (one ++ (two ++ three))
pieces-three t one two three p q r =
    pieces_whole t 0 4223371679 (one ++ (two ++ three)) (more one (omega arith) (omega arith) p (more two (omega arith) (omega arith) q (last three r)))

pub piece-last : (t : Result Table TableFault) (size : ℕ) (before now later : List ℕ)
    → (PieceLines t 0 4223371679 before now size 4223371679 → Pieces t 4223371679 0 (take size now))
    × (PieceLines t 0 4223371679 before now size 4223371678 → Pieces t 4223371679 4223371678 later → Pieces t 4223371679 0 (take size now ++ later))
piece-last t size before now later = (
  (λ p. (piece-on t 0 4223371679 size 4223371679 before now later p).0 refl),
  (λ p. (piece-on t 0 4223371679 size 4223371678 before now later p).1 (omega arith)),
)
