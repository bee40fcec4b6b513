-- Laws of a text written byte by byte to the front of a buffer.
-- Assumes nothing.
use Rattle.std.specs.Prelude.{Option, Some, None, MatchOption, IsSome}
use mathlib.Core.Path.{◌≡◌, refl, ap}
use mathlib.Core.List.{List, [], ◌∷◌, ◌++◌}
use Prim.Native.Nat.{ℕ, ◌≤◌, ◌<◌}
use native.Mathlib.Omega.{arith}
use lib.ListN.{length, take, drop}
use lib.Seq.{length-take-le}
use Rattle.command.specs.declared.Piece.{Piece}
use Rattle.octets.specs.OverFront.{over_front}

-- an iterator with pieces left yields one
pub some-left : (r : Option Piece) (s t : List Piece) → MatchOption r ((s ≡ []) × (t ≡ [])) (λ x. s ≡ x ∷ t) → 0 < length s → IsSome r
some-left (Some x) s t steps h = refl
some-left None s t steps h = absurd (omega (arith, ap length steps.0))

-- the front of a text that was written is laid at the front
pub laid-take : (t room : List ℕ) (n : ℕ) → n ≤ length t → take n t ++ drop n room ≡ over_front (take n t) room
unfolding over_front
laid-take t room n h = rw (length-take-le n t h)
