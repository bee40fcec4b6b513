-- Laws of a set that has those who stand in a line.
-- Assumes nothing.
use mathlib.Core.Path.{◌≡◌, refl, sym, ◌∙◌}
use mathlib.Core.Bool.{Bool, true, false, ◌||◌}
use mathlib.Core.List.{List, [], ◌∷◌, ◌++◌}
use Prim.Native.Nat.{ℕ, ◌/◌, ◌<◌}
use lib.Dec.{eqb}
use lib.ListN.{length, replicate}
use Rattle.octets.specs.BitSets.{with_member}
use Rattle.octets.proofs.BitSets.{no_member, with-member}
use Rattle.fifo.specs.Queues.{is_waiting}
use Rattle.fifo.specs.Inner.{WaitingBits}
use Rattle.fifo.proofs.WaitingEntries.{waits-append}

pub gathered_none : (w : ℕ) → WaitingBits (replicate w 0) []
unfolding is_waiting
gathered_none w e = no_member w e

-- one more at the back
pub gathered-more : (seen l : List ℕ) (e : ℕ) → e / 64 < length seen → WaitingBits seen l → WaitingBits (with_member seen e) (l ++ e ∷ [])
unfolding is_waiting
gathered-more seen l e h m x = with-member seen e h x ∙ rw (m x) (sym (waits-append x l (e ∷ []) ∙ swap (is_waiting x l) (eqb e x)))
  where
    swap : (a b : Bool) → (a || (b || false)) ≡ (b || a)
    swap true true = refl
    swap true false = refl
    swap false true = refl
    swap false false = refl
