-- `octets::write::copy` meets its contract: after i turns as much of the first i bytes is written as fits.
-- Assumes nothing.
use mathlib.Core.Path.{◌≡◌}
use Prim.Native.Nat.{◌-◌, min}
use lib.ListN.{length, take}
use Rattle.octets.specs.Clipped.{clipped}
use Rattle.octets.proofs.write.copy.Given as goal

abbrev pub invariant-loop-i : goal.invariant-loop-i
invariant-loop-i l = (l.out ≡ clipped l.at (take l.i l.part) l.initial.out) × (l.fit ≡ min (length l.part) (length l.initial.out - l.at)) × (length l.out ≡ length l.initial.out)
