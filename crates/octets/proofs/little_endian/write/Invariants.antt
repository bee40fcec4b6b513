-- `octets::little_endian::write` meets its contract: after i turns the first i bytes are written, and the others are those of what is left.
-- Assumes nothing.
use mathlib.Core.Path.{◌≡◌}
use lib.ListN.{length, take}
use Rattle.octets.specs.Clipped.{Wrote}
use Rattle.octets.specs.LittleEndian.{little_endian}
use Rattle.octets.proofs.LittleEndian.{Left}
use Rattle.octets.proofs.little_endian.write.Given as goal

abbrev pub invariant-loop-i : goal.invariant-loop-i
invariant-loop-i l = (Wrote l.at (take l._i (little_endian l.size l.n)) l.initial.out l.next l.out) × (Left l.size l.n l._i l.rest) × (length l.out ≡ length l.initial.out)
