-- `octets::little_endian::read` meets its contract: what is read is the number of the bytes from i on.
-- Assumes nothing.
use mathlib.Core.Path.{◌≡◌}
use Prim.Native.Nat.{◌+◌, ◌≤◌}
use Rattle.octets.specs.Runs.{between}
use Rattle.octets.specs.LittleEndian.{number_of}
use Rattle.octets.proofs.little_endian.read.Given as goal

abbrev pub invariant-loop-i : goal.invariant-loop-i
invariant-loop-i l = (l.n ≡ number_of (between l.s l.i (l.at + l.size))) × (l.at ≤ l.i)
