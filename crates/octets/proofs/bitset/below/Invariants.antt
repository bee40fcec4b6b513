-- `octets::bitset::below` meets its contract.
-- Assumes nothing.
use mathlib.Core.Path.{◌≡◌}
use Rattle.octets.specs.BitSets.{has_member}
use Rattle.octets.specs.Passing.{count_below}
use Rattle.octets.proofs.bitset.below.Given as goal

abbrev pub invariant-loop-k : goal.invariant-loop-k
invariant-loop-k l = l.count ≡ count_below (has_member l.words) l.k
