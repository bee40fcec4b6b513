-- `octets::bitset::ranked` meets its contract: no number that was passed is the one.
-- Assumes nothing.
use mathlib.Core.Path.{◌≡◌}
use Rattle.octets.specs.BitSets.{has_member}
use Rattle.octets.specs.Search.{from}
use Rattle.octets.specs.Passing.{count_below, is_ranked}
use Rattle.octets.proofs.bitset.ranked.Given as goal

abbrev pub invariant-loop-k : goal.invariant-loop-k
invariant-loop-k l = (l.seen ≡ count_below (has_member l.words) l.k) × (from (is_ranked (has_member l.words) l.rank) l.n l.k ≡ from (is_ranked (has_member l.words) l.rank) l.n 0)
