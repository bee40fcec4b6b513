-- `octets::bitset::has` meets its contract.
-- Assumes nothing.
use mathlib.Core.Path.{sym}
use Rattle.octets.specs.BitSets.{has_member}
use Rattle.octets.proofs.BitSets.{none-past}
use Rattle.octets.proofs.bitset.has.Goals as goal

pub returns-then-at-words : goal.returns-then-at-words
unfolding has_member
returns-then-at-words c = c.has.ensures

pub returns : goal.returns
returns c = sym (none-past _ _ c.if-at-words.false)
