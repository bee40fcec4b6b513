-- `octets::set::has` meets its contract: a word has no bit from 64 on.
-- Assumes nothing.
use mathlib.Core.Path.{refl, sym}
use Rattle.octets.specs.Sets.{has_bit}
use Rattle.octets.proofs.Sets.{has-below}
use Rattle.octets.proofs.set.has.Goals as goal

pub returns-then-n-lt64 : goal.returns-then-n-lt64
unfolding has_bit
returns-then-n-lt64 c = refl

pub returns : goal.returns
returns c = sym (has-below 64 c.ranges.set.fits c.if-n-lt64.false)
