-- `line::offset::signed` meets its contract.
-- Assumes nothing.
use mathlib.Core.Path.{◌∙◌}
use Rattle.line.specs.Offsets.{signed}
use Rattle.line.proofs.Offsets.{biased-offset-read, negated_fits, negated-read}
use Rattle.line.proofs.offset.signed.Goals as goal

pub overflow_sub-result : goal.overflow_sub-result
overflow_sub-result c = negated_fits c.requires

pub returns-then-behind : goal.returns-then-behind
unfolding signed
returns-then-behind c = negated-read c.requires ∙ rw c.if-behind.true

pub returns : goal.returns
unfolding signed
returns c = biased-offset-read c.requires ∙ rw c.if-behind.false
