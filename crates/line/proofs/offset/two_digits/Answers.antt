-- `line::offset::two_digits` meets its contract.
-- Assumes nothing.
use native.Mathlib.Omega.{arith}
use Rattle.line.specs.Offsets.{two_digits}
use Rattle.line.proofs.offset.two_digits.Goals as goal

pub returns : goal.returns
unfolding two_digits
returns c = (rw (c.digit.ensures.0, c.digit-2.ensures.0), omega (arith, c.digit.ensures, c.digit-2.ensures))
