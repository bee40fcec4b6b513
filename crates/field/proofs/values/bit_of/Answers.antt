-- `field::values::bit_of` meets its contract: a value below the bits, or past them.
-- Assumes nothing.
use mathlib.Core.Path.{sym}
use native.Mathlib.Omega.{arith}
use borrow.Author.Tests.{le-ltb}
use Rattle.field.specs.Values.{bit_of}
use Rattle.field.proofs.Steps.{own-bit}
use Rattle.field.proofs.values.bit_of.Goals as goal

pub returns-then-value-bits : goal.returns-then-value-bits
returns-then-value-bits c = sym (own-bit _ _ (omega arith))

pub returns : goal.returns
unfolding bit_of
returns c = let a = c.args in rw (le-ltb a.value a.limits.bits (omega arith))
