-- `field::values::last_of` meets its contract: an end below the begin, or not.
-- Assumes nothing.
use mathlib.Core.Path.{sym}
use Rattle.field.proofs.Steps.{last-rising, last-wrapping}
use Rattle.field.proofs.values.last_of.Goals as goal

pub returns-then-high-low : goal.returns-then-high-low
returns-then-high-low c = sym (last-wrapping _ _ _ c.if-high-low.true)

pub returns : goal.returns
returns c = sym (last-rising _ _ _ c.if-high-low.false)
