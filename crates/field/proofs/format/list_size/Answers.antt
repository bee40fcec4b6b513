-- `field::format::list_size` meets its contract.
-- Assumes nothing.
use native.Mathlib.Omega.{arith}
use Rattle.field.proofs.ListSizes.{members-size}
use Rattle.field.proofs.format.list_size.Goals as goal

pub returns-then-before-all : goal.returns-then-before-all
returns-then-before-all c =
    let a = c.args in
    omega (arith, c.size_below-all.ensures, c.size_below-before.ensures, members-size a.limits a.set c.requires.0)

pub returns : goal.returns
returns c =
    let a = c.args in
    omega (arith, c.size_below-all.ensures, c.size_below-before.ensures, members-size a.limits a.set c.requires.0)
