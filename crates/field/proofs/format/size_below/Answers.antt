-- `field::format::size_below` meets its contract.
-- Assumes nothing.
use mathlib.Core.Path.{◌≡◌, ap, ◌∙◌}
use Prim.Native.Nat.{ℕ, min}
use native.Mathlib.Omega.{arith}
use Rattle.octets.specs.Sets.{has_bit}
use Rattle.octets.specs.Passing.{count_below}
use Rattle.field.proofs.ListSizes.{short-below}
use Rattle.field.proofs.format.size_below.Goals as goal

pub overflow_sub-result : goal.overflow_sub-result
overflow_sub-result c =
    let a = c.args in
    let short : c.below-2.result ≡ count_below (has_bit a.set) (min a.n 10) =
    c.below-2.ensures.0 ∙ ap (λ (k : ℕ). count_below (has_bit a.set) k) c.min-short.ensures in
    omega (arith, short, c.below.ensures.0, short-below a.set a.n)

pub returns : goal.returns
returns c =
    let a = c.args in
    let short : c.below-2.result ≡ count_below (has_bit a.set) (min a.n 10) =
    c.below-2.ensures.0 ∙ ap (λ (k : ℕ). count_below (has_bit a.set) k) c.min-short.ensures in
    omega (arith, short, c.below.ensures.0)
