use mathlib.Core.Path.{refl}
use native.Mathlib.Omega.{arith}
use Rattle.octets.specs.Sets.{put}
use Rattle.field.specs.Values.{including}
use Rattle.field.proofs.Steps.{values-more, values-last}
use Rattle.field.proofs.values.with_range.Goals as goal

pub loop-value-init : goal.loop-value-init
loop-value-init c = (refl, omega arith)

pub bit_of-requires : goal.bit_of-requires
bit_of-requires c = c.loop-value.invariant.1

pub returns-then-last-value : goal.returns-then-last-value
unfolding including put
returns-then-last-value c =
    rw (c.with-set.ensures, c.bit_of.ensures)
    (rw (values-last _ _ _ c.requires c.if-last-value.true) at c.loop-value.invariant.0)

pub loop-value-preserved : goal.loop-value-preserved
unfolding including put
loop-value-preserved c = (
  rw (c.with-set.ensures, c.bit_of.ensures)
      (rw (values-more _ _ _ c.requires c.if-last-value.false) at c.loop-value.invariant.0),
  omega arith,
)
