-- `field::values::run` meets its contract: no bit is shifted out.
-- Assumes nothing.
use native.Mathlib.Omega.{arith}
use lib.Pow.{pow_mono}
use Rattle.field.proofs.Runs.{shifted-low, shifted-high}
use Rattle.field.proofs.values.run.Goals as goal

pub overflow_sub-result : goal.overflow_sub-result
overflow_sub-result c =
    rw (shifted-low c.args.low (omega arith), shifted-high c.args.high (omega arith)) (pow_mono (omega arith))

pub returns : goal.returns
returns c = rw (shifted-low c.args.low (omega arith), shifted-high c.args.high (omega arith))
