-- `line::time::field_at` meets its contract.
-- Assumes nothing.
use Rattle.octets.specs.declared.class.Class.TheVariants.{Solid}
use Rattle.octets.proofs.Runs.{skipped-within}
use native.Mathlib.Omega.{arith}
use Rattle.line.proofs.time.field_at.Goals as goal

pub slice_bounds-read-end : goal.slice_bounds-read-end
slice_bounds-read-end c = omega (arith, skipped-within Solid c.args.s.now c.args.at (omega arith), c.skip-end.ensures.0)
