-- `normal::text::part` meets its contract.
-- Assumes nothing.
use mathlib.Core.Path.{refl}
use native.Mathlib.Omega.{arith}
use Rattle.octets.specs.Runs.{between}
use Rattle.octets.proofs.Places.{between-length}
use Rattle.normal.proofs.text.part.Goals as goal

pub returns : goal.returns
unfolding between
returns c =
    let a = c.args in
    (refl, omega (arith, (between-length a.s.now a.start a.end).0))
