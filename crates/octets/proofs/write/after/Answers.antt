-- `octets::write::after` meets its contract.
-- Assumes nothing.
use Prim.Native.Nat.{◌+◌}
use native.Mathlib.Nat.{lt_of_not-le}
use native.Mathlib.Decide.{dec_le}
use native.Mathlib.Omega.{arith}
use Rattle.octets.specs.Clipped.{last_place}
use Rattle.octets.proofs.Written.{saturated-small, saturated-past}
use Rattle.octets.proofs.write.after.Goals as goal

pub returns : goal.returns
returns c =
    let n = c.args.at + c.args.n in
    elim (dec_le n last_place) [
      | yes h ↦ omega (arith, saturated-small n h, c.saturating_add.ensures)
      | no h ↦ let k = lt_of_not-le h in omega (arith, saturated-past n (omega arith), c.saturating_add.ensures)
    ]
