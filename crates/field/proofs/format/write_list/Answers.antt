-- `field::format::write_list` meets its contract.
-- Assumes nothing.
use mathlib.Core.Path.{ap, ◌∙◌}
use Prim.Native.Nat.{ℕ, ◌+◌}
use native.Mathlib.Omega.{arith}
use Rattle.octets.specs.Clipped.{saturated}
use Rattle.octets.proofs.Written.{wrote-past}
use Rattle.field.proofs.format.write_list.Goals as goal

pub returns-then-out-at : goal.returns-then-out-at
returns-then-out-at c =
    let a = c.args in
    wrote-past a.at _ _ a.out.now (omega arith) (omega arith) (c.after.ensures ∙ ap (λ (n : ℕ). saturated (a.at + n)) c.list_size.ensures)
