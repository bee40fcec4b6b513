-- `octets::write::byte` meets its contract.
-- Assumes nothing.
use mathlib.Core.List.{[], ◌∷◌}
use native.Mathlib.Omega.{arith}
use Rattle.octets.proofs.Written.{wrote-byte, wrote-past}
use Rattle.octets.proofs.write.byte.Goals as goal

pub returns-then-at-out : goal.returns-then-at-out
returns-then-at-out c = let a = c.args in wrote-byte a.at a.b a.out.now (omega arith) (omega arith)

pub returns : goal.returns
returns c = let a = c.args in wrote-past a.at (a.b ∷ []) _ a.out.now (omega arith) (omega arith) c.after.ensures
