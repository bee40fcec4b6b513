-- `eremothyn::rules::rules_of` meets its contract: a kind that isn't 0 is the successor of a number.
-- Assumes nothing.
use mathlib.Core.Path.{◌≡◌, refl}
use Prim.Native.Nat.{ℕ, zero, suc}
use Rattle.eremothyn.specs.Rules.{rules_of}
use Rattle.eremothyn.proofs.rules.rules_of.Goals as goal

other-kind : (kind dialect : ℕ) → (kind ≡ 0 → ⊥) → rules_of 1 dialect ≡ rules_of kind dialect
other-kind zero dialect h = absurd (h refl)
other-kind (suc n) dialect h = refl

pub returns-then-kind-eq0 : goal.returns-then-kind-eq0
returns-then-kind-eq0 c = rw (c.if-kind-eq0.true, c.dialect_of-dialect.ensures)

pub returns : goal.returns
returns c = rw c.dialect_of-dialect.ensures (other-kind _ c.args.dialect c.if-kind-eq0.false)
