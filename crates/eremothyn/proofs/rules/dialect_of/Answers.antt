-- `eremothyn::rules::dialect_of` meets its contract: a dialect that isn't 0 is the successor of a number.
-- Assumes nothing.
use mathlib.Core.Path.{◌≡◌, refl}
use Prim.Native.Nat.{ℕ, zero, suc}
use Rattle.eremothyn.specs.Rules.{dialect_of}
use Rattle.eremothyn.proofs.rules.dialect_of.Goals as goal

other-dialect : (dialect : ℕ) → (dialect ≡ 0 → ⊥) → dialect_of 1 ≡ dialect_of dialect
other-dialect zero h = absurd (h refl)
other-dialect (suc n) h = refl

pub returns-then-dialect-eq0 : goal.returns-then-dialect-eq0
returns-then-dialect-eq0 c = rw c.if-dialect-eq0.true

pub returns : goal.returns
returns c = other-dialect _ c.if-dialect-eq0.false
