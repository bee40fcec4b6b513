-- What doesn't meet the words that claims about lines are made of.
-- Assumes nothing.
use mathlib.Core.List.{[]}
use native.Mathlib.Omega.{arith}
use Rattle.octets.specs.Texts.{text}
use Rattle.line.proofs.LineViews.{Inside}
use Rattle.line.proofs.ExactWords.{AnyOf}

-- a part that ends before it starts, or past the bytes
not-inside : (Inside 3 (record { start = 2; end = 1 }) → ⊥) × (Inside 3 (record { start = 2; end = 4 }) → ⊥)
not-inside = ((λ i. omega (arith, i.order)), (λ i. omega (arith, i.within)))

not-any : AnyOf (text "@a") [] → ⊥
not-any h = h
