-- A field that is answered with values: each of its elements lies within the limits, and the set is what they put into it.
-- Assumes nothing.
use Rattle.std.specs.Prelude.{Option, None, Some}
use mathlib.Core.Path.{◌≡◌}
use mathlib.Core.Bool.{Bool, false}
use mathlib.Mathlib.Data.Bool.Basic.{or-eq-false-eq-eq-false-and-eq-false}
use mathlib.Core.List.{List, [], ◌∷◌}
use Prim.Native.Nat.{ℕ, ◌≤◌, ◌<◌}
use lib.Dec.{ltb}
use borrow.Author.Tests.{ltb-false}
use Rattle.field.specs.declared.Limits.{Limits}
use Rattle.field.specs.declared.element.Element.{Element}
use Rattle.field.specs.Values.{range_of, including}
use Rattle.field.specs.Judgement.{outside}

pub record Accepted (l : Limits) (low high step : ℕ) : Type 0 where
  pub from : l.first ≤ low
  pub below : low ≤ l.last
  pub above : l.first ≤ high
  pub to : high ≤ l.last
  pub steps : 0 < step

abbrev pub Accepts : Limits → Option Element → Type 0
Accepts l (Some w) = Accepted l w.low w.high w.step
Accepts l None = ⊥

abbrev pub Each : Limits → List (Option Element) → Type 0
Each l [] = Unit {0}
Each l (e ∷ es) = Accepts l e × Each l es

abbrev pub with_element : Limits → ℕ → Option Element → ℕ
with_element l set (Some w) = including l set (range_of l w.low w.high w.step)
with_element l set None = set

abbrev pub with_elements : Limits → ℕ → List (Option Element) → ℕ
with_elements l set [] = set
with_elements l set (e ∷ es) = with_elements l (with_element l set e) es

-- from one set and flag to another by elements
pub record AcceptedElements (l : Limits) (set : ℕ) (star : Bool) (es : List (Option Element)) (set' : ℕ) (star' : Bool) : Type 0 where
  pub accepted : Each l es
  pub sets : set' ≡ with_elements l set es
  pub flag : star' ≡ star

pub inside : (l : Limits) (n : ℕ) → outside l n ≡ false → (l.first ≤ n) × (n ≤ l.last)
unfolding outside
inside l n e =
    let t = (or-eq-false-eq-eq-false-and-eq-false (ltb n l.first) (ltb l.last n)).0 e in
    (ltb-false _ _ t.0, ltb-false _ _ t.1)
