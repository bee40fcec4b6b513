-- The refusals of a range in numbers of any size, in either dialect: 6, then 7, then 8, all at the field's first byte.
-- Assumes nothing.
use Rattle.std.specs.Prelude.{Some}
use Rattle.refusal.specs.declared.Refusal.TheVariants.{OutOfLimits, Reversed, StepZero}
use mathlib.Core.Path.{◌≡◌, refl, ap, ◌∙◌}
use mathlib.Core.Bool.{Bool, true, false, not, ◌&&◌, or-true}
use mathlib.Core.Logic.{◌⊎◌, inl, inr}
use mathlib.Core.List.{List, ◌∷◌, ◌++◌}
use Prim.Native.Nat.{ℕ, ◌≤◌, ◌<◌}
use lib.Dec.{ltb}
use borrow.Author.Tests.{lt-ltb, le-ltb, eq-eqb}
use Rattle.field.specs.declared.Limits.{Limits}
use Rattle.field.specs.Numbers.{number_of}
use Rattle.field.specs.Elements.{dash, slash}
use Rattle.field.specs.Judgement.{refuses, outside, judged}
use Rattle.field.specs.Fields.{read_field}
use Rattle.field.proofs.ElementForms.{range-text}

-- a number below the first value or above the last
abbrev pub Outside : Limits → ℕ → Type 0
Outside l n = (n < l.first) ⊎ (l.last < n)

-- and one that is neither
pub record Inside (l : Limits) (n : ℕ) : Type 0 where
  pub from : l.first ≤ n
  pub to : n ≤ l.last

outside-is : (l : Limits) (n : ℕ) → Outside l n → outside l n ≡ true
unfolding outside
outside-is l n (inl h) = rw (lt-ltb n l.first h) refl
outside-is l n (inr h) = rw (lt-ltb l.last n h) (or-true (ltb n l.first))

inside_is : (l : Limits) (n : ℕ) → Inside l n → outside l n ≡ false
unfolding outside
inside_is l n h = rw (le-ltb n l.first h.from, le-ltb l.last n h.to) refl

module _ (l : Limits) (column : ℕ) (n m k : List ℕ) {low high step : ℕ} (p : number_of n ≡ Some low) (q : number_of m ≡ Some high) (r : number_of k ≡ Some step) where
  abbrev range : List ℕ
  range = n ++ dash ∷ (m ++ slash ∷ k)

  pub range-outside : Outside l low ⊎ Outside l high → read_field l column range ≡ refuses OutOfLimits column
  unfolding judged
  range-outside (inl h) = range-text l column n m k p q r ∙ rw (outside-is l low h) refl
  range-outside (inr h) = range-text l column n m k p q r ∙ rw (outside-is l high h, or-true (outside l low)) refl

  module _ (a : Inside l low) (b : Inside l high) where
    falls : high < low → l.wraps ≡ false → (ltb high low && not l.wraps) ≡ true
    falls h w = rw (lt-ltb high low h) (ap not w)

    rises : low ≤ high ⊎ (l.wraps ≡ true) → (ltb high low && not l.wraps) ≡ false
    rises (inl h) = rw (le-ltb high low h) refl
    rises (inr w) = go (ltb high low)
      where
        go : (t : Bool) → (t && not l.wraps) ≡ false
        go true = ap not w
        go false = refl

    pub range-reversed : high < low → l.wraps ≡ false → read_field l column range ≡ refuses Reversed column
    unfolding judged
    range-reversed h w = range-text l column n m k p q r ∙ rw (inside_is l low a, inside_is l high b, falls h w) refl

    pub range-zero : low ≤ high ⊎ (l.wraps ≡ true) → step ≡ 0 → read_field l column range ≡ refuses StepZero column
    unfolding judged
    range-zero h e = range-text l column n m k p q r ∙ rw (inside_is l low a, inside_is l high b, rises h, eq-eqb step 0 e) refl
