-- Laws of the values that an element keeps, as a loop goes through them.
-- Assumes nothing.
use mathlib.Core.Path.{◌≡◌, ap, ◌∙◌}
use mathlib.Core.List.{List, [], ◌∷◌}
use Prim.Native.Nat.{ℕ, suc, ◌+◌, ◌-◌, ◌/◌, ◌≤◌, ◌<◌}
use native.Mathlib.Nat.{add-div_right, div-eq_of_lt}
use native.Mathlib.Numerals.{add-one}
use native.Mathlib.Omega.{arith}
use borrow.Author.Tests.{lt-ltb, le-ltb}
use Rattle.field.specs.declared.Limits.{Limits}
use Rattle.field.specs.Values.{every_step, values_of, last_of, bit_of}

module _ (high step : ℕ) where
  -- how many values are left from v on
  left : ℕ → ℕ
  left v = (high + step - v) / step

  pub remaining : ℕ → List ℕ
  remaining v = every_step v step (left v)

  left-more : (v : ℕ) → 0 < step → v ≤ high → left v ≡ suc ((high - v) / step)
  unfolding left
  left-more v p h =
      let e : high + step - v ≡ high - v + step = omega arith in
      ap (λ (n : ℕ). n / step) e ∙ add-div_right (high - v) p ∙ add-one _

  pub remaining-first : (low : ℕ) → 0 < step → low ≤ high → remaining low ≡ values_of low high step
  unfolding remaining values_of
  remaining-first low p h = rw (left-more low p h)

  pub remaining-next : (v : ℕ) → 0 < step → v ≤ high → remaining v ≡ v ∷ remaining (v + step)
  unfolding remaining every_step left
  remaining-next v p h =
      let e : high + step - (v + step) ≡ high - v = omega arith in
      rw (left-more v p h, e)

  pub remaining-end : (v : ℕ) → 0 < step → high < v → remaining v ≡ []
  unfolding remaining every_step left
  remaining-end v p h = rw (div-eq_of_lt {n = high + step - v} {m = step} (omega arith))

  -- the first value, and whether there are more

  pub values-more : (v : ℕ) → 0 < step → v + step ≤ high → values_of v high step ≡ v ∷ values_of (v + step) high step
  unfolding values_of every_step
  values-more v p h =
      let e : high - v ≡ high - (v + step) + step = omega arith in
      let n : (high - v) / step ≡ suc ((high - (v + step)) / step) =
      ap (λ (n : ℕ). n / step) e ∙ add-div_right (high - (v + step)) p ∙ add-one _ in
      rw n

  pub values-last : (v : ℕ) → 0 < step → high < v + step → values_of v high step ≡ v ∷ []
  unfolding values_of every_step
  values-last v p h = rw (div-eq_of_lt {n = high - v} {m = step} (omega arith))

-- a range that rises ends where it says
pub last-rising : (l : Limits) (low high : ℕ) → low ≤ high → last_of l low high ≡ high
unfolding last_of
last-rising l low high h = rw (le-ltb high low h)

-- and one that doesn't, past the last bit
pub last-wrapping : (l : Limits) (low high : ℕ) → high < low → last_of l low high ≡ l.bits + (high - l.first)
unfolding last_of
last-wrapping l low high h = rw (lt-ltb high low h)

-- a value below the bits has its own
pub own-bit : (l : Limits) (v : ℕ) → v < l.bits → bit_of l v ≡ v
unfolding bit_of
own-bit l v h = rw (lt-ltb v l.bits h)
