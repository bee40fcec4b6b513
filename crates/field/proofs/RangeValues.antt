-- The values of a field that is one range, by bits alone, in either dialect: it is accepted where both ends lie within the limits and the step isn't 0,
-- and then has just the values that are a multiple of the step after its begin and no further than its end.
-- Assumes nothing.
use Rattle.std.specs.Prelude.{Some}
use mathlib.Core.Path.{◌≡◌, refl, ap, ◌∙◌}
use mathlib.Core.Bool.{Bool, true, false, cond, not, ◌&&◌, ◌||◌, or-false}
use mathlib.Core.List.{List, ◌∷◌, ◌++◌, map}
use Prim.Native.Nat.{ℕ, ◌+◌, ◌-◌, ◌%◌, ◌≤◌, ◌<◌}
use native.Mathlib.Nat.{lt_of_not-le}
use native.Mathlib.Decide.{dec_le}
use native.Mathlib.Omega.{arith}
use lib.Dec.{eqb, leb, ltb}
use borrow.Author.Tests.{le-ltb, lt-ltb, le-leb, lt-leb, ne_eqb, ltb-true, ltb-false}
use Rattle.octets.specs.declared.class.Class.TheVariants.{Not}
use Rattle.octets.specs.Runs.{are_of}
use Rattle.octets.specs.Sets.{has_bit}
use Rattle.octets.proofs.Sets.{none_has}
use Rattle.field.specs.declared.Limits.{Limits}
use Rattle.field.specs.Values.{range_of, bit_of, including}
use Rattle.field.specs.Numbers.{number_of}
use Rattle.field.specs.Elements.{from_to, dash, slash, element_of}
use Rattle.field.specs.Judgement.{means, outside, judged}
use Rattle.field.specs.Members.{is_in, is_step, distance, is_in_range, element_bits, is_star}
use Rattle.field.specs.Fields.{comma, read_field}
use Rattle.field.proofs.UsualLimits.{Usual}
use Rattle.field.proofs.Accepted.{Accepted}
use Rattle.field.proofs.Members.{including-has}
use Rattle.field.proofs.Ranges.{values-members}
use Rattle.field.proofs.ElementForms.{field-element, range-text}

module _ (l : Limits) (u : Usual l) {low high step : ℕ} (a : Accepted l low high step) where
  -- ---- in the words of F6 and W1

  module _ (v : ℕ) (from : l.first ≤ v) (own : v < l.bits) where
    -- a range that rises and ends at a value with a bit of its own
    pub rising-values : low ≤ high → high < l.bits → is_in_range l low high step v ≡ is_step low high step v
    unfolding is_in_range distance is_step
    rising-values h k = elim (dec_le low v) [ yes i ↦ elim (dec_le v high) [ yes j ↦ within i j | no j ↦ after i (lt_of_not-le j) ] | no i ↦ before (lt_of_not-le i) ]
      where
        before : v < low → is_in_range l low high step v ≡ is_step low high step v
        before i = rw (lt-ltb v low i, le-ltb high low h, lt-leb low v i, lt-leb (v + (l.bits - l.first) - low) (high - low) (omega (arith, u.some))) refl

        within : low ≤ v → v ≤ high → is_in_range l low high step v ≡ is_step low high step v
        within i j = rw (le-ltb v low i, le-ltb high low h, le-leb low v i, le-leb v high j, le-leb (v - low) (high - low) (omega arith)) refl

        after : low ≤ v → high < v → is_in_range l low high step v ≡ is_step low high step v
        after i j = rw (le-ltb v low i, le-ltb high low h, le-leb low v i, lt-leb v high j, lt-leb (v - low) (high - low) (omega arith)) refl

    -- one from high to low: up to the last value, and from the first on, the step counting on across the join
    pub wrapping-values : high < low
        → is_in_range l low high step v
        ≡ cond (ltb v low) (leb v high && eqb ((v + (l.bits - l.first) - low) % step) 0) (eqb ((v - low) % step) 0)
    unfolding is_in_range distance
    wrapping-values h = rw (lt-ltb high low h) (go (ltb v low) refl)
      where
        far : ℕ
        far = high + (l.bits - l.first) - low

        same : v < low → leb (v + (l.bits - l.first) - low) far ≡ leb v high
        same i = elim (dec_le v high) [ yes j ↦ rw (le-leb v high j) (le-leb _ far (omega arith)) | no j ↦ rw (lt-leb v high (lt_of_not-le j)) (lt-leb _ far (omega (arith, lt_of_not-le j, a.below, u.enough, u.some, from, i))) ]

        go : (t : Bool) → ltb v low ≡ t
            → (leb (cond t (v + (l.bits - l.first) - low) (v - low)) far && eqb (cond t (v + (l.bits - l.first) - low) (v - low) % step) 0)
            ≡ cond t (leb v high && eqb ((v + (l.bits - l.first) - low) % step) 0) (eqb ((v - low) % step) 0)
        go true e = rw (same (ltb-true v low e)) refl
        go false e = rw (le-leb (v - low) far (omega (arith, ltb-false v low e, own, a.above, u.some))) refl

  -- ---- read

  module _ (order : l.wraps ≡ false → low ≤ high) where
    not-reversed : (ltb high low && not l.wraps) ≡ false
    not-reversed = go l.wraps refl
      where
        go : (w : Bool) → l.wraps ≡ w → (ltb high low && not w) ≡ false
        go true e = side (ltb high low)
          where
            side : (t : Bool) → (t && not true) ≡ false
            side true = refl
            side false = refl
        go false e = rw (le-ltb high low (order e)) refl

    inside : (n : ℕ) → l.first ≤ n → n ≤ l.last → outside l n ≡ false
    unfolding outside
    inside n h k = rw (le-ltb n l.first h, le-ltb l.last n k) refl

    range-judged : (column : ℕ) → judged l column (means 0 false) (from_to low high step) ≡ means (including l 0 (range_of l low high step)) false
    unfolding judged
    range-judged column =
        rw (inside low a.from a.below, inside high a.above a.to, not-reversed, ne_eqb step 0 (λ e. omega (arith, e, a.steps))) refl

    range-has : (v : ℕ) → l.first ≤ v → v < l.bits → has_bit (including l 0 (range_of l low high step)) v ≡ is_in_range l low high step v
    unfolding element_bits
    range-has v h k =
        including-has v (omega (arith, k, u.word, u.within)) l 0 (range_of l low high step)
        ∙ ap (λ (t : Bool). is_in v (map (bit_of l) (range_of l low high step)) || t) (none_has v)
        ∙ or-false (is_in v (map (bit_of l) (range_of l low high step)))
        ∙ values-members l u a v h k

    -- a field that is such a range is accepted, and has exactly these values
    pub range-values : (column : ℕ) (s : List ℕ) → is_star s ≡ false → are_of (Not comma) s ≡ true → element_of l s ≡ from_to low high step
        → (set : ℕ) × (read_field l column s ≡ means set false) × ((v : ℕ) → l.first ≤ v → v < l.bits → has_bit set v ≡ is_in_range l low high step v)
    range-values column s p q e =
        (including l 0 (range_of l low high step), field-element l column s p q ∙ rw e (range-judged column), range-has)

    -- in any numbers
    pub range-exact : (column : ℕ) (n m k : List ℕ) → number_of n ≡ Some low → number_of m ≡ Some high → number_of k ≡ Some step
        → (set : ℕ) × (read_field l column (n ++ dash ∷ (m ++ slash ∷ k)) ≡ means set false)
        × ((v : ℕ) → l.first ≤ v → v < l.bits → has_bit set v ≡ is_in_range l low high step v)
    range-exact column n m k p q r =
        (including l 0 (range_of l low high step), range-text l column n m k p q r ∙ range-judged column, range-has)
