-- Ranges, whether they rise or run round the field. `values-members`: a value is in a range exactly if it is no further from its begin
-- than its end is, and a multiple of the step.
-- Assumes nothing.
use mathlib.Core.Path.{◌≡◌, refl, sym, ◌∙◌}
use mathlib.Core.Bool.{Bool, true, false, cond, ◌||◌, or-false}
use mathlib.Core.List.{List, [], ◌∷◌, map}
use Prim.Native.Nat.{ℕ, ◌+◌, ◌-◌, ◌≤◌, ◌<◌}
use native.Mathlib.Nat.{lt_of_not-le, zero-mod}
use native.Mathlib.Decide.{dec_le}
use native.Mathlib.Omega.{arith}
use lib.Dec.{ltb, leb, eqb}
use borrow.Author.Tests.{ltb-true, ltb-false, lt-ltb, le-ltb, le-leb, lt-leb, eq-eqb, ne_eqb}
use Rattle.field.specs.declared.Limits.{Limits}
use Rattle.field.specs.Values.{values_of, last_of, range_of, bit_of}
use Rattle.field.specs.Members.{is_in, is_step, distance, is_in_range, element_bits}
use Rattle.field.proofs.UsualLimits.{Usual}
use Rattle.field.proofs.Accepted.{Accepted}
use Rattle.field.proofs.Members.{steps-members}
use Rattle.field.proofs.Steps.{last-rising, last-wrapping}
use Rattle.field.specs.Elements.{from_to}

-- ---- bits

-- the value that is as far past the last bit as v is past the first value
abbrev around : Limits → ℕ → ℕ
around l v = v + (l.bits - l.first)

or-pairs : (a b c d : Bool) → ((a || b) || (c || d)) ≡ ((a || c) || (b || d))
or-pairs true b c d = refl
or-pairs false true true d = refl
or-pairs false true false d = refl
or-pairs false false c d = refl

module _ (l : Limits) (v : ℕ) (from : l.first ≤ v) (own : v < l.bits) where
  bit_is : (u : ℕ) → eqb (bit_of l u) v ≡ (eqb u v || eqb u (around l v))
  unfolding bit_of
  bit_is u = go (ltb u l.bits) refl
    where
      past : l.bits ≤ u → eqb (l.first + (u - l.bits)) v ≡ (eqb u v || eqb u (around l v))
      past h = elim (dec_le u (around l v)) [ yes k ↦ elim (dec_le (around l v) u) [ yes j ↦ rw (eq-eqb (l.first + (u - l.bits)) v (omega arith), eq-eqb u (around l v) (omega arith), ne_eqb u v (λ e. omega (arith, e))) | no j ↦ other (λ e. omega (arith, e)) (λ e. omega (arith, e)) ] | no k ↦ other (λ e. omega (arith, e)) (λ e. omega (arith, e)) ]
        where
          other : (l.first + (u - l.bits) ≡ v → ⊥) → (u ≡ around l v → ⊥) → eqb (l.first + (u - l.bits)) v ≡ (eqb u v || eqb u (around l v))
          other a b = rw (ne_eqb (l.first + (u - l.bits)) v a, ne_eqb u (around l v) b, ne_eqb u v (λ e. omega (arith, e)))

      go : (t : Bool) → ltb u l.bits ≡ t → eqb (cond t u (l.first + (u - l.bits))) v ≡ (eqb u v || eqb u (around l v))
      go true e = let h = ltb-true u l.bits e in rw (ne_eqb u (around l v) (λ q. omega (arith, q, h))) (sym (or-false (eqb u v)))
      go false e = past (ltb-false u l.bits e)

  bits_in : (us : List ℕ) → is_in v (map (bit_of l) us) ≡ (is_in v us || is_in (around l v) us)
  unfolding is_in
  bits_in [] = refl
  bits_in (u ∷ us) = rw (bit_is u, bits_in us) (or-pairs (eqb u v) (eqb u (around l v)) (is_in v us) (is_in (around l v) us))

-- ---- the end of a range

leb-from : (low a b : ℕ) → low ≤ a → low ≤ b → leb (a - low) (b - low) ≡ leb a b
leb-from low a b h k = elim (dec_le a b) [ yes j ↦ rw (le-leb a b j, le-leb (a - low) (b - low) (omega arith)) | no j ↦ rw (lt-leb a b (lt_of_not-le j), lt-leb (a - low) (b - low) (omega arith)) ]

module _ (l : Limits) (u : Usual l) {low high step : ℕ} (a : Accepted l low high step) where
  abbrev last : ℕ
  last = last_of l low high

  -- it isn't before its begin, and before the second time that the first value comes
  pub last-bounds : (low ≤ last) × (last + l.first < l.bits + l.bits)
  last-bounds = elim (dec_le low high) [ yes k ↦ rw (last-rising l low high k) (k, omega (arith, a.to, u.enough, u.some)) | no k ↦ rw (last-wrapping l low high (lt_of_not-le k)) (omega (arith, a.below, u.enough), omega (arith, a.above, a.below, u.enough, k)) ]

  last-distance : distance l low high ≡ last - low
  unfolding distance last_of
  last-distance = go (ltb high low)
    where
      go : (t : Bool) → cond t (high + (l.bits - l.first) - low) (high - low) ≡ cond t (l.bits + (high - l.first)) high - low
      go true = omega (arith, a.above, u.some)
      go false = refl

  module _ (v : ℕ) (from : l.first ≤ v) (own : v < l.bits) where
    -- round the field the end comes before, but for the first value itself
    twice : low ≤ v → around l v ≤ last → v ≡ low
    twice h k = elim (dec_le low high) [ yes j ↦ let e = last-rising l low high j in omega (arith, e, a.from, a.to, u.enough) | no j ↦ let e = last-wrapping l low high (lt_of_not-le j) in absurd (omega (arith, e, a.above, u.some)) ]

    upwards-far : low ≤ v → distance l low v ≡ v - low
    unfolding distance
    upwards-far h = rw (le-ltb v low h)

    around-far : v < low → distance l low v ≡ around l v - low
    unfolding distance
    around-far h = rw (lt-ltb v low h)

    range_steps : (is_step low last step v || is_step low last step (around l v)) ≡ is_in_range l low high step v
    unfolding is_step is_in_range
    range_steps = elim (dec_le low v) [ yes k ↦ upwards k | no k ↦ below (lt_of_not-le k) ]
      where
        upwards : low ≤ v → (is_step low last step v || is_step low last step (around l v)) ≡ is_in_range l low high step v
        upwards k = elim (dec_le (around l v) last) [ yes j ↦ first j | no j ↦ alone (lt_of_not-le j) ]
          where
            first : around l v ≤ last → (is_step low last step v || is_step low last step (around l v)) ≡ is_in_range l low high step v
            first j =
                let z : v - low ≡ 0 = omega (arith, twice k j) in
                rw (upwards-far k, le-leb low v k, le-leb v last (omega (arith, j, u.some)), z, zero-mod step, le-leb 0 (distance l low high) (omega arith))

            alone : last < around l v → (is_step low last step v || is_step low last step (around l v)) ≡ is_in_range l low high step v
            alone j =
                rw (upwards-far k, last-distance, le-leb low v k, le-leb low (around l v) (omega arith), lt-leb (around l v) last j, leb-from low v last k last-bounds.0)
                (or-false _)

        below : v < low → (is_step low last step v || is_step low last step (around l v)) ≡ is_in_range l low high step v
        below k =
            let h : low ≤ around l v = omega (arith, a.below, u.enough, u.some) in
            rw (around-far k, last-distance, lt-leb low v k, le-leb low (around l v) h, leb-from low (around l v) last h last-bounds.0)

    pub values-members : is_in v (element_bits l (from_to low high step)) ≡ is_in_range l low high step v
    unfolding element_bits range_of
    values-members =
        bits_in l v from own (values_of low last step)
        ∙ rw (steps-members low last step v last-bounds.0 a.steps, steps-members low last step (around l v) last-bounds.0 a.steps) range_steps
