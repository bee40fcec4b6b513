-- How long a list of a set's values is, by how many there are, and how many of them have one digit.
-- Assumes nothing.
use mathlib.Core.Path.{◌≡◌, refl, ◌∙◌}
use mathlib.Core.Bool.{Bool, true, false, cond}
use mathlib.Core.List.{List, [], ◌∷◌}
use Prim.Native.Nat.{ℕ, zero, suc, ◌+◌, ◌-◌, ◌*◌, ◌≤◌, ◌<◌, min}
use native.Mathlib.Nat.{lt_of_not-le}
use native.Mathlib.Numerals.{add-one}
use native.Mathlib.Decide.{dec_le}
use native.Mathlib.Omega.{arith}
use lib.ListN.{length, length-append}
use Rattle.octets.specs.Digits.{number_text}
use Rattle.octets.specs.Sets.{has_bit, from_on}
use Rattle.octets.specs.Passing.{count_below}
use Rattle.octets.proofs.Passing.{below-few, below_next, below-pass}
use Rattle.octets.proofs.Digits.{one-digit, two_digits}
use Rattle.field.specs.declared.Limits.{Limits}
use Rattle.field.specs.Written.{having, members, after_commas, list_text}

module _ (set : ℕ) where
  abbrev below : ℕ → ℕ
  below n = count_below (has_bit set) n

  grows : (d a : ℕ) → below a ≤ below (a + d)
  unfolding count_below
  grows zero a = let e : a + 0 ≡ a = omega arith in rw e (omega arith)
  grows (suc d) a = let e : a + suc d ≡ suc (a + d) = omega arith in rw e (go (has_bit set (a + d)) (grows d a))
    where
      go : (b : Bool) → below a ≤ below (a + d) → below a ≤ cond b (suc (below (a + d))) (below (a + d))
      go true h = omega arith
      go false h = h

  from-ten : (v : ℕ) → 10 ≤ v → below 10 ≤ below v
  from-ten v h = let e : 10 + (v - 10) ≡ v = omega arith in rw e at (grows (v - 10) 10)

  -- one value more: three bytes with its comma, or two
  step_in : (v : ℕ) → has_bit set v ≡ true → length (number_text v) + 1 + (3 * below v - below (min v 10)) ≡ 3 * below (v + 1) - below (min (v + 1) 10)
  step_in v has = elim (dec_le 10 v) [ yes h ↦ two h | no h ↦ one (lt_of_not-le h) ]
    where
      two : 10 ≤ v → length (number_text v) + 1 + (3 * below v - below (min v 10)) ≡ 3 * below (v + 1) - below (min (v + 1) 10)
      two h =
          let a : min v 10 ≡ 10 = omega arith in
          let b : min (v + 1) 10 ≡ 10 = omega arith in
          rw (a, b, two_digits v h, below_next (has_bit set) v has) (omega (arith, from-ten v h))

      one : v < 10 → length (number_text v) + 1 + (3 * below v - below (min v 10)) ≡ 3 * below (v + 1) - below (min (v + 1) 10)
      one h =
          let a : min v 10 ≡ v = omega arith in
          let b : min (v + 1) 10 ≡ v + 1 = omega arith in
          rw (a, b, one-digit v h, below_next (has_bit set) v has) (omega (arith, below-few (has_bit set) v))

  step-out : (v : ℕ) → has_bit set v ≡ false → 3 * below v - below (min v 10) ≡ 3 * below (v + 1) - below (min (v + 1) 10)
  step-out v hasn't = elim (dec_le 10 v) [ yes h ↦ two h | no h ↦ one (lt_of_not-le h) ]
    where
      two : 10 ≤ v → 3 * below v - below (min v 10) ≡ 3 * below (v + 1) - below (min (v + 1) 10)
      two h =
          let a : min v 10 ≡ 10 = omega arith in
          let b : min (v + 1) 10 ≡ 10 = omega arith in
          rw (a, b, below-pass (has_bit set) v hasn't)

      one : v < 10 → 3 * below v - below (min v 10) ≡ 3 * below (v + 1) - below (min (v + 1) 10)
      one h =
          let a : min v 10 ≡ v = omega arith in
          let b : min (v + 1) 10 ≡ v + 1 = omega arith in
          rw (a, b, below-pass (has_bit set) v hasn't)

  after-size : (d v : ℕ) → length (after_commas (having set (from_on v d))) + (3 * below v - below (min v 10)) ≡ 3 * below (v + d) - below (min (v + d) 10)
  unfolding having from_on after_commas
  after-size zero v = let e : v + 0 ≡ v = omega arith in rw e (omega arith)
  after-size (suc d) v = go (has_bit set v) refl (after-size d (suc v))
    where
      go : (b : Bool) → has_bit set v ≡ b
          → length (after_commas (having set (from_on (suc v) d))) + (3 * below (suc v) - below (min (suc v) 10)) ≡ 3 * below (suc v + d) - below (min (suc v + d) 10)
          → length (after_commas (cond b (v ∷ having set (from_on (suc v) d)) (having set (from_on (suc v) d)))) + (3 * below v - below (min v 10)) ≡ 3 * below (v + suc d) - below (min (v + suc d) 10)
      go true e more =
          let n : v + suc d ≡ suc v + d = omega arith in
          rw (n, ← more) (omega (arith, length-append (number_text v) (after_commas (having set (from_on (suc v) d))), rw (add-one v) at (step_in v e)))
      go false e more = let n : v + suc d ≡ suc v + d = omega arith in rw (n, ← more) (omega (arith, rw (add-one v) at (step-out v e)))

-- a list has no comma in front
list-size : (vs : List ℕ) → length (list_text vs) ≡ length (after_commas vs) - 1
unfolding list_text after_commas
list-size [] = refl
list-size (v ∷ vs) = omega arith

pub members-size : (l : Limits) (set : ℕ) → l.first ≤ l.bits
    → length (list_text (members l set))
    ≡ 3 * below set l.bits - below set (min l.bits 10) - (3 * below set l.first - below set (min l.first 10)) - 1
unfolding members
members-size l set h =
    let e : l.first + (l.bits - l.first) ≡ l.bits = omega arith in
    list-size (having set (from_on l.first (l.bits - l.first))) ∙ omega (arith, rw e at (after-size set (l.bits - l.first) l.first))

-- there are no more of one digit than there are
pub short-below : (set n : ℕ) → below set (min n 10) ≤ below set n
short-below set n = let e : min n 10 + (n - min n 10) ≡ n = omega arith in rw e at (grows set (n - min n 10) (min n 10))
