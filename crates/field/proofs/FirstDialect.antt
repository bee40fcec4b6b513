-- In the first dialect a field is read as it was before there was a second.
-- Assumes nothing.
use Rattle.std.specs.Prelude.{Option, Some, None, Ok, Err, Result}
use mathlib.Core.Path.{◌≡◌, refl, sym, ap, ◌∙◌}
use mathlib.Core.Bool.{Bool, true, false, cond, not, ◌&&◌, ◌||◌, and-true, or-true}
use mathlib.Core.List.{List, [], ◌∷◌}
use Prim.Native.Nat.{ℕ, ◌+◌, ◌-◌, ◌≤◌}
use native.Mathlib.Omega.{arith}
use lib.ListN.{length}
use lib.Dec.{ltb, eqb}
use borrow.Author.Rules.{rules}
use borrow.Author.Tests.{ltb-false, eqb-false, eq-eqb}
use mathlib.Mathlib.Data.Bool.Basic.{or-eq-false-eq-eq-false-and-eq-false}
use Rattle.octets.specs.Sets.{put}
use Rattle.field.specs.declared.Dialect.TheVariants.{Rising}
use Rattle.field.specs.declared.Limits.{Limits}
use Rattle.field.specs.declared.Allowed.{Allowed}
use Rattle.field.specs.declared.Fault.{Fault}
use Rattle.field.specs.declared.element.Element.{Element}
use Rattle.field.specs.Limits.{minute_limits, hour_limits, day_limits, month_limits, weekday_limits, in_dialect}
use Rattle.field.specs.Parts.{before, after, split}
use Rattle.field.specs.Names.{is_sunday}
use Rattle.field.specs.Elements.{end_of, upper_of, after_dash, element_of}
use Rattle.field.specs.Values.{values_of, range_of, bit_of, including}
use Rattle.field.specs.Refusals.{out_of_limits, reversed, step_zero}
use Rattle.field.specs.Judgement.{refuses, means, outside, judged}
use Rattle.field.specs.Fields.{are_elements, judged_all, list_field, star_element, star_field, read_field}
use Rattle.field.specs.Members.{is_in}
use Rattle.field.specs.FirstDialect.{first_bit, first_including, first_upper, first_after_dash, first_element, first_judged, are_first, first_judged_all, first_list, first_field}
use Rattle.field.proofs.Accepted.{inside}
use Rattle.field.proofs.Members.{steps-members}
use Rattle.field.proofs.SetBounds.{in-range}
use Rattle.field.proofs.Steps.{last-rising}

-- nothing wraps, and where a value has no bit of its own, the first is 0
pub record Plain (l : Limits) : Type 0 where
  pub rises : l.wraps ≡ false
  pub from : (v : ℕ) → l.bits ≤ v → v ≤ l.last → l.first ≡ 0

module _ (l : Limits) (p : Plain l) where
  -- ---- values

  bit-first : (v : ℕ) → v ≤ l.last → bit_of l v ≡ first_bit l v
  unfolding bit_of first_bit
  bit-first v h = go (ltb v l.bits) refl
    where
      go : (t : Bool) → ltb v l.bits ≡ t → cond t v (l.first + (v - l.bits)) ≡ cond t v (v - l.bits)
      go true e = refl
      go false e = omega (arith, p.from v (ltb-false v l.bits e) h)

  including-first : (set : ℕ) (vs : List ℕ) → ((v : ℕ) → is_in v vs ≡ true → v ≤ l.last) → including l set vs ≡ first_including l set vs
  unfolding including first_including is_in
  including-first set [] h = refl
  including-first set (v ∷ vs) h =
      ap (λ (b : ℕ). including l (put set b) vs) (bit-first v (h v (rw (eq-eqb v v refl))))
      ∙ including-first (put set (first_bit l v)) vs (λ u e. h u (rw e (or-true (eqb v u))))

  -- ---- elements

  upper_first : (low high : List ℕ) → upper_of l low high ≡ first_upper l.names low high
  unfolding upper_of first_upper
  upper_first low high =
      ap (λ (w : Bool). cond ((is_sunday l.names high && not (is_sunday l.names low)) && not w) (Some 7) (end_of l.names high)) p.rises
      ∙ ap (λ (t : Bool). cond t (Some 7) (end_of l.names high)) (and-true (is_sunday l.names high && not (is_sunday l.names low)))

  dash-first : (low s : List ℕ) → after_dash l low s ≡ first_after_dash l.names low s
  unfolding after_dash first_after_dash
  dash-first low s = rw (upper_first low (before 47 s), upper_first low s)

  element-first : (s : List ℕ) → element_of l s ≡ first_element l.names s
  unfolding element_of first_element
  element-first s = rw (dash-first (before 45 s) (after 45 s))

  judged-first : (column : ℕ) (a : Result Allowed Fault) (e : Option Element) → judged l column a e ≡ first_judged l column a e
  unfolding judged first_judged range_of
  judged-first column (Err fault) e = refl
  judged-first column (Ok v) None = refl
  judged-first column (Ok y) (Some w) =
      go (outside l w.low || outside l w.high) (ltb w.high w.low) (eqb w.step 0) refl refl refl
    where
      off : (other : Result Allowed Fault) → cond (not l.wraps) (refuses reversed column) other ≡ refuses reversed column
      off other = ap (λ (w : Bool). cond (not w) (refuses reversed column) other) p.rises

      here : outside l w.high ≡ false → ltb w.high w.low ≡ false → eqb w.step 0 ≡ false
          → including l y.set (range_of l w.low w.high w.step) ≡ first_including l y.set (values_of w.low w.high w.step)
      here o r z =
          let order = ltb-false w.high w.low r in
          ap (λ (last : ℕ). including l y.set (values_of w.low last w.step)) (last-rising l w.low w.high order)
          ∙ including-first y.set (values_of w.low w.high w.step)
          (λ v e.
          let q = in-range w.low w.high w.step v (sym (steps-members w.low w.high w.step v order (let n = eqb-false w.step 0 z in omega (arith, n))) ∙ e) in
          omega (arith, q.1, (inside l w.high o).1))

      go : (o r z : Bool) → (outside l w.low || outside l w.high) ≡ o → ltb w.high w.low ≡ r → eqb w.step 0 ≡ z
          → cond o (refuses out_of_limits column) (cond (r && not l.wraps) (refuses reversed column) (cond z (refuses step_zero column) (means (including l y.set (range_of l w.low w.high w.step)) y.star)))
          ≡ cond o (refuses out_of_limits column) (cond r (refuses reversed column) (cond z (refuses step_zero column) (means (first_including l y.set (values_of w.low w.high w.step)) y.star)))
      go true r z a b c = refl
      go false true z a b c = off (cond z (refuses step_zero column) (means (including l y.set (range_of l w.low w.high w.step)) y.star))
      go false false true a b c = refl
      go false false false a b c =
          ap (λ (x : ℕ). means x y.star) (here ((or-eq-false-eq-eq-false-and-eq-false (outside l w.low) (outside l w.high)).0 a).1 b c)

  -- ---- a field

  are-first : (ps : List (List ℕ)) → are_elements l ps ≡ are_first l.names ps
  unfolding are_elements are_first
  are-first [] = refl
  are-first (s ∷ ps) = rw (element-first s, are-first ps)

  all_first : (column : ℕ) (a : Result Allowed Fault) (ps : List (List ℕ)) → judged_all l column a ps ≡ first_judged_all l column a ps
  unfolding judged_all first_judged_all
  all_first column a [] = refl
  all_first column a (s ∷ ps) =
      ap (λ (b : Result Allowed Fault). judged_all l (column + length s + 1) b ps) (ap (judged l column a) (element-first s) ∙ judged-first column a (first_element l.names s))
      ∙ all_first (column + length s + 1) (first_judged l column a (first_element l.names s)) ps

  list-first : (column : ℕ) (s : List ℕ) → list_field l column s ≡ first_list l column s
  unfolding list_field first_list
  list-first column s = rw (are-first (split 44 s), all_first column (means 0 false) (split 44 s))

  plain-first : (column : ℕ) (s : List ℕ) → read_field l column s ≡ first_field l column s
  unfolding read_field star_field first_field
  plain-first column [] = refl
  plain-first column (b ∷ s) = rw (judged-first column (means 0 true) (star_element l s), list-first column (b ∷ s))

  -- a field in the first dialect
  pub first-dialect-same : (column : ℕ) (s : List ℕ) → read_field (in_dialect Rising l) column s ≡ first_field l column s
  unfolding in_dialect
  first-dialect-same = plain-first

-- the five fields

pub minute-plain : Plain minute_limits
minute-plain = search rules

pub hour-plain : Plain hour_limits
hour-plain = search rules

pub day-plain : Plain day_limits
day-plain = search rules

pub month-plain : Plain month_limits
month-plain = search rules

pub weekday-plain : Plain weekday_limits
weekday-plain = search rules
