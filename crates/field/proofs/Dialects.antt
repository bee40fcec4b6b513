-- The two dialects of a field: `*` and `*/n` give the same sets in both, so what is read in either may be written, and what may be
-- written is read back in either.
-- Assumes nothing.
use mathlib.Core.Path.{◌≡◌, refl, sym, ap, ◌∙◌}
use mathlib.Core.Bool.{Bool, true, false, ◌&&◌, ◌||◌, not, or-false, and-eq-true_iff}
use mathlib.Core.List.{List, [], ◌∷◌, map}
use Prim.Native.Nat.{ℕ, ◌-◌, ◌%◌, ◌^◌, ◌≤◌, ◌<◌}
use native.Mathlib.Nat.{lt_of_not-le}
use native.Mathlib.Decide.{dec_le}
use native.Mathlib.Omega.{arith}
use lib.Dec.{eqb, leb}
use lib.Pow.{pow_pos}
use borrow.Author.Tests.{eq-eqb, ne_eqb, eqb-true, eqb-false, not-true, le-leb, lt-leb, le-ltb}
use Rattle.octets.specs.Sets.{has_bit, put}
use Rattle.octets.proofs.Sets.{none_has, same_bits}
use Rattle.field.specs.declared.Dialect.{Dialect}
use Rattle.field.specs.declared.Dialect.TheVariants.{Rising, Wrapping}
use Rattle.field.specs.declared.Limits.{Limits}
use Rattle.field.specs.Limits.{in_dialect}
use Rattle.field.specs.Values.{values_of, range_of, bit_of, including}
use Rattle.field.specs.Members.{is_in, distance, is_in_range, element_bits}
use Rattle.field.specs.Fields.{read_field}
use Rattle.field.specs.Written.{star_set, gives, step_of, members, list_text, field_text, is_field}
use Rattle.field.proofs.UsualLimits.{Usual, bit-value, dialect-usual}
use Rattle.field.proofs.Accepted.{Accepted}
use Rattle.field.proofs.Members.{including-has}
use Rattle.field.proofs.Steps.{last-rising}
use Rattle.field.proofs.Ranges.{values-members}
use Rattle.field.proofs.SetBounds.{including-fits, values-within, range-reached}
use Rattle.field.proofs.StarTexts.{star-back, star-read, step-least, step_gives}
use Rattle.field.proofs.ListTexts.{Inside, members-inside, members-build, set-some}
use Rattle.field.proofs.RoundTrip as plain
use Rattle.field.proofs.RoundTrip.{listed}
use Rattle.field.specs.Judgement.{means}

-- ---- the set of a step, by its bits

module _ (l : Limits) (u : Usual l) (n : ℕ) (some : 1 ≤ n) where
  whole : Accepted l l.first l.last n
  whole = record { from = omega arith; below = u.order; above = u.order; to = omega arith; steps = omega arith }

  star-is : star_set l n ≡ including l 0 (range_of l l.first l.last n)
  unfolding star_set range_of
  star-is = ap (λ (last : ℕ). including l 0 (values_of l.first last n)) (sym (last-rising l l.first l.last u.order))

  star-fits : star_set l n < 2 ^ l.bits
  star-fits = rw star-is (including-fits l 0 _ (pow_pos l.bits) (range-reached l u whole))

  abbrev values : List ℕ
  values = range_of l l.first l.last n

  module _ (v : ℕ) (h : v < l.bits) where
    word : v < 64
    word = omega (arith, h, u.word, u.within)

    from_first : l.first ≤ v → is_in v (map (bit_of l) values) ≡ (leb l.first v && eqb ((v - l.first) % n) 0)
    unfolding element_bits is_in_range distance
    from_first k =
        values-members l u whole v k h
        ∙ rw (le-ltb v l.first k, le-ltb l.last l.first u.order, le-leb (v - l.first) (l.last - l.first) (omega (arith, h, u.within)), le-leb l.first v k)

    before-first : v < l.first → is_in v (map (bit_of l) values) ≡ (leb l.first v && eqb ((v - l.first) % n) 0)
    before-first k = rw (lt-leb l.first v k) (go (is_in v (map (bit_of l) values)) refl)
      where
        go : (t : Bool) → is_in v (map (bit_of l) values) ≡ t → t ≡ false
        go false e = refl
        go true e =
            let w = values-within l u v word values (range-reached l u whole) e in
            let b = bit-value l w.value w.from (omega (arith, w.to, u.enough, u.some)) in
            absurd (omega (arith, b.0, w.bit, k))

    -- a value is in it exactly if it is a multiple of the step after the first
    pub star-has : has_bit (star_set l n) v ≡ (leb l.first v && eqb ((v - l.first) % n) 0)
    star-has =
        ap (λ (set : ℕ). has_bit set v) star-is
        ∙ including-has v word l 0 values
        ∙ ap (λ (t : Bool). is_in v (map (bit_of l) values) || t) (none_has v)
        ∙ or-false (is_in v (map (bit_of l) values))
        ∙ elim (dec_le l.first v) [ yes k ↦ from_first k | no k ↦ before-first (lt_of_not-le k) ]

-- ---- the second dialect beside the first

module _ (l : Limits) (u : Usual l) where
  abbrev there : Limits
  there = in_dialect Wrapping l

  usual : Usual there
  usual = dialect-usual l u Wrapping

  pub star-wraps : (n : ℕ) → 1 ≤ n → star_set there n ≡ star_set l n
  unfolding in_dialect
  star-wraps n h = same_bits l.bits (star-fits there usual n h) (star-fits l u n h) (λ v k. star-has there usual n h v k ∙ sym (star-has l u n h v k))

  pub including-wraps : (set : ℕ) (vs : List ℕ) → including there set vs ≡ including l set vs
  unfolding including bit_of in_dialect
  including-wraps set [] = refl
  including-wraps set (v ∷ vs) = including-wraps (put set (bit_of l v)) vs

  build-wraps : (column : ℕ) (s : List ℕ) {set : ℕ} {star : Bool} → read_field there column s ≡ means set star → including there 0 (members l set) ≡ set
  unfolding members in_dialect
  build-wraps column s q = members-build there usual column s q

  proper-wraps : (column : ℕ) (s : List ℕ) {set : ℕ} {star : Bool} → read_field there column s ≡ means set star → is_field l set star ≡ true
  unfolding is_field
  proper-wraps column s {set} {star = true} q =
      let r = star-read there usual.order column s q in
      step_gives l u.order set r.0 r.1 (sym (star-wraps r.0 r.1) ∙ r.2)
  proper-wraps column s {set} {star = false} q =
      rw (ne_eqb set 0 (set-some there usual column s q)) (eq-eqb _ set (sym (including-wraps 0 (members l set)) ∙ build-wraps column s q))

  listed-wraps : (column set : ℕ) (vs : List ℕ) → Inside l vs → including l 0 vs ≡ set → (set ≡ 0 → ⊥) → read_field there column (list_text vs) ≡ means set false
  unfolding in_dialect
  listed-wraps column set vs h e z = listed there usual column set vs h (including-wraps 0 vs ∙ e) z

  back-wraps : (column set : ℕ) (star : Bool) → is_field l set star ≡ true → read_field there column (field_text l set star) ≡ means set star
  unfolding is_field field_text gives
  back-wraps column set true e =
      let n = step-least l u.order set in
      star-back there usual.order column (step_of l set) n.low (omega (arith, n.high, u.word))
      ∙ ap (λ (x : ℕ). means x true) (star-wraps (step_of l set) n.low ∙ eqb-true (star_set l (step_of l set)) set e)
  back-wraps column set false e =
      let t = (and-eq-true_iff (not (eqb set 0)) (eqb (including l 0 (members l set)) set)).0 e in
      listed-wraps column set (members l set) (members-inside l set) (eqb-true _ set t.1) (eqb-false set 0 (not-true (eqb set 0) t.0))

  -- what is read in either dialect may be written
  pub field-proper : (d : Dialect) (column : ℕ) (s : List ℕ) {set : ℕ} {star : Bool} → read_field (in_dialect d l) column s ≡ means set star
      → is_field l set star ≡ true
  unfolding in_dialect
  field-proper Rising column s q = plain.field-proper l u column s q
  field-proper Wrapping column s q = proper-wraps column s q

  -- and what may be written is read back in either
  pub field_back : (d : Dialect) (column set : ℕ) (star : Bool) → is_field l set star ≡ true
      → read_field (in_dialect d l) column (field_text l set star) ≡ means set star
  unfolding in_dialect
  field_back Rising column set star e = plain.field_back l u column set star e
  field_back Wrapping column set star e = back-wraps column set star e
