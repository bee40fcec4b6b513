-- Fields that aren't flagged: the text of values is read as the set that they build, and a set that was read is built by its values.
-- Assumes nothing.
use Rattle.std.specs.Prelude.{Option, None, Some}
use mathlib.Core.Path.{◌≡◌, refl, sym, ap, ◌∙◌}
use mathlib.Core.Bool.{Bool, true, false, cond, ◌&&◌, ◌||◌, false≢true, and-false, or-false, or-true}
use mathlib.Core.List.{List, [], ◌∷◌, ◌++◌, map}
use Prim.Native.Nat.{ℕ, zero, suc, ◌+◌, ◌-◌, ◌≤◌, ◌<◌}
use native.Mathlib.Nat.{sub_self}
use native.Mathlib.Decide.{dec_le}
use native.Mathlib.Omega.{arith}
use lib.Dec.{eqb}
use lib.ListN.{length}
use lib.Pow.{pow_pos}
use borrow.Author.Tests.{le-ltb, eq-eqb, ne_eqb, eqb-true}
use Rattle.octets.specs.Digits.{number_text}
use Rattle.octets.specs.Sets.{has_bit, put, from_on}
use Rattle.octets.proofs.Each.{Each, each-so}
use Rattle.octets.proofs.Digits.{number-bytes, number-some}
use Rattle.octets.proofs.Sets.{none_has, same_bits}
use Rattle.field.specs.declared.Limits.{Limits}
use Rattle.field.specs.declared.element.Element.{Element}
use Rattle.field.specs.Parts.{split}
use Rattle.field.specs.Elements.{from_to, is_element, element_of}
use Rattle.field.specs.Values.{every_step, values_of, last_of, range_of, bit_of, including}
use Rattle.field.specs.Judgement.{means, outside, judged}
use Rattle.field.specs.Fields.{are_elements, judged_all, list_field, star_element, read_field}
use Rattle.field.specs.Members.{is_in, elements_of, element_bits, bits_of}
use Rattle.field.specs.Written.{having, members, after_commas, list_text}
use Rattle.field.proofs.Accepted as accepted
use Rattle.field.proofs.Views.{read-values}
use Rattle.field.proofs.Members.{including-has, set-members}
use Rattle.field.proofs.SetBounds.{including-fits, set-fits, set-within}
use Rattle.field.proofs.Steps.{own-bit}
use Rattle.field.proofs.UsualLimits.{Usual, bit-value}
use Rattle.field.proofs.NumberTexts.{element-back, list-parts}

-- values of the limits with their own bits
abbrev pub Inside : Limits → List ℕ → Type 0
Inside l vs = Each (λ (v : ℕ). (l.first ≤ v) × (v < l.bits)) vs

-- ---- the values of a set

-- a value is a member just where the set has it
pub from-has : (n v k : ℕ) → v ≤ n → n < v + k → is_in n (from_on v k) ≡ true
unfolding from_on is_in
from-has n v zero h k = absurd (omega arith)
from-has n v (suc count) h k = elim (dec_le n v) [ yes i ↦ let e : v ≡ n = omega arith in rw (eq-eqb v n e) | no i ↦ rw (from-has n (suc v) count (omega arith) (omega arith)) (or-true (eqb v n)) ]

pub having-has : (set n : ℕ) (vs : List ℕ) → is_in n (having set vs) ≡ (is_in n vs && has_bit set n)
unfolding having is_in
having-has set n [] = refl
having-has set n (v ∷ vs) = go (has_bit set v) (eqb v n) refl refl (having-has set n vs)
  where
    go : (b t : Bool) → has_bit set v ≡ b → eqb v n ≡ t → is_in n (having set vs) ≡ (is_in n vs && has_bit set n)
        → is_in n (cond b (v ∷ having set vs) (having set vs)) ≡ ((t || is_in n vs) && has_bit set n)
    go true true p q e = rw q (sym (rw (eqb-true v n q) at p))
    go true false p q e = rw q e
    go false true p q e = let f : has_bit set n ≡ false = rw (eqb-true v n q) at p in rw f (rw f at e ∙ and-false (is_in n vs))
    go false false p q e = e

module _ (l : Limits) where
  pub from-inside : (v n : ℕ) → l.first ≤ v → v + n ≤ l.first + (l.bits - l.first) → Inside l (from_on v n)
  unfolding from_on
  from-inside v zero h k = tt
  from-inside v (suc n) h k = ((h, omega arith), from-inside (suc v) n (omega arith) (omega arith))

  having-each : (set : ℕ) (vs : List ℕ) → Inside l vs → Inside l (having set vs)
  unfolding having
  having-each set [] h = tt
  having-each set (v ∷ vs) h = go (has_bit set v) (having-each set vs h.1)
    where
      go : (t : Bool) → Inside l (having set vs) → Inside l (cond t (v ∷ having set vs) (having set vs))
      go true more = (h.0, more)
      go false more = more

  pub members-inside : (set : ℕ) → Inside l (members l set)
  unfolding members
  members-inside set = having-each set _ (from-inside l.first (l.bits - l.first) (omega arith) (omega arith))

  pub inside-in : (vs : List ℕ) (v : ℕ) → Inside l vs → is_in v vs ≡ true → (l.first ≤ v) × (v < l.bits)
  unfolding is_in
  inside-in [] v h e = absurd (false≢true e)
  inside-in (w ∷ vs) v h e = go (eqb w v) refl e (λ k. inside-in vs v h.1 k)
    where
      go : (t : Bool) → eqb w v ≡ t → (t || is_in v vs) ≡ true → (is_in v vs ≡ true → (l.first ≤ v) × (v < l.bits)) → (l.first ≤ v) × (v < l.bits)
      go true q e later = rw (eqb-true w v q) at h.0
      go false q e later = later e

  pub own_bits : (vs : List ℕ) → Inside l vs → map (bit_of l) vs ≡ vs
  own_bits [] h = refl
  own_bits (v ∷ vs) h = rw (own-bit l v h.0.1, own_bits vs h.1)

-- ---- the text of values

module _ (l : Limits) (u : Usual l) where
  small : (vs : List ℕ) → Inside l vs → Each (λ (v : ℕ). v < 100) vs
  small vs h = each-so _ _ (λ v i. omega (arith, i.1, u.word, u.within)) vs h

  judged-one : (column set v : ℕ) → l.first ≤ v → v < l.bits → judged l column (means set false) (from_to v v 1) ≡ means (put set (bit_of l v)) false
  unfolding judged outside last_of values_of every_step including range_of
  judged-one column set v h k =
      rw (le-ltb v l.first h, le-ltb l.last v (omega (arith, u.within)), le-ltb v v (omega arith), sub_self v)

  judged-list : (column set : ℕ) (vs : List ℕ) → Inside l vs → judged_all l column (means set false) (map number_text vs) ≡ means (including l set vs) false
  unfolding judged_all including
  judged-list column set [] h = refl
  judged-list column set (v ∷ vs) h =
      ap (λ (a : _). judged_all l (column + length (number_text v) + 1) a (map number_text vs))
      (ap (judged l column (means set false)) (element-back l v (omega (arith, h.0.1, u.word, u.within))) ∙ judged-one column set v h.0.0 h.0.1)
      ∙ judged-list (column + length (number_text v) + 1) (put set (bit_of l v)) vs h.1

  are-elements : (vs : List ℕ) → Inside l vs → are_elements l (map number_text vs) ≡ true
  unfolding are_elements is_element
  are-elements [] h = refl
  are-elements (v ∷ vs) h = rw (element-back l v (omega (arith, h.0.1, u.word, u.within))) (are-elements vs h.1)

  -- a text that begins with a digit is a list
  from-digit : (column : ℕ) (t s : List ℕ) → 1 ≤ length t → Each (λ (b : ℕ). (48 ≤ b) × (b ≤ 57)) t → read_field l column (t ++ s) ≡ list_field l column (t ++ s)
  unfolding read_field
  from-digit column [] s h e = absurd (omega arith)
  from-digit column (b ∷ t) s h e = rw (ne_eqb b 42 (λ q. omega (arith, q, e.0.0)))

  module _ (column v : ℕ) (vs : List ℕ) (h : Inside l (v ∷ vs)) where
    list-begins : read_field l column (list_text (v ∷ vs)) ≡ list_field l column (list_text (v ∷ vs))
    unfolding list_text
    list-begins = from-digit column (number_text v) (after_commas vs) (number-some v) (number-bytes v (small (v ∷ vs) h).0)

    pub list_back : read_field l column (list_text (v ∷ vs)) ≡ means (including l 0 (v ∷ vs)) false
    unfolding list_field
    list_back =
        list-begins ∙ rw (list-parts v vs (small (v ∷ vs) h), are-elements (v ∷ vs) h) (judged-list column 0 (v ∷ vs) h)

  -- ---- a set that was read

  -- the first value of the first element
  occupied : (es : List (Option Element)) → 1 ≤ length es → accepted.Each l es → (v : ℕ) × (l.first ≤ v) × (v ≤ l.last) × (is_in (bit_of l v) (bits_of l es) ≡ true)
  unfolding bits_of element_bits values_of every_step is_in range_of
  occupied [] h k = absurd (omega arith)
  occupied (None ∷ es) h k = absurd k.0
  occupied (Some w ∷ es) h k =
      (w.low, k.0.from, k.0.below, rw (eq-eqb (bit_of l w.low) (bit_of l w.low) refl))

  elements-some : (column : ℕ) (s : List ℕ) {set : ℕ} {star : Bool} → read_field l column s ≡ means set star → 1 ≤ length (elements_of l s)
  unfolding elements_of read_field split
  elements-some column [] e = absurd (let z : ◌≡◌ {A = ℕ} 0 1 = cc in omega arith)
  elements-some column (b ∷ s) e = go (eqb b 42)
    where
      go : (t : Bool) → 1 ≤ length (cond t (star_element l s ∷ []) (map (element_of l) (split 44 (b ∷ s))))
      go true = omega arith
      go false = omega arith

  module _ (column : ℕ) (s : List ℕ) {set : ℕ} {star : Bool} (q : read_field l column s ≡ means set star) where
    bit_kept : (n : ℕ) → n < l.bits → has_bit (including l 0 (members l set)) n ≡ has_bit set n
    unfolding members
    bit_kept n h =
        including-has n (omega (arith, u.word, u.within)) l 0 (members l set)
        ∙ rw (none_has n, own_bits l (members l set) (members-inside l set)) (or-false _)
        ∙ having-has set n (from_on l.first (l.bits - l.first))
        ∙ go (has_bit set n) refl
      where
        go : (t : Bool) → has_bit set n ≡ t → (is_in n (from_on l.first (l.bits - l.first)) && t) ≡ t
        go true e =
            let w = set-within l u n (omega (arith, u.word, u.within)) column s q e in
            let b = bit-value l w.value w.from (omega (arith, w.to, u.enough, u.some)) in
            rw (from-has n l.first (l.bits - l.first) (omega (arith, b.0, w.bit)) (omega arith))
        go false e = and-false (is_in n (from_on l.first (l.bits - l.first)))

    pub members-build : including l 0 (members l set) ≡ set
    members-build =
        same_bits l.bits
        (including-fits l 0 (members l set) (pow_pos l.bits) (λ v e. let i = inside-in l (members l set) v (members-inside l set) e in (i.0, omega (arith, i.1, u.some))))
        (set-fits l u column s q)
        bit_kept

    pub set-some : set ≡ 0 → ⊥
    set-some z =
        let o = occupied (elements_of l s) (elements-some column s q) (read-values l column s q).accepted in
        let b = bit-value l o.0 o.1 (omega (arith, o.2, u.enough, u.some)) in
        let k : bit_of l o.0 < 64 = omega (arith, b.1, u.word, u.within) in
        false≢true (sym (ap (λ (x : ℕ). has_bit x (bit_of l o.0)) z ∙ none_has (bit_of l o.0)) ∙ set-members (bit_of l o.0) k l column s q ∙ o.3)
