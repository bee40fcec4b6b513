-- What both dialects read alike, of any length: a field has refusal 5 in one exactly if it has it in the other; and a field that begins with `*`, or
-- whose ranges all rise and have no 7 (nor `sun` as an upper end), gets the same answer in both, whatever it is.
-- Assumes nothing.
use Rattle.std.specs.Prelude.{Option, Some, None, Ok, Err, Result}
use mathlib.Core.Path.{◌≡◌, refl, sym, ap, ◌∙◌}
use mathlib.Core.Bool.{Bool, true, false, cond, not, ◌&&◌, true≢false}
use mathlib.Core.List.{List, [], ◌∷◌}
use Prim.Native.Nat.{ℕ, ◌+◌, ◌-◌, ◌≤◌, ◌<◌}
use native.Mathlib.Nat.{lt_of_not-le}
use native.Mathlib.Decide.{dec_le}
use native.Mathlib.Omega.{arith}
use lib.Dec.{eqb}
use lib.ListN.{length}
use borrow.Author.Tests.{le-ltb}
use Rattle.field.specs.declared.Dialect.TheVariants.{Wrapping}
use Rattle.field.specs.declared.Limits.{Limits}
use Rattle.field.specs.declared.Names.{Names}
use Rattle.field.specs.declared.Names.TheVariants.{Months, Weekdays}
use Rattle.field.specs.declared.Names.TheVariants as names
use Rattle.field.specs.declared.Allowed.{Allowed}
use Rattle.field.specs.declared.Fault.{Fault}
use Rattle.field.specs.declared.element.Element.{Element}
use Rattle.field.specs.Limits.{minute_limits, hour_limits, day_limits, month_limits, weekday_limits, in_dialect}
use Rattle.field.specs.Parts.{contains, before, after, split}
use Rattle.field.specs.Numbers.{number_of}
use Rattle.field.specs.Names.{weekday_names, named, name_of, is_sunday}
use Rattle.field.specs.Elements.{from_to, ranging, is_element, number_or, end_of, upper_of, after_dash, element_of}
use Rattle.field.specs.Values.{values_of, range_of}
use Rattle.field.specs.Judgement.{means, outside, judged}
use Rattle.field.specs.Members.{is_star}
use Rattle.field.specs.Fields.{comma, are_elements, judged_all, list_field, star_element, star_field, read_field}
use Rattle.field.proofs.UsualLimits.{Usual, dialect-usual}
use Rattle.field.proofs.Steps.{last-rising}
use Rattle.field.proofs.StarTexts.{judged-star}
use Rattle.field.proofs.StarFields.{step-none}
use Rattle.field.proofs.Dialects.{star-wraps, including-wraps}
use Rattle.field.proofs.Composition.{is_malformed, judged-form, list-form}

-- ---- which bytes are an element

abbrev is_value : Option ℕ → Bool
is_value (Some n) = true
is_value None = false

ranging-form : (a b c : Option ℕ) → is_element (ranging a b c) ≡ (is_value a && (is_value b && is_value c))
unfolding ranging is_element
ranging-form (Some a) (Some b) (Some c) = refl
ranging-form (Some a) (Some b) None = refl
ranging-form (Some a) None c = refl
ranging-form None b c = refl

sunday-value : (names : Names) (s : List ℕ) → is_sunday names s ≡ true → is_value (end_of names s) ≡ true
unfolding is_sunday end_of number_or name_of weekday_names named
sunday-value names.None s e = let z : ◌≡◌ {A = ℕ} 0 1 = cc in absurd (omega arith)
sunday-value Months s e = let z : ◌≡◌ {A = ℕ} 0 1 = cc in absurd (omega arith)
sunday-value Weekdays s e = rw e (go (number_of s))
  where
    go : (n : Option ℕ) → is_value (number_or n (Some 0)) ≡ true
    go (Some n) = refl
    go None = refl

module _ (l : Limits) (rises : l.wraps ≡ false) where
  abbrev there : Limits
  there = in_dialect Wrapping l

  upper-form : (low high : List ℕ) → is_value (upper_of there low high) ≡ is_value (upper_of l low high)
  unfolding upper_of in_dialect
  upper-form low high = rw rises (go (is_sunday l.names high) (is_sunday l.names low) refl)
    where
      go : (t u : Bool) → is_sunday l.names high ≡ t
          → is_value (cond ((t && not u) && not true) (Some 7) (end_of l.names high)) ≡ is_value (cond ((t && not u) && not false) (Some 7) (end_of l.names high))
      go true true e = refl
      go true false e = sunday-value l.names high e
      go false u e = refl

  element-form : (s : List ℕ) → is_element (element_of there s) ≡ is_element (element_of l s)
  unfolding element_of after_dash in_dialect
  element-form s = go (contains 45 s) (contains 47 (after 45 s))
    where
      a : Option ℕ
      a = end_of l.names (before 45 s)

      ranged : (high : List ℕ) (k : Option ℕ) → is_element (ranging a (upper_of there (before 45 s) high) k) ≡ is_element (ranging a (upper_of l (before 45 s) high) k)
      ranged high k =
          ranging-form a (upper_of there (before 45 s) high) k
          ∙ ap (λ (v : Bool). is_value a && (v && is_value k)) (upper-form (before 45 s) high)
          ∙ sym (ranging-form a (upper_of l (before 45 s) high) k)

      go : (t u : Bool)
          → is_element (cond t (cond u (ranging a (upper_of there (before 45 s) (before 47 (after 45 s))) (number_of (after 47 (after 45 s)))) (ranging a (upper_of there (before 45 s) (after 45 s)) (Some 1))) (ranging (end_of l.names s) (end_of l.names s) (Some 1)))
          ≡ is_element (cond t (cond u (ranging a (upper_of l (before 45 s) (before 47 (after 45 s))) (number_of (after 47 (after 45 s)))) (ranging a (upper_of l (before 45 s) (after 45 s)) (Some 1))) (ranging (end_of l.names s) (end_of l.names s) (Some 1)))
      go true true = ranged (before 47 (after 45 s)) (number_of (after 47 (after 45 s)))
      go true false = ranged (after 45 s) (Some 1)
      go false u = refl

  elements-form : (ps : List (List ℕ)) → are_elements there ps ≡ are_elements l ps
  unfolding are_elements
  elements-form [] = refl
  elements-form (p ∷ ps) = rw (element-form p, elements-form ps) refl

  star-form : (s : List ℕ) → is_element (star_element there s) ≡ is_element (star_element l s)
  unfolding star_element ranging is_element
  star-form [] = refl
  star-form (x ∷ s) = go (eqb x 47) (number_of s)
    where
      go : (t : Bool) (n : Option ℕ)
          → is_element (cond t (ranging (Some there.first) (Some there.last) n) None) ≡ is_element (cond t (ranging (Some l.first) (Some l.last) n) None)
      go true (Some n) = refl
      go true None = refl
      go false n = refl

  -- 5 in one exactly if in the other
  pub form-in-both : (column : ℕ) (s : List ℕ) → is_malformed (read_field there column s) ≡ is_malformed (read_field l column s)
  unfolding read_field star_field
  form-in-both column [] = refl
  form-in-both column (b ∷ s) = go (eqb b 42)
    where
      go : (t : Bool) → is_malformed (cond t (judged there column (means 0 true) (star_element there s)) (list_field there column (b ∷ s)))
          ≡ is_malformed (cond t (judged l column (means 0 true) (star_element l s)) (list_field l column (b ∷ s)))
      go true = judged-form there column 0 true (star_element there s) ∙ ap not (star-form s) ∙ sym (judged-form l column 0 true (star_element l s))
      go false = list-form there column (b ∷ s) ∙ ap not (elements-form (split 44 (b ∷ s))) ∙ sym (list-form l column (b ∷ s))

-- ---- the same answer

-- a range that rises and ends at a value with a bit of its own
abbrev pub RisesBelow : Limits → Option Element → Type 0
RisesBelow l (Some w) = (w.low ≤ w.high) × (w.high < l.bits)
RisesBelow l None = Unit {0}

abbrev pub EachBelow : Limits → List (List ℕ) → Type 0
EachBelow l [] = Unit {0}
EachBelow l (p ∷ ps) = RisesBelow l (element_of l p) × EachBelow l ps

-- where there is a Sunday, 7 has no bit of its own
abbrev pub SundayBits : Limits → Type 0
SundayBits l = (s : List ℕ) → is_sunday l.names s ≡ true → l.bits ≤ 7

module _ (l : Limits) (u : Usual l) (rises : l.wraps ≡ false) (sundays : SundayBits l) where
  range_same : (a k : Option ℕ) (low high : List ℕ) → RisesBelow l (ranging a (upper_of l low high) k)
      → ranging a (upper_of (there l rises) low high) k ≡ ranging a (upper_of l low high) k
  unfolding upper_of in_dialect ranging
  range_same a k low high = go (is_sunday l.names high) (is_sunday l.names low) l.wraps rises (sundays high)
    where
      seven : (a e k : Option ℕ) → l.bits ≤ 7 → RisesBelow l (ranging a (Some 7) k) → ranging a e k ≡ ranging a (Some 7) k
      seven (Some n) e (Some m) h r = absurd (omega (arith, r.1, h))
      seven (Some n) (Some e) None h r = refl
      seven (Some n) None None h r = refl
      seven None e k h r = refl

      go : (t v w : Bool) → w ≡ false → (t ≡ true → l.bits ≤ 7) → RisesBelow l (ranging a (cond ((t && not v) && not w) (Some 7) (end_of l.names high)) k)
          → ranging a (cond ((t && not v) && not true) (Some 7) (end_of l.names high)) k ≡ ranging a (cond ((t && not v) && not w) (Some 7) (end_of l.names high)) k
      go t v true e h r = absurd (true≢false e)
      go true true false e h r = refl
      go true false false e h r = seven a (end_of l.names high) k (h refl) r
      go false v false e h r = refl

  element-same : (s : List ℕ) → RisesBelow l (element_of l s) → element_of (there l rises) s ≡ element_of l s
  unfolding element_of after_dash in_dialect
  element-same s = go (contains 45 s) (contains 47 (after 45 s))
    where
      a : Option ℕ
      a = end_of l.names (before 45 s)

      go : (t v : Bool)
          → RisesBelow l (cond t (cond v (ranging a (upper_of l (before 45 s) (before 47 (after 45 s))) (number_of (after 47 (after 45 s)))) (ranging a (upper_of l (before 45 s) (after 45 s)) (Some 1))) (ranging (end_of l.names s) (end_of l.names s) (Some 1)))
          → cond t (cond v (ranging a (upper_of (there l rises) (before 45 s) (before 47 (after 45 s))) (number_of (after 47 (after 45 s)))) (ranging a (upper_of (there l rises) (before 45 s) (after 45 s)) (Some 1))) (ranging (end_of l.names s) (end_of l.names s) (Some 1))
          ≡ cond t (cond v (ranging a (upper_of l (before 45 s) (before 47 (after 45 s))) (number_of (after 47 (after 45 s)))) (ranging a (upper_of l (before 45 s) (after 45 s)) (Some 1))) (ranging (end_of l.names s) (end_of l.names s) (Some 1))
      go true true r = range_same a (number_of (after 47 (after 45 s))) (before 45 s) (before 47 (after 45 s)) r
      go true false r = range_same a (Some 1) (before 45 s) (after 45 s) r
      go false v r = refl

  outside-same : (n : ℕ) → n < l.bits → outside (there l rises) n ≡ outside l n
  unfolding outside in_dialect
  outside-same n h = rw (le-ltb (l.bits - 1) n (omega arith), le-ltb l.last n (omega (arith, u.within))) refl

  judged-same : (column : ℕ) (a : Result Allowed Fault) (e : Option Element) → RisesBelow l e → judged (there l rises) column a e ≡ judged l column a e
  unfolding judged range_of
  judged-same column (Err fault) e r = refl
  judged-same column (Ok v) None r = refl
  judged-same column (Ok v) (Some w) r =
      rw (outside-same w.low (omega arith), outside-same w.high r.1, le-ltb w.high w.low r.0, last-rising (there l rises) w.low w.high r.0, last-rising l w.low w.high r.0, including-wraps l u v.set (values_of w.low w.high w.step))
      refl

  all_same : (column : ℕ) (a : Result Allowed Fault) (ps : List (List ℕ)) → EachBelow l ps → judged_all (there l rises) column a ps ≡ judged_all l column a ps
  unfolding judged_all
  all_same column a [] h = refl
  all_same column a (p ∷ ps) h =
      let next = column + length p + 1 in
      ap (λ (e : Option Element). judged_all (there l rises) next (judged (there l rises) column a e) ps) (element-same p h.0)
      ∙ ap (λ (x : Result Allowed Fault). judged_all (there l rises) next x ps) (judged-same column a (element_of l p) h.0)
      ∙ all_same next (judged l column a (element_of l p)) ps h.1

  list_same : (column : ℕ) (s : List ℕ) → EachBelow l (split 44 s) → list_field (there l rises) column s ≡ list_field l column s
  unfolding list_field
  list_same column s h = rw (elements-form l rises (split 44 s), all_same column (means 0 false) (split 44 s) h) refl

  step_same : (column n : ℕ)
      → judged (there l rises) column (means 0 true) (from_to (there l rises).first (there l rises).last n) ≡ judged l column (means 0 true) (from_to l.first l.last n)
  step_same column n = elim (dec_le 1 n) [ yes h ↦ some h | no h ↦ none (omega (arith, lt_of_not-le h)) ]
    where
      usual : Usual (there l rises)
      usual = dialect-usual l u Wrapping

      some : 1 ≤ n → judged (there l rises) column (means 0 true) (from_to (there l rises).first (there l rises).last n) ≡ judged l column (means 0 true) (from_to l.first l.last n)
      some h =
          judged-star (there l rises) usual.order column n h
          ∙ ap (λ (x : ℕ). means x true) (star-wraps l u n h)
          ∙ sym (judged-star l u.order column n h)

      none : n ≡ 0 → judged (there l rises) column (means 0 true) (from_to (there l rises).first (there l rises).last n) ≡ judged l column (means 0 true) (from_to l.first l.last n)
      none e = rw e (step-none (there l rises) usual.order column ∙ sym (step-none l u.order column))

  star-same : (column : ℕ) (s : List ℕ) → star_field (there l rises) column s ≡ star_field l column s
  unfolding star_field star_element ranging judged
  star-same column [] = step_same column 1
  star-same column (x ∷ s) = go (eqb x 47) (number_of s)
    where
      go : (t : Bool) (n : Option ℕ)
          → judged (there l rises) column (means 0 true) (cond t (ranging (Some (there l rises).first) (Some (there l rises).last) n) None)
          ≡ judged l column (means 0 true) (cond t (ranging (Some l.first) (Some l.last) n) None)
      go true (Some n) = step_same column n
      go true None = refl
      go false n = refl

  -- the whole answer, with its set or its refusal and column
  pub same-in-both : (column : ℕ) (s : List ℕ) → (is_star s ≡ false → EachBelow l (split comma s))
      → read_field (in_dialect Wrapping l) column s ≡ read_field l column s
  unfolding read_field is_star
  same-in-both column [] h = refl
  same-in-both column (b ∷ s) h = go (eqb b 42) h
    where
      go : (t : Bool) → (t ≡ false → EachBelow l (split 44 (b ∷ s)))
          → cond t (star_field (there l rises) column s) (list_field (there l rises) column (b ∷ s)) ≡ cond t (star_field l column s) (list_field l column (b ∷ s))
      go true h = star-same column s
      go false h = list_same column (b ∷ s) (h refl)

-- ---- the five fields have these limits

no-sunday : (l : Limits) (names : Names) → ((s : List ℕ) → is_sunday names s ≡ false) → (s : List ℕ) → is_sunday names s ≡ true → l.bits ≤ 7
no-sunday l names none s e = let z : ◌≡◌ {A = ℕ} 0 1 = ap (λ (b : Bool). cond b 1 0) (sym (none s) ∙ e) in absurd (omega arith)

pub minute-sunday : SundayBits minute_limits
unfolding is_sunday
minute-sunday = no-sunday minute_limits names.None (λ s. refl)

pub hour-sunday : SundayBits hour_limits
unfolding is_sunday
hour-sunday = no-sunday hour_limits names.None (λ s. refl)

pub day-sunday : SundayBits day_limits
unfolding is_sunday
day-sunday = no-sunday day_limits names.None (λ s. refl)

pub month-sunday : SundayBits month_limits
unfolding is_sunday
month-sunday = no-sunday month_limits Months (λ s. refl)

pub weekday-sunday : SundayBits weekday_limits
weekday-sunday s e = omega arith
