-- Flagged fields: the text of a step is read as the set of that step, and the step that is written is the smallest that gives the
-- set, which there is where a field was read.
-- Assumes nothing.
use Rattle.std.specs.Prelude.{Option, Some, None}
use mathlib.Core.Path.{◌≡◌, refl, sym, ap, ◌∙◌}
use mathlib.Core.Bool.{Bool, true, false, cond, true≢false}
use mathlib.Core.List.{List, [], ◌∷◌}
use Prim.Native.Nat.{ℕ, suc, ◌-◌, ◌≤◌, ◌<◌}
use native.Mathlib.Nat.{div-eq_of_lt, lt_of_not-le}
use native.Mathlib.Decide.{dec_le}
use native.Mathlib.Omega.{arith}
use lib.Dec.{eqb}
use borrow.Author.Tests.{le-ltb, eq-eqb, ne_eqb, eqb-true, eqb-false}
use Rattle.octets.specs.Digits.{number_text}
use Rattle.octets.proofs.Search.{Least, from-least}
use Rattle.field.specs.declared.Limits.{Limits}
use Rattle.field.specs.declared.element.Element.{Element}
use Rattle.field.specs.Numbers.{number_of}
use Rattle.field.specs.Elements.{from_to, ranging}
use Rattle.field.specs.Values.{every_step, values_of, range_of, including}
use Rattle.field.specs.Judgement.{means, outside, judged}
use Rattle.field.specs.Fields.{star_element, star_field, read_field}
use Rattle.field.specs.Members.{is_star, elements_of}
use Rattle.field.specs.Written.{star_set, gives, step_of, star_text}
use Rattle.field.proofs.Accepted.{Each, with_elements, AcceptedElements}
use Rattle.field.proofs.Views.{read-values}
use Rattle.field.proofs.NumberTexts.{number-back}
use Rattle.field.proofs.Steps.{last-rising}

module _ (l : Limits) (order : l.first ≤ l.last) where
  -- ---- a step's text is read as its set

  pub judged-star : (column n : ℕ) → 1 ≤ n → judged l column (means 0 true) (from_to l.first l.last n) ≡ means (star_set l n) true
  unfolding judged outside star_set range_of
  judged-star column n h =
      rw
      (le-ltb l.first l.first (omega arith), le-ltb l.last l.first order, le-ltb l.last l.last (omega arith), last-rising l l.first l.last order, ne_eqb n 0 (λ e. omega (arith, e)))

  pub star-back : (column n : ℕ) → 1 ≤ n → n < 100 → read_field l column (star_text n) ≡ means (star_set l n) true
  unfolding star_text read_field star_field star_element ranging
  star-back column n h k = go (eqb n 1) refl
    where
      go : (t : Bool) → eqb n 1 ≡ t → judged l column (means 0 true) (star_element l (cond t [] (47 ∷ number_text n))) ≡ means (star_set l n) true
      go true e = rw (← eqb-true n 1 e) (judged-star column n h)
      go false e = rw (number-back n k) (judged-star column n h)

  -- ---- the smallest step

  -- a step past the last value leaves the first alone
  alone : (n : ℕ) → l.last < n → values_of l.first l.last n ≡ l.first ∷ []
  unfolding values_of every_step
  alone n h = rw (div-eq_of_lt {n = l.last - l.first} {m = n} (omega arith))

  module _ (set : ℕ) where
    pub step-least : Least (gives l set) (suc l.last) 1 (step_of l set)
    unfolding step_of
    step-least = from-least (gives l set) (suc l.last) 1 (omega arith)

    -- where any step gives the set, the one that is found does
    pub step_gives : (n : ℕ) → 1 ≤ n → star_set l n ≡ set → gives l set (step_of l set) ≡ true
    unfolding gives star_set
    step_gives n h e = elim (dec_le (suc l.last) (step_of l set)) [ yes k ↦ past (omega (arith, step-least.high)) | no k ↦ step-least.passes (lt_of_not-le k) ]
      where
        past : step_of l set ≡ suc l.last → gives l set (step_of l set) ≡ true
        past q = elim (dec_le (suc l.last) n) [ yes k ↦ eq-eqb _ set (ap (including l 0) (alone (step_of l set) (omega arith) ∙ sym (alone n (omega arith))) ∙ e) | no k ↦ absurd (true≢false (sym (eq-eqb (star_set l n) set e) ∙ step-least.none n h (omega arith))) ]

    -- and none below it
    pub step-smallest : (n : ℕ) → 1 ≤ n → n < step_of l set → star_set l n ≡ set → ⊥
    unfolding gives
    step-smallest n h k e = eqb-false (star_set l n) set (step-least.none n h k) e

-- ---- what is read as a flagged field comes from a step

module _ (l : Limits) (order : l.first ≤ l.last) where
  whole : (set n : ℕ) → set ≡ including l 0 (range_of l l.first l.last n) → star_set l n ≡ set
  unfolding star_set range_of
  whole set n e = ap (λ (h : ℕ). including l 0 (values_of l.first h n)) (sym (last-rising l l.first l.last order)) ∙ sym e

  star-step : (s : List ℕ) (set : ℕ) → Each l (star_element l s ∷ []) → set ≡ with_elements l 0 (star_element l s ∷ []) → (n : ℕ) × (1 ≤ n) × (star_set l n ≡ set)
  unfolding star_element ranging star_set
  star-step [] set a e = (1, omega arith, whole set 1 e)
  star-step (b ∷ s) set a e = go (eqb b 47) (number_of s) a e
    where
      go : (t : Bool) (n : Option ℕ) → Each l (cond t (ranging (Some l.first) (Some l.last) n) None ∷ [])
          → set ≡ with_elements l 0 (cond t (ranging (Some l.first) (Some l.last) n) None ∷ []) → (n : ℕ) × (1 ≤ n) × (star_set l n ≡ set)
      go true (Some n) a e = (n, a.0.steps, whole set n e)
      go true None a e = absurd a.0
      go false n a e = absurd a.0

  pub star-read : (column : ℕ) (s : List ℕ) {set : ℕ} → read_field l column s ≡ means set true → (n : ℕ) × (1 ≤ n) × (star_set l n ≡ set)
  unfolding is_star elements_of
  star-read column s {set} q = go s (read-values l column s q)
    where
      flagged : (t : Bool) (s : List ℕ) (others : List (Option Element)) → AcceptedElements l 0 t (cond t (star_element l s ∷ []) others) set true
          → (n : ℕ) × (1 ≤ n) × (star_set l n ≡ set)
      flagged true s others g = star-step s set g.accepted g.sets
      flagged false s others g = absurd (true≢false g.flag)

      go : (s : List ℕ) → AcceptedElements l 0 (is_star s) (elements_of l s) set true → (n : ℕ) × (1 ≤ n) × (star_set l n ≡ set)
      go [] g = absurd (true≢false g.flag)
      go (b ∷ s) g = flagged (eqb b 42) s _ g
