-- A view of a field that is read: for each answer of `read_field` all that is known of it, proved once. Values are what accepted elements put
-- into the set; a refusal is 5 to 8, 7 only where ranges don't wrap, and its column is in the field or right after it.
-- Assumes nothing.
use Rattle.std.specs.Prelude.{Option, None, Some, Ok, Err, Result}
use Rattle.refusal.specs.declared.Refusal.{Refusal}
use Rattle.refusal.specs.Numbers.{number_of}
use mathlib.Core.Path.{◌≡◌, refl, sym, ap, ◌∙◌}
use mathlib.Core.Bool.{Bool, true, false, cond, not, ◌&&◌, ◌||◌, and-eq-true_iff, true≢false}
use mathlib.Mathlib.Data.Bool.Basic.{or-eq-false-eq-eq-false-and-eq-false}
use mathlib.Core.List.{List, [], ◌∷◌, map}
use Prim.Native.Nat.{ℕ, suc, ◌+◌, ◌≤◌}
use native.Mathlib.Omega.{arith}
use lib.ListN.{length, take}
use lib.Dec.{eqb, leb, ltb}
use borrow.Author.Tests.{not-true, eqb-false, leb-true}
use Rattle.octets.specs.declared.class.Class.TheVariants.{Not}
use Rattle.octets.specs.Classes.{of_class}
use Rattle.octets.specs.Runs.{run}
use Rattle.field.specs.declared.Limits.{Limits}
use Rattle.field.specs.declared.Allowed.{Allowed}
use Rattle.field.specs.declared.Fault.{Fault}
use Rattle.field.specs.declared.element.Element.{Element}
use Rattle.field.specs.Parts.{before, after_each, split}
use Rattle.field.specs.Elements.{from_to, element_of}
use Rattle.field.specs.Values.{range_of, including}
use Rattle.field.specs.Refusals.{malformed, out_of_limits, reversed, step_zero}
use Rattle.field.specs.Judgement.{refuses, means, outside, judged}
use Rattle.field.specs.Fields.{are_elements, judged_all, list_field, star_element, star_field, read_field}
use Rattle.field.specs.Members.{is_star, elements_of}
use Rattle.field.proofs.Accepted.{AcceptedElements, inside}

-- ---- widths

-- how many bytes parts have, each with the byte after it
unfoldable pub width : List (List ℕ) → ℕ
width [] = 0
width (p ∷ ps) = length p + 1 + width ps

module _ (b : ℕ) where
  parts-width : (s : List ℕ) → length (before b s) + width (after_each b s) ≡ length s
  unfolding run of_class before after_each width
  parts-width [] = refl
  parts-width (x ∷ s) = go (eqb x b) (parts-width s)
    where
      go : (t : Bool) → length (before b s) + width (after_each b s) ≡ length s
          → length (take (cond (not t) (suc (run (Not b) s)) 0) (x ∷ s)) + width (cond t (before b s ∷ after_each b s) (after_each b s)) ≡ suc (length s)
      go true e = omega (arith, e)
      go false e = omega (arith, e)

  pub split-width : (s : List ℕ) → width (split b s) ≡ length s + 1
  unfolding split width
  split-width s = omega (arith, parts-width s)

-- ---- a refusal

-- Its number, from low to high; what holds where a range is refused as reversed; and a column that isn't past the last.
pub record RefusedIn (low high : ℕ) (Rising : Type 0) (last : ℕ) (refusal : Refusal) (column : ℕ) : Type 0 where
  pub from : low ≤ number_of refusal
  pub to : number_of refusal ≤ high
  pub rising : refusal ≡ reversed → Rising
  pub inside : column ≤ last

abbrev pub is_other : ℕ → ℕ → Refusal → Bool
is_other low high refusal = let number = number_of refusal in (leb low number && leb number high) && not (eqb number 7)

-- a refusal that isn't 7: that its number is such computes
pub refused : {low high : ℕ} {Rising : Type 0} {last : ℕ} {refusal : Refusal} {column : ℕ} → is_other low high refusal ≡ true → column ≤ last
    → RefusedIn low high Rising last refusal column
unfolding number_of
refused {low} {high} {Rising} {last} {refusal} e i =
    let number = number_of refusal in
    let a = (and-eq-true_iff (leb low number && leb number high) (not (eqb number 7))).0 e in
    let b = (and-eq-true_iff (leb low number) (leb number high)).0 a.0 in
    record { from = leb-true _ _ b.0; to = leb-true _ _ b.1; rising = λ n. absurd (eqb-false number 7 (not-true _ a.1) (ap number_of n)); inside = i }

abbrev pub FieldRefused : Limits → ℕ → Refusal → ℕ → Type 0
FieldRefused l = RefusedIn 5 8 (l.wraps ≡ false)

-- ---- the view: elements lead from a set and a flag to another, or to a refusal

abbrev pub FieldView : Limits → ℕ → ℕ → Bool → List (Option Element) → Result Allowed Fault → Type 0
FieldView l last set star es (Ok v) = AcceptedElements l set star es v.set v.star
FieldView l last set star es (Err fault) = FieldRefused l last fault.refusal fault.column

module _ (l : Limits) (last : ℕ) where
  element-view : (column set : ℕ) (star : Bool) (e : Option Element) → column ≤ last → FieldView l last set star (e ∷ []) (judged l column (means set star) e)
  unfolding judged number_of
  element-view column set star None k = refused refl k
  element-view column set star (Some w) k =
      go (outside l w.low || outside l w.high) (ltb w.high w.low && not l.wraps) (eqb w.step 0) refl refl refl
    where
      go : (o r z : Bool) → (outside l w.low || outside l w.high) ≡ o → (ltb w.high w.low && not l.wraps) ≡ r → eqb w.step 0 ≡ z
          → FieldView l last set star (from_to w.low w.high w.step ∷ [])
          (cond o (refuses out_of_limits column) (cond r (refuses reversed column) (cond z (refuses step_zero column) (means (including l set (range_of l w.low w.high w.step)) star))))
      go true r z a b c = refused refl k
      go false true z a b c =
          record { from = omega arith; to = omega arith; rising = λ n. not-true _ ((and-eq-true_iff (ltb w.high w.low) (not l.wraps)).0 b).1; inside = k }
      go false false true a b c = refused refl k
      go false false false a b c =
          let t = (or-eq-false-eq-eq-false-and-eq-false (outside l w.low) (outside l w.high)).0 a in
          let x = inside l w.low t.0 in
          let y = inside l w.high t.1 in
          let n = eqb-false w.step 0 c in
          record { accepted = (record { from = x.0; below = x.1; above = y.0; to = y.1; steps = omega (arith, n) }, tt); sets = refl; flag = refl }

  -- element by element
  pub all-refused : (column : ℕ) (ps : List (List ℕ)) (refusal : Refusal) (at : ℕ) → judged_all l column (refuses refusal at) ps ≡ refuses refusal at
  unfolding judged_all judged
  all-refused column [] refusal at = refl
  all-refused column (p ∷ ps) refusal at = all-refused (column + length p + 1) ps refusal at

  elements-view : (column set : ℕ) (star : Bool) (ps : List (List ℕ)) → column + width ps ≤ last + 1
      → FieldView l last set star (map (element_of l) ps) (judged_all l column (means set star) ps)
  unfolding judged_all width
  elements-view column set star [] k = record { accepted = tt; sets = refl; flag = refl }
  elements-view column set star (p ∷ ps) k =
      go (judged l column (means set star) (element_of l p)) (element-view column set star (element_of l p) (omega arith))
      (λ s t. elements-view (column + length p + 1) s t ps (omega arith))
    where
      next : ℕ
      next = column + length p + 1

      go : (a : Result Allowed Fault) → FieldView l last set star (element_of l p ∷ []) a
          → ((s : ℕ) (t : Bool) → FieldView l last s t (map (element_of l) ps) (judged_all l next (means s t) ps))
          → FieldView l last set star (element_of l p ∷ map (element_of l) ps) (judged_all l next a ps)
      go (Err fault) f later = rw (all-refused next ps fault.refusal fault.column) f
      go (Ok w) g later = more (judged_all l next (means w.set w.star) ps) (later w.set w.star)
        where
          more : (x : Result Allowed Fault) → FieldView l last w.set w.star (map (element_of l) ps) x → FieldView l last set star (element_of l p ∷ map (element_of l) ps) x
          more (Err fault) f = f
          more (Ok v) h = record { accepted = (g.accepted.0, h.accepted); sets = h.sets ∙ rw g.sets; flag = h.flag ∙ g.flag }

pub field-view : (l : Limits) (column : ℕ) (s : List ℕ) → FieldView l (column + length s) 0 (is_star s) (elements_of l s) (read_field l column s)
unfolding read_field star_field list_field elements_of is_star number_of
field-view l column [] = refused refl (omega arith)
field-view l column (b ∷ s) = go (eqb b 42) (are_elements l (split 44 (b ∷ s)))
  where
    go : (t u : Bool)
        → FieldView l (column + length (b ∷ s)) 0 t (cond t (star_element l s ∷ []) (map (element_of l) (split 44 (b ∷ s))))
        (cond t (judged l column (means 0 true) (star_element l s)) (cond u (judged_all l column (means 0 false) (split 44 (b ∷ s))) (refuses malformed column)))
    go true u = element-view l _ column 0 true (star_element l s) (omega arith)
    go false true = elements-view l _ column 0 false (split 44 (b ∷ s)) (omega (arith, split-width 44 (b ∷ s)))
    go false false = refused refl (omega arith)

-- ---- projections

pub read-values : (l : Limits) (column : ℕ) (s : List ℕ) {set : ℕ} {star : Bool} → read_field l column s ≡ means set star
    → AcceptedElements l 0 (is_star s) (elements_of l s) set star
read-values l column s q = rw q at (field-view l column s)

pub field-number : (l : Limits) (column : ℕ) (s : List ℕ) {refusal : Refusal} {at : ℕ} → read_field l column s ≡ refuses refusal at
    → (number_of malformed ≤ number_of refusal) × (number_of refusal ≤ number_of step_zero)
unfolding number_of
field-number l column s e = let f = rw e at (field-view l column s) in (f.from, f.to)

-- no range is refused where ranges wrap
pub field-wraps : (l : Limits) → l.wraps ≡ true → (column : ℕ) (s : List ℕ) {at : ℕ} → read_field l column s ≡ refuses reversed at → ⊥
field-wraps l wraps column s e = true≢false (sym wraps ∙ (rw e at (field-view l column s)).rising refl)
