-- Laws of a comma list, element by element: what is left to read always gives the same answer.
-- Assumes nothing.
use Rattle.std.specs.Prelude.{Result}
use mathlib.Core.Path.{◌≡◌, refl, ◌∙◌}
use mathlib.Core.Bool.{true, false, cond}
use mathlib.Core.List.{List, [], ◌∷◌}
use Prim.Native.Nat.{ℕ, suc, ◌+◌, ◌-◌, ◌<◌}
use native.Mathlib.Nat.{add-zero}
use native.Mathlib.Omega.{arith}
use lib.ListN.{length, take, drop, length-drop}
use lib.Seq.{length-take-le, drop-drop}
use borrow.Author.Tests.{lt-ltb, le-ltb}
use Rattle.octets.specs.declared.class.Class.TheVariants.{Not}
use Rattle.octets.specs.Runs.{run, skipped}
use Rattle.field.specs.declared.Limits.{Limits}
use Rattle.field.specs.declared.Allowed.{Allowed}
use Rattle.field.specs.declared.Fault.{Fault}
use Rattle.field.specs.Parts.{contains, before, after, split}
use Rattle.field.specs.Elements.{is_element, element_of}
use Rattle.field.specs.Refusals.{malformed}
use Rattle.field.specs.Judgement.{refuses, means, judged}
use Rattle.field.specs.Fields.{are_elements, judged_all, list_field}
use Rattle.field.proofs.Parts.{split-first}

-- the answer once every part is known to be an element, and otherwise
whole : Limits → ℕ → Result Allowed Fault → List (List ℕ) → Result Allowed Fault → Result Allowed Fault
whole l column answer parts other = cond (are_elements l parts) (judged_all l column answer parts) other

whole-next : (l : Limits) (column : ℕ) (answer : Result Allowed Fault) (p : List ℕ) (ps : List (List ℕ)) (other : Result Allowed Fault) → is_element (element_of l p) ≡ true
    → whole l column answer (p ∷ ps) other ≡ whole l (column + length p + 1) (judged l column answer (element_of l p)) ps other
unfolding whole are_elements judged_all
whole-next l column answer p ps other e = rw e

whole-other : (l : Limits) (column : ℕ) (answer : Result Allowed Fault) (p : List ℕ) (ps : List (List ℕ)) (other : Result Allowed Fault) → is_element (element_of l p) ≡ false
    → whole l column answer (p ∷ ps) other ≡ other
unfolding whole are_elements
whole-other l column answer p ps other e = rw e

whole-none : (l : Limits) (column : ℕ) (answer other : Result Allowed Fault) → whole l column answer [] other ≡ answer
unfolding whole are_elements judged_all
whole-none l column answer other = refl

module _ (l : Limits) (column : ℕ) (s : List ℕ) where
  -- the list from `at` on, with the answer so far
  pub reading : ℕ → Result Allowed Fault → Result Allowed Fault
  reading at answer = whole l (column + at) answer (split 44 (drop at s)) (refuses malformed column)

  pub reading-starts : reading 0 (means 0 false) ≡ list_field l column s
  unfolding reading whole list_field
  reading-starts = rw (add-zero column)

  module _ (at end : ℕ) (answer : Result Allowed Fault) (found : end ≡ skipped (Not 44) s at) where
    abbrev part : List ℕ
    part = take (end - at) (drop at s)

    found-run : run (Not 44) (drop at s) ≡ end - at
    unfolding skipped
    found-run = omega arith

    here : before 44 (drop at s) ≡ part
    unfolding before
    here = rw found-run

    parts : split 44 (drop at s) ≡ part ∷ cond (contains 44 (drop at s)) (split 44 (after 44 (drop at s))) []
    parts = split-first 44 (drop at s) ∙ rw here

    pub reading-other : is_element (element_of l part) ≡ false → reading at answer ≡ refuses malformed column
    unfolding reading
    reading-other e = rw parts (whole-other _ _ _ _ _ _ e)

    module _ (e : is_element (element_of l part) ≡ true) where
      pub reading-last : end ≡ length s → reading at answer ≡ judged l (column + at) answer (element_of l part)
      unfolding reading contains skipped
      reading-last k =
          rw (parts, le-ltb (run (Not 44) (drop at s)) (length (drop at s)) (omega (arith, length-drop at s)))
          (whole-next _ _ _ _ _ _ e ∙ whole-none _ _ _ _)

      pub reading-next : end < length s → reading at answer ≡ reading (end + 1) (judged l (column + at) answer (element_of l part))
      unfolding reading contains after skipped
      reading-next k =
          let p : length part ≡ end - at = length-take-le (end - at) (drop at s) (omega (arith, length-drop at s)) in
          let q : column + at + length part + 1 ≡ column + (end + 1) = omega arith in
          let r : at + suc (run (Not 44) (drop at s)) ≡ end + 1 = omega arith in
          rw
          (parts, lt-ltb (run (Not 44) (drop at s)) (length (drop at s)) (omega (arith, length-drop at s)), drop-drop (suc (run (Not 44) (drop at s))) at s, r, ← q)
          (whole-next _ _ _ _ _ _ e)
