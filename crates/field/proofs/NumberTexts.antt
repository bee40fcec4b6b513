-- A number's text is read as that number: alone, as an element, and in a comma list.
-- Assumes nothing.
use Rattle.std.specs.Prelude.{Some}
use mathlib.Core.Path.{◌≡◌, refl, ap, ◌∙◌}
use mathlib.Core.Bool.{Bool, true, false, cond}
use mathlib.Core.List.{List, [], ◌∷◌, ◌++◌, map, append-nil}
use Prim.Native.Nat.{ℕ, suc, ◌+◌, ◌/◌, ◌%◌, ◌<◌}
use native.Mathlib.Omega.{arith}
use lib.Dec.{ltb}
use lib.ListN.{length}
use borrow.Author.Tests.{ltb-true, le-leb, le-ltb, ne_eqb}
use Rattle.octets.specs.declared.class.Class.TheVariants.{Not}
use Rattle.octets.specs.Classes.{of_class}
use Rattle.octets.specs.Runs.{run}
use Rattle.octets.specs.Digits.{digit, number_text}
use Rattle.octets.proofs.Each.{Each, each-so}
use Rattle.octets.proofs.Digits.{number-bytes}
use Rattle.field.specs.declared.Limits.{Limits}
use Rattle.field.specs.Parts.{contains, before, after_each, split}
use Rattle.field.specs.Numbers.{is_digit, are_digits, value_from, number_of}
use Rattle.field.specs.Elements.{from_to, ranging, number_or, end_of, element_of}
use Rattle.field.specs.Written.{after_commas, list_text}

pub number-back : (n : ℕ) → n < 100 → number_of (number_text n) ≡ Some n
unfolding number_text number_of are_digits is_digit value_from
number-back n h = go (ltb n 10) refl
  where
    go : (t : Bool) → ltb n 10 ≡ t → number_of (cond t (digit n ∷ []) (digit (n / 10) ∷ digit (n % 10) ∷ [])) ≡ Some n
    go true e =
        let k = ltb-true n 10 e in
        rw (le-leb 48 (48 + n) (omega arith), le-leb (48 + n) 57 (omega arith)) (ap Some (omega arith))
    go false e =
        rw
        (le-leb 48 (48 + n / 10) (omega arith), le-leb (48 + n / 10) 57 (omega arith), le-leb 48 (48 + n % 10) (omega arith), le-leb (48 + n % 10) 57 (omega arith))
        (ap Some (omega arith))

-- ---- bytes other than b

abbrev Free : ℕ → List ℕ → Type 0
Free b s = Each (λ (x : ℕ). x ≡ b → ⊥) s

module _ (b : ℕ) where
  free-run : (s : List ℕ) → Free b s → run (Not b) s ≡ length s
  unfolding run of_class
  free-run [] h = refl
  free-run (x ∷ s) h = rw (ne_eqb x b h.0) (ap suc (free-run s h.1))

  free-before : (s t : List ℕ) → Free b s → before b (s ++ t) ≡ s ++ before b t
  unfolding before run of_class
  free-before [] t h = refl
  free-before (x ∷ s) t h = rw (ne_eqb x b h.0) (ap (λ (r : List ℕ). x ∷ r) (free-before s t h.1))

  free-after : (s t : List ℕ) → Free b s → after_each b (s ++ t) ≡ after_each b t
  unfolding after_each
  free-after [] t h = refl
  free-after (x ∷ s) t h = rw (ne_eqb x b h.0) (free-after s t h.1)

-- no digit is one of the bytes between numbers
number-free : (b n : ℕ) → b < 48 → n < 100 → Free b (number_text n)
number-free b n k h = each-so _ _ (λ x d e. omega (arith, d.0, e)) (number_text n) (number-bytes n h)

-- ---- an element

pub element-back : (l : Limits) (n : ℕ) → n < 100 → element_of l (number_text n) ≡ from_to n n 1
unfolding element_of contains end_of number_or ranging
element-back l n h =
    rw (le-ltb (run (Not 45) (number_text n)) (length (number_text n)) (omega (arith, free-run 45 (number_text n) (number-free 45 n (omega arith) h))), number-back n h)

-- ---- a list

abbrev pub Small : List ℕ → Type 0
Small vs = Each (λ (v : ℕ). v < 100) vs

commas-before : (vs : List ℕ) → before 44 (after_commas vs) ≡ []
unfolding before run of_class after_commas
commas-before [] = refl
commas-before (v ∷ vs) = refl

number-first : (v : ℕ) (vs : List ℕ) → v < 100 → before 44 (number_text v ++ after_commas vs) ≡ number_text v
number-first v vs h =
    free-before 44 (number_text v) (after_commas vs) (number-free 44 v (omega arith) h) ∙ rw (commas-before vs) (append-nil (number_text v))

commas-after : (vs : List ℕ) → Small vs → after_each 44 (after_commas vs) ≡ map number_text vs
unfolding after_each after_commas
commas-after [] h = refl
commas-after (v ∷ vs) h =
    rw (number-first v vs h.0, free-after 44 (number_text v) (after_commas vs) (number-free 44 v (omega arith) h.0), commas-after vs h.1)

pub list-parts : (v : ℕ) (vs : List ℕ) → Small (v ∷ vs) → split 44 (list_text (v ∷ vs)) ≡ map number_text (v ∷ vs)
unfolding split list_text
list-parts v vs h =
    rw (number-first v vs h.0, free-after 44 (number_text v) (after_commas vs) (number-free 44 v (omega arith) h.0), commas-after vs h.1)
