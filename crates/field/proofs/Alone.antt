-- Laws of a number that is a whole field: it is divided by no byte, is the only element of its list, and is judged as one value.
-- Assumes nothing.
use Rattle.std.specs.Prelude.{Some, None}
use mathlib.Core.Path.{◌≡◌, refl, sym, ap, ◌∙◌}
use mathlib.Core.Bool.{Bool, true, false, cond, ◌&&◌, and-eq-true_iff}
use mathlib.Core.List.{List, [], ◌∷◌}
use Prim.Native.Nat.{ℕ, ◌-◌}
use native.Mathlib.Omega.{arith}
use lib.ListN.{length}
use lib.Seq.{take_all}
use lib.Dec.{leb}
use borrow.Author.Tests.{le-ltb, ne_eqb}
use Rattle.octets.specs.declared.class.Class.TheVariants.{Not}
use Rattle.octets.specs.Classes.{of_class}
use Rattle.octets.specs.Runs.{run}
use Rattle.octets.specs.Sets.{put}
use Rattle.field.specs.declared.Limits.{Limits}
use Rattle.field.specs.Parts.{contains, before, split}
use Rattle.field.specs.Numbers.{is_digit, are_digits, value_from, number_of}
use Rattle.field.specs.Elements.{from_to, is_element, ranging, number_or, end_of, element_of}
use Rattle.field.specs.Refusals.{out_of_limits}
use Rattle.field.specs.Values.{every_step, values_of, last_of, range_of, bit_of, including}
use Rattle.field.specs.Judgement.{refuses, means, outside, judged}
use Rattle.field.specs.Fields.{are_elements, judged_all, list_field}
use Rattle.field.proofs.Parts.{split-first}

-- a number has digits only
pub digits-only : (s : List ℕ) {n : ℕ} → number_of s ≡ Some n → are_digits s ≡ true
unfolding number_of
digits-only s {n} e = go (leb 1 (length s) && leb (length s) 4) (are_digits s) e
  where
    go : (a b : Bool) → cond (a && b) (Some (value_from 0 s)) None ≡ Some n → b ≡ true
    go a true e = refl
    go true false e = absurd (let z : ◌≡◌ {A = ℕ} 0 1 = cc in omega arith)
    go false false e = absurd (let z : ◌≡◌ {A = ℕ} 0 1 = cc in omega arith)

module _ (b : ℕ) (other : is_digit b ≡ false) where
  digits-run : (s : List ℕ) → are_digits s ≡ true → run (Not b) s ≡ length s
  unfolding run of_class are_digits
  digits-run [] e = refl
  digits-run (x ∷ s) e =
      let t = (and-eq-true_iff (is_digit x) (are_digits s)).0 e in
      rw (ne_eqb x b (λ q. apart (ap is_digit q ∙ other) t.0), digits-run s t.1)
    where
      apart : {c : Bool} → c ≡ false → c ≡ true → ⊥
      apart p q = let z : ◌≡◌ {A = ℕ} 0 1 = ap (λ (c : Bool). cond c 1 0) (sym p ∙ q) in omega arith

  module _ (s : List ℕ) (digits : are_digits s ≡ true) where
    digits-whole : contains b s ≡ false
    unfolding contains
    digits-whole = rw (digits-run s digits) (le-ltb (length s) (length s) (omega arith))

    digits-split : split b s ≡ s ∷ []
    unfolding before
    digits-split = split-first b s ∙ rw (digits-whole, digits-run s digits, take_all (length s) s (omega arith))

module _ (s : List ℕ) {n : ℕ} (number : number_of s ≡ Some n) where
  pub alone-element : (l : Limits) → element_of l s ≡ from_to n n 1
  unfolding element_of end_of number_or ranging is_digit
  alone-element l = rw (digits-whole 45 refl s (digits-only s number), number)

  -- a field that is a number is that value
  pub number-alone : (l : Limits) (column : ℕ) → list_field l column s ≡ judged l column (means 0 false) (from_to n n 1)
  unfolding list_field are_elements judged_all is_element is_digit
  number-alone l column = rw (digits-split 44 refl s (digits-only s number), alone-element l)

-- how it is judged
module _ (l : Limits) (column n : ℕ) where
  pub number-outside : outside l n ≡ true → judged l column (means 0 false) (from_to n n 1) ≡ refuses out_of_limits column
  unfolding judged
  number-outside e = rw e

  pub number-inside : outside l n ≡ false → judged l column (means 0 false) (from_to n n 1) ≡ means (put 0 (bit_of l n)) false
  unfolding judged range_of last_of values_of every_step including
  number-inside e = let none : n - n ≡ 0 = omega arith in rw (e, le-ltb n n (omega arith), none)
