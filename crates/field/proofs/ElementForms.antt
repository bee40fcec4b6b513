-- A field with no comma is one element, and an element is one of three texts: `n`, `n-m` and `n-m/step`, whatever the bytes of n, m and step;
-- and the number that digits are.
-- Assumes nothing.
use Rattle.std.specs.Prelude.{Option, Some, None}
use mathlib.Core.Path.{◌≡◌, refl, sym, ap, ◌∙◌}
use mathlib.Core.Bool.{Bool, true, false, cond, not, ◌&&◌, and-false, and-eq-true_iff, true≢false}
use mathlib.Core.List.{List, [], ◌∷◌, ◌++◌}
use Prim.Native.Nat.{ℕ, suc, ◌+◌, ◌*◌, ◌≤◌, ◌-◌}
use native.Mathlib.Omega.{arith}
use lib.Dec.{eqb, leb}
use lib.ListN.{length, drop, length-append}
use lib.Seq.{take_all, take-append_seam}
use borrow.Author.Tests.{eq-eqb, ne_eqb, lt-ltb, le-ltb, le-leb, lt-leb, leb-true}
use Rattle.octets.specs.declared.class.Class.TheVariants.{Not}
use Rattle.octets.specs.Classes.{of_class}
use Rattle.octets.specs.Runs.{run, are_of}
use Rattle.octets.specs.Digits.{digit}
use Rattle.field.specs.declared.Limits.{Limits}
use Rattle.field.specs.declared.element.Element.{Element}
use Rattle.field.specs.declared.Names.{Names}
use Rattle.field.specs.declared.Names.TheVariants.{Months, Weekdays}
use Rattle.field.specs.declared.Names.TheVariants as names
use Rattle.field.specs.Names.{lower, alike, is_sunday}
use Rattle.field.specs.Parts.{contains, before, after, split}
use Rattle.field.specs.Numbers.{is_digit, are_digits, value_from, number_of}
use Rattle.field.specs.Elements.{from_to, dash, slash, ranging, is_element, number_or, end_of, upper_of, after_dash, element_of}
use Rattle.field.specs.Refusals.{malformed}
use Rattle.field.specs.Judgement.{refuses, means, judged}
use Rattle.field.specs.Members.{is_star}
use Rattle.field.specs.Fields.{comma, are_elements, judged_all, list_field, read_field}
use Rattle.field.proofs.Parts.{split-first}
use Rattle.field.proofs.Alone.{digits-only}
use Rattle.field.proofs.Composition.{read-list}

-- ---- bytes divided by the first c

module _ (c : ℕ) where
  whole_run : (s : List ℕ) → are_of (Not c) s ≡ true → run (Not c) s ≡ length s
  unfolding run are_of
  whole_run [] e = refl
  whole_run (x ∷ s) e =
      let t = (and-eq-true_iff (of_class (Not c) x) (are_of (Not c) s)).0 e in
      rw (t.0, whole_run s t.1) refl

  whole_part : (s : List ℕ) → are_of (Not c) s ≡ true → contains c s ≡ false
  unfolding contains
  whole_part s e = rw (whole_run s e) (le-ltb (length s) (length s) (omega arith))

  module _ (b : List ℕ) where
    run-until : (a : List ℕ) → are_of (Not c) a ≡ true → run (Not c) (a ++ c ∷ b) ≡ length a
    unfolding run are_of of_class
    run-until [] e = rw (eq-eqb c c refl) refl
    run-until (x ∷ a) e =
        let t = (and-eq-true_iff (not (eqb x c)) (are_of (Not c) a)).0 e in
        rw (t.0, run-until a t.1) refl

    past : (a : List ℕ) → drop (suc (length a)) (a ++ c ∷ b) ≡ b
    past [] = refl
    past (x ∷ a) = past a

    module _ (a : List ℕ) (e : are_of (Not c) a ≡ true) where
      part-found : contains c (a ++ c ∷ b) ≡ true
      unfolding contains
      part-found = rw (run-until a e) (lt-ltb (length a) (length (a ++ c ∷ b)) (omega (arith, length-append a (c ∷ b))))

      part-before : before c (a ++ c ∷ b) ≡ a
      unfolding before
      part-before = rw (run-until a e) (take-append_seam a (c ∷ b))

      part-after : after c (a ++ c ∷ b) ≡ b
      unfolding after
      part-after = rw (run-until a e) (past a)

-- ---- the three texts of an element

module _ (l : Limits) where
  -- `n`
  pub element-single : (s : List ℕ) → are_of (Not dash) s ≡ true → element_of l s ≡ ranging (end_of l.names s) (end_of l.names s) (Some 1)
  unfolding element_of
  element-single s e = rw (whole_part 45 s e) refl

  -- `n-m`
  pub element-range : (low high : List ℕ) → are_of (Not dash) low ≡ true → are_of (Not slash) high ≡ true
      → element_of l (low ++ dash ∷ high) ≡ ranging (end_of l.names low) (upper_of l low high) (Some 1)
  unfolding element_of after_dash
  element-range low high p q = rw (part-found 45 high low p, part-before 45 high low p, part-after 45 high low p, whole_part 47 high q) refl

  -- `n-m/step`
  pub element-step : (low high step : List ℕ) → are_of (Not dash) low ≡ true → are_of (Not slash) high ≡ true
      → element_of l (low ++ dash ∷ (high ++ slash ∷ step)) ≡ ranging (end_of l.names low) (upper_of l low high) (number_of step)
  unfolding element_of after_dash
  element-step low high step p q =
      let rest = high ++ 47 ∷ step in
      rw (part-found 45 rest low p, part-before 45 rest low p, part-after 45 rest low p, part-found 47 step high q, part-before 47 step high q, part-after 47 step high q) refl

  alone-before : (s : List ℕ) → are_of (Not comma) s ≡ true → before 44 s ≡ s
  unfolding before
  alone-before s e = rw (whole_run 44 s e) (take_all (length s) s (omega arith))

  alone-split : (s : List ℕ) → are_of (Not comma) s ≡ true → split 44 s ≡ s ∷ []
  alone-split s e = split-first 44 s ∙ rw (whole_part 44 s e, alone-before s e) refl

  list-alone : (column : ℕ) (s : List ℕ) → split 44 s ≡ s ∷ [] → list_field l column s ≡ judged l column (means 0 false) (element_of l s)
  unfolding list_field are_elements judged_all is_element judged
  list-alone column s e = rw e (go (element_of l s))
    where
      go : (x : Option Element) → cond (is_element x && true) (judged l column (means 0 false) x) (refuses malformed column) ≡ judged l column (means 0 false) x
      go (Some w) = refl
      go None = refl

  -- a field with no comma and no `*` in front is one element, judged at the field's first byte
  pub field-element : (column : ℕ) (s : List ℕ) → is_star s ≡ false → are_of (Not comma) s ≡ true
      → read_field l column s ≡ judged l column (means 0 false) (element_of l s)
  field-element column s h e = read-list l column s h ∙ listed
    where
      listed : list_field l column s ≡ judged l column (means 0 false) (element_of l s)
      listed = list-alone column s (alone-split s e)

-- ---- numbers

-- the digits of a value, and then more of them
pub value-joined : (v : ℕ) (s t : List ℕ) → value_from v (s ++ t) ≡ value_from (value_from v s) t
unfolding value_from
value-joined v [] t = refl
value-joined v (x ∷ s) t = value-joined (v * 10 + (x - 48)) s t

-- one to four digits
pub is_digit_lem : (d : ℕ) → d ≤ 9 → is_digit (48 + d) ≡ true
unfolding is_digit
is_digit_lem d h = rw (le-leb 48 (48 + d) (omega arith), le-leb (48 + d) 57 (omega arith)) refl

module _ (a b c d : ℕ) (p : a ≤ 9) (q : b ≤ 9) (r : c ≤ 9) (s : d ≤ 9) where
  pub number_digits :
      (number_of (digit a ∷ []) ≡ Some a)
      × (number_of (digit a ∷ digit b ∷ []) ≡ Some (10 * a + b))
      × (number_of (digit a ∷ digit b ∷ digit c ∷ []) ≡ Some (100 * a + 10 * b + c))
      × (number_of (digit a ∷ digit b ∷ digit c ∷ digit d ∷ []) ≡ Some (1000 * a + 100 * b + 10 * c + d))
  unfolding number_of are_digits value_from
  number_digits = (
    rw (is_digit_lem a p) (ap Some (omega arith)),
    rw (is_digit_lem a p, is_digit_lem b q) (ap Some (omega arith)),
    rw (is_digit_lem a p, is_digit_lem b q, is_digit_lem c r) (ap Some (omega arith)),
    rw (is_digit_lem a p, is_digit_lem b q, is_digit_lem c r, is_digit_lem d s) (ap Some (omega arith)),
  )

-- nothing else is a number: no byte, five bytes or more, or a byte that is no digit
pub number-none : number_of [] ≡ None
unfolding number_of
number-none = refl

pub number-long : (s : List ℕ) → 5 ≤ length s → number_of s ≡ None
unfolding number_of
number-long s h = rw (lt-leb (length s) 4 (omega arith)) (go (leb 1 (length s)) (are_digits s))
  where
    go : (t u : Bool) → cond (t && false && u) (Some (value_from 0 s)) None ≡ None
    go true u = refl
    go false u = refl

other-digits : (s t : List ℕ) (x : ℕ) → is_digit x ≡ false → are_digits (s ++ x ∷ t) ≡ false
unfolding are_digits
other-digits [] t x e = rw e refl
other-digits (y ∷ s) t x e = rw (other-digits s t x e) (and-false (is_digit y))

pub number-other : (s t : List ℕ) (x : ℕ) → is_digit x ≡ false → number_of (s ++ x ∷ t) ≡ None
unfolding number_of
number-other s t x e = rw (other-digits s t x e, and-false (leb 1 (length (s ++ x ∷ t)) && leb (length (s ++ x ∷ t)) 4)) refl

-- ---- numbers in the three texts

digits-free : (c : ℕ) → is_digit c ≡ false → (s : List ℕ) → are_digits s ≡ true → are_of (Not c) s ≡ true
unfolding are_digits are_of of_class
digits-free c other [] e = refl
digits-free c other (x ∷ s) e =
    let t = (and-eq-true_iff (is_digit x) (are_digits s)).0 e in
    rw (ne_eqb x c (λ q. true≢false (sym t.0 ∙ ap is_digit q ∙ other)), digits-free c other s t.1) refl

module _ (s : List ℕ) {n : ℕ} (is : number_of s ≡ Some n) where
  abbrev digits : are_digits s ≡ true
  digits = digits-only s is

  number-free : (c : ℕ) → is_digit c ≡ false → are_of (Not c) s ≡ true
  number-free c other = digits-free c other s digits

  -- it has a byte, and none of a name
  number-some : 1 ≤ length s
  number-some = go s refl
    where
      go : (t : List ℕ) → s ≡ t → 1 ≤ length s
      go [] e = let z : None ≡ Some n = sym number-none ∙ ap number_of (sym e) ∙ is in let y : ◌≡◌ {A = ℕ} 0 1 = cc in absurd (omega arith)
      go (x ∷ t) e = rw e (omega arith)

low-digits : (x : ℕ) (s : List ℕ) → are_digits (x ∷ s) ≡ true → (48 ≤ x) × (x ≤ 57) × (are_digits s ≡ true)
unfolding are_digits is_digit
low-digits x s e =
    let d = (and-eq-true_iff (leb 48 x && leb x 57) (are_digits s)).0 e in
    let r = (and-eq-true_iff (leb 48 x) (leb x 57)).0 d.0 in
    (leb-true 48 x r.0, leb-true x 57 r.1, d.1)

digits-plain : (s : List ℕ) → are_digits s ≡ true → (t : List ℕ) → are_of (Not comma) t ≡ true → are_of (Not comma) (s ++ t) ≡ true
unfolding are_of of_class
digits-plain [] e t h = h
digits-plain (x ∷ s) e t h =
    let d = low-digits x s e in
    rw (ne_eqb x 44 (λ q. omega (arith, q, d.0)), digits-plain s d.2 t h) refl

digits-first : (s t : List ℕ) → are_digits s ≡ true → 1 ≤ length s → is_star (s ++ t) ≡ false
unfolding is_star
digits-first [] t e h = absurd (omega arith)
digits-first (x ∷ s) t e h = ne_eqb x 42 (λ q. omega (arith, q, (low-digits x s e).0))

digits-sunday : (names : Names) (s : List ℕ) → are_digits s ≡ true → is_sunday names s ≡ false
unfolding is_sunday alike lower
digits-sunday names.None s e = refl
digits-sunday Months s e = refl
digits-sunday Weekdays [] e = refl
digits-sunday Weekdays (x ∷ s) e =
    let d = low-digits x s e in
    rw (lt-leb 65 x (omega (arith, d.1)), ne_eqb x 115 (λ q. omega (arith, q, d.1))) refl

number-end : (names : Names) (s : List ℕ) {n : ℕ} → number_of s ≡ Some n → end_of names s ≡ Some n
unfolding end_of number_or
number-end names s e = rw e refl

number-upper : (l : Limits) (low high : List ℕ) {n : ℕ} → number_of high ≡ Some n → upper_of l low high ≡ Some n
unfolding upper_of
number-upper l low high e = rw (digits-sunday l.names high (digits-only high e)) (number-end l.names high e)

no-digits : (is_digit 44 ≡ false) × (is_digit 45 ≡ false) × (is_digit 47 ≡ false)
unfolding is_digit
no-digits = (refl, refl, refl)

no-comma : (low high step : List ℕ) → are_digits low ≡ true → are_digits high ≡ true → are_of (Not comma) step ≡ true → are_of (Not comma) (low ++ 45 ∷ (high ++ 47 ∷ step)) ≡ true
unfolding are_of of_class
no-comma low high step p q r = digits-plain low p (45 ∷ (high ++ 47 ∷ step)) (digits-plain high q (47 ∷ step) r)

-- `n-m/step` in any numbers: one range from n to m, judged at the field's first byte
pub range-text : (l : Limits) (column : ℕ) (low high step : List ℕ) {n m k : ℕ} → number_of low ≡ Some n → number_of high ≡ Some m → number_of step ≡ Some k
    → read_field l column (low ++ dash ∷ (high ++ slash ∷ step)) ≡ judged l column (means 0 false) (from_to n m k)
unfolding ranging
range-text l column low high step p q r =
    let s = low ++ 45 ∷ (high ++ 47 ∷ step) in
    let first = digits-first low (45 ∷ (high ++ 47 ∷ step)) (digits-only low p) (number-some low p) in
    field-element l column s first (no-comma low high step (digits-only low p) (digits-only high q) (number-free step r 44 no-digits.0))
    ∙ rw (element-step l low high step (number-free low p 45 no-digits.1) (number-free high q 47 no-digits.2), number-end l.names low p, number-upper l low high q, r) refl
