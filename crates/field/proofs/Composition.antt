-- A comma list is its elements, however many: what is read of `a,b` is what is read of a and of b. The set has the values of both; 5 of either
-- is 5 of the whole field, whose form is judged first; otherwise the first refusal stands. A `*` stands alone in its field.
-- Assumes nothing.
use Rattle.std.specs.Prelude.{Option, Some, None, Ok, Err, Result}
use mathlib.Core.Path.{◌≡◌, refl, sym, ap, ◌∙◌}
use mathlib.Core.Bool.{Bool, true, false, cond, not, ◌&&◌, ◌||◌, and_assoc, and-false, or_assoc, false≢true, and-eq-true_iff}
use mathlib.Core.List.{List, [], ◌∷◌, ◌++◌}
use Prim.Native.Nat.{ℕ, zero, suc, ◌+◌, ◌^◌, ◌<◌}
use native.Mathlib.Nat.{add-zero, lt_of_lt_of_le, pow-succ'}
use native.Mathlib.Omega.{arith}
use lib.Bits.{bit_or, or_lt, or_zero_l, or_zero_r}
use lib.Pow.{pow_mono}
use lib.Dec.{eqb, leb, ltb}
use lib.ListN.{length, take}
use borrow.Author.Tests.{eqb-true}
use Rattle.octets.specs.declared.class.Class.TheVariants.{Not}
use Rattle.octets.specs.Classes.{of_class}
use Rattle.octets.specs.Runs.{run}
use Rattle.octets.specs.Sets.{has_bit, with_bit, put}
use Rattle.octets.proofs.Sets.{same_bits}
use Rattle.octets.proofs.Together.{or-has}
use Rattle.field.specs.declared.Limits.{Limits}
use Rattle.field.specs.declared.Names.{Names}
use Rattle.field.specs.declared.Names.TheVariants.{Months, Weekdays}
use Rattle.field.specs.declared.Names.TheVariants as names
use Rattle.field.specs.declared.Allowed.{Allowed}
use Rattle.refusal.specs.Numbers as refusal
use Rattle.field.specs.declared.Fault.{Fault}
use Rattle.field.specs.declared.element.Element.{Element}
use Rattle.field.specs.Parts.{contains, before, after, after_each, split}
use Rattle.field.specs.Numbers.{is_digit, are_digits, number_of}
use Rattle.field.specs.Names.{lower, alike, month_names, weekday_names, named, name_of}
use Rattle.field.specs.Elements.{ranging, is_element, number_or, end_of, upper_of, after_dash, element_of}
use Rattle.field.specs.Values.{range_of, bit_of, including}
use Rattle.field.specs.Refusals.{malformed, out_of_limits, reversed, step_zero}
use Rattle.field.specs.Judgement.{refuses, means, outside, judged}
use Rattle.field.specs.Members.{is_star}
use Rattle.field.specs.Fields.{comma, are_elements, judged_all, list_field, star_element, star_field, read_field}
use Rattle.field.proofs.Views.{width, split-width}

-- ---- the values of two sets together

lt-power : (n : ℕ) → n < 2 ^ n
lt-power zero = omega arith
lt-power (suc n) = omega (arith, lt-power n, pow-succ' 2 n)

or-joined : (a b c : ℕ) → bit_or (bit_or a b) c ≡ bit_or a (bit_or b c)
or-joined a b c =
    let w = a + b + c in
    let p : a < 2 ^ w = lt_of_lt_of_le (lt-power a) (pow_mono (omega arith)) in
    let q : b < 2 ^ w = lt_of_lt_of_le (lt-power b) (pow_mono (omega arith)) in
    let r : c < 2 ^ w = lt_of_lt_of_le (lt-power c) (pow_mono (omega arith)) in
    same_bits w (or_lt w (bit_or a b) c (or_lt w a b p q) r) (or_lt w a (bit_or b c) p (or_lt w b c q r))
    (λ n h. or-has (bit_or a b) c n ∙ rw (or-has a b n, or-has a (bit_or b c) n, or-has b c n) (or_assoc (has_bit a n) (has_bit b n) (has_bit c n)))

put-joined : (set n : ℕ) → put set n ≡ bit_or set (put 0 n)
unfolding put with_bit
put-joined set n = go (ltb n 64)
  where
    go : (t : Bool) → cond t (bit_or set (2 ^ n)) set ≡ bit_or set (cond t (bit_or 0 (2 ^ n)) 0)
    go true = ap (bit_or set) (sym (or_zero_l (2 ^ n)))
    go false = sym (or_zero_r set)

pub including-joined : (l : Limits) (set : ℕ) (vs : List ℕ) → including l set vs ≡ bit_or set (including l 0 vs)
unfolding including
including-joined l set [] = sym (or_zero_r set)
including-joined l set (v ∷ vs) =
    let rest = including l 0 vs in
    let b = put 0 (bit_of l v) in
    including-joined l (put set (bit_of l v)) vs
    ∙ ap (λ (x : ℕ). bit_or x rest) (put-joined set (bit_of l v))
    ∙ or-joined set b rest
    ∙ ap (bit_or set) (sym (including-joined l b vs))

-- ---- one answer and then another: the first refusal, or the values of both and the first one's flag

abbrev pub followed : Result Allowed Fault → Result Allowed Fault → Result Allowed Fault
followed (Err fault) b = Err fault
followed (Ok v) (Err fault) = Err fault
followed (Ok v) (Ok w) = means (bit_or v.set w.set) v.star

followed-none : (a : Result Allowed Fault) → a ≡ followed a (means 0 false)
followed-none (Err fault) = refl
followed-none (Ok v) = ap (λ (x : ℕ). means x v.star) (sym (or_zero_r v.set))

followed-joined : (a b c : Result Allowed Fault) → followed (followed a b) c ≡ followed a (followed b c)
followed-joined (Err fault) b c = refl
followed-joined (Ok v) (Err fault) c = refl
followed-joined (Ok v) (Ok w) (Err fault) = refl
followed-joined (Ok v) (Ok w) (Ok y) = ap (λ (x : ℕ). means x v.star) (or-joined v.set w.set y.set)

module _ (l : Limits) where
  judged-followed : (column : ℕ) (a : Result Allowed Fault) (e : Option Element) → judged l column a e ≡ followed a (judged l column (means 0 false) e)
  unfolding judged
  judged-followed column (Err fault) e = refl
  judged-followed column (Ok v) None = refl
  judged-followed column (Ok v) (Some w) = go (outside l w.low || outside l w.high) (ltb w.high w.low && not l.wraps) (eqb w.step 0)
    where
      go : (o r z : Bool)
          → cond o (refuses out_of_limits column) (cond r (refuses reversed column) (cond z (refuses step_zero column) (means (including l v.set (range_of l w.low w.high w.step)) v.star)))
          ≡ followed (means v.set v.star)
          (cond o (refuses out_of_limits column) (cond r (refuses reversed column) (cond z (refuses step_zero column) (means (including l 0 (range_of l w.low w.high w.step)) false))))
      go true r z = refl
      go false true z = refl
      go false false true = refl
      go false false false = ap (λ (x : ℕ). means x v.star) (including-joined l v.set (range_of l w.low w.high w.step))

  all-followed : (column : ℕ) (a : Result Allowed Fault) (ps : List (List ℕ)) → judged_all l column a ps ≡ followed a (judged_all l column (means 0 false) ps)
  unfolding judged_all
  all-followed column a [] = followed-none a
  all-followed column a (p ∷ ps) =
      let next = column + length p + 1 in
      let here = judged l column (means 0 false) (element_of l p) in
      let later = judged_all l next (means 0 false) ps in
      ap (λ (x : Result Allowed Fault). judged_all l next x ps) (judged-followed column a (element_of l p))
      ∙ all-followed next (followed a here) ps
      ∙ followed-joined a here later
      ∙ ap (followed a) (sym (all-followed next here ps))

  all-joined : (column : ℕ) (a : Result Allowed Fault) (ps qs : List (List ℕ)) → judged_all l column a (ps ++ qs) ≡ judged_all l (column + width ps) (judged_all l column a ps) qs
  unfolding judged_all width
  all-joined column a [] qs = rw (add-zero column) refl
  all-joined column a (p ∷ ps) qs =
      let e : column + length p + 1 + width ps ≡ column + (length p + 1 + width ps) = omega arith in
      all-joined (column + length p + 1) (judged l column a (element_of l p)) ps qs
      ∙ ap (λ (n : ℕ). judged_all l n (judged_all l (column + length p + 1) (judged l column a (element_of l p)) ps) qs) e

  elements-joined : (ps qs : List (List ℕ)) → are_elements l (ps ++ qs) ≡ (are_elements l ps && are_elements l qs)
  unfolding are_elements
  elements-joined [] qs = refl
  elements-joined (p ∷ ps) qs = rw (elements-joined ps qs) (sym (and_assoc (is_element (element_of l p)) (are_elements l ps) (are_elements l qs)))

-- ---- the parts of two lists

module _ (b : List ℕ) where
  joined-before : (a : List ℕ) → before 44 (a ++ 44 ∷ b) ≡ before 44 a
  unfolding before run of_class
  joined-before [] = refl
  joined-before (x ∷ a) = go (eqb x 44) (joined-before a)
    where
      go : (t : Bool) → take (run (Not 44) (a ++ 44 ∷ b)) (a ++ 44 ∷ b) ≡ take (run (Not 44) a) a
          → take (cond (not t) (suc (run (Not 44) (a ++ 44 ∷ b))) 0) (x ∷ a ++ 44 ∷ b) ≡ take (cond (not t) (suc (run (Not 44) a)) 0) (x ∷ a)
      go true e = refl
      go false e = ap (λ (s : List ℕ). x ∷ s) e

  joined-after : (a : List ℕ) → after_each 44 (a ++ 44 ∷ b) ≡ after_each 44 a ++ split 44 b
  unfolding after_each split
  joined-after [] = refl
  joined-after (x ∷ a) = go (eqb x 44) (joined-after a)
    where
      go : (t : Bool) → after_each 44 (a ++ 44 ∷ b) ≡ after_each 44 a ++ (before 44 b ∷ after_each 44 b)
          → cond t (before 44 (a ++ 44 ∷ b) ∷ after_each 44 (a ++ 44 ∷ b)) (after_each 44 (a ++ 44 ∷ b))
          ≡ cond t (before 44 a ∷ after_each 44 a) (after_each 44 a) ++ (before 44 b ∷ after_each 44 b)
      go true e = rw (joined-before a, e) refl
      go false e = e

  pub split-joined : (a : List ℕ) → split 44 (a ++ 44 ∷ b) ≡ split 44 a ++ split 44 b
  unfolding split
  split-joined a = rw (joined-before a, joined-after a) refl

-- ---- two lists

abbrev pub is_malformed : Result Allowed Fault → Bool
is_malformed (Ok v) = false
is_malformed (Err fault) = eqb (refusal.number_of fault.refusal) 5

-- what is read of a, and then b, as one field that starts at the column
abbrev pub together : ℕ → Result Allowed Fault → Result Allowed Fault → Result Allowed Fault
together column a b = cond (is_malformed a || is_malformed b) (refuses malformed column) (followed a b)

pub judged-form : (l : Limits) (column set : ℕ) (star : Bool) (e : Option Element) → is_malformed (judged l column (means set star) e) ≡ not (is_element e)
unfolding judged is_element refusal.number_of
judged-form l column set star None = refl
judged-form l column set star (Some w) = go (outside l w.low || outside l w.high) (ltb w.high w.low && not l.wraps) (eqb w.step 0)
  where
    go : (o r z : Bool)
        → is_malformed (cond o (refuses out_of_limits column) (cond r (refuses reversed column) (cond z (refuses step_zero column) (means (including l set (range_of l w.low w.high w.step)) star)))) ≡ false
    go true r z = refl
    go false true z = refl
    go false false true = refl
    go false false false = refl

module _ (l : Limits) where
  judged-formed : (column : ℕ) (a : Result Allowed Fault) (e : Option Element) → is_element e ≡ true → is_malformed a ≡ false → is_malformed (judged l column a e) ≡ false
  unfolding judged
  judged-formed column (Err fault) e h k = k
  judged-formed column (Ok v) e h k = judged-form l column v.set v.star e ∙ ap not h

  all-formed : (column : ℕ) (a : Result Allowed Fault) (ps : List (List ℕ)) → are_elements l ps ≡ true → is_malformed a ≡ false → is_malformed (judged_all l column a ps) ≡ false
  unfolding are_elements judged_all
  all-formed column a [] h k = k
  all-formed column a (p ∷ ps) h k =
      let t = (and-eq-true_iff (is_element (element_of l p)) (are_elements l ps)).0 h in
      all-formed (column + length p + 1) _ ps t.1 (judged-formed column a (element_of l p) t.0 k)

  pub list-form : (column : ℕ) (s : List ℕ) → is_malformed (list_field l column s) ≡ not (are_elements l (split 44 s))
  unfolding list_field refusal.number_of
  list-form column s = go (are_elements l (split 44 s)) refl
    where
      go : (t : Bool) → are_elements l (split 44 s) ≡ t → is_malformed (cond t (judged_all l column (means 0 false) (split 44 s)) (refuses malformed column)) ≡ not t
      go true e = all-formed column (means 0 false) (split 44 s) e refl
      go false e = refl

  module _ (column : ℕ) (a b : List ℕ) where
    abbrev next : ℕ
    next = column + length a + 1

    parts-joined : list_field l column (a ++ 44 ∷ b)
        ≡ cond (not (are_elements l (split 44 a)) || not (are_elements l (split 44 b))) (refuses malformed column) (followed (list_field l column a) (list_field l next b))
    unfolding list_field
    parts-joined = rw (split-joined b a, elements-joined l (split 44 a) (split 44 b)) (go (are_elements l (split 44 a)) (are_elements l (split 44 b)))
      where
        front : Result Allowed Fault
        front = judged_all l column (means 0 false) (split 44 a)

        go : (t u : Bool)
            → cond (t && u) (judged_all l column (means 0 false) (split 44 a ++ split 44 b)) (refuses malformed column)
            ≡ cond (not t || not u) (refuses malformed column)
            (followed (cond t front (refuses malformed column)) (cond u (judged_all l next (means 0 false) (split 44 b)) (refuses malformed next)))
        go true true =
            let e : column + width (split 44 a) ≡ next = omega (arith, split-width 44 a) in
            all-joined l column (means 0 false) (split 44 a) (split 44 b)
            ∙ all-followed l (column + width (split 44 a)) front (split 44 b)
            ∙ ap (λ (n : ℕ). followed front (judged_all l n (means 0 false) (split 44 b))) e
        go true false = refl
        go false u = refl

    list-joined : list_field l column (a ++ 44 ∷ b) ≡ together column (list_field l column a) (list_field l next b)
    list-joined = rw (list-form column a, list-form next b) parts-joined

-- ---- two fields

-- no name is empty or begins with `*`
no_name : (names : Names) (s : List ℕ) → (name_of names [] ≡ None) × (name_of names (42 ∷ s) ≡ None)
unfolding name_of named alike lower month_names weekday_names
no_name names.None s = (refl, refl)
no_name Months s = (refl, refl)
no_name Weekdays s = (refl, refl)

star-number : (s : List ℕ) → number_of (42 ∷ s) ≡ None
unfolding number_of are_digits is_digit
star-number s = rw (and-false (leb 1 (length (42 ∷ s)) && leb (length (42 ∷ s)) 4)) refl

module _ (l : Limits) where
  none-element : element_of l [] ≡ None
  unfolding element_of contains run end_of number_or number_of ranging
  none-element = rw (no_name l.names []).0 refl

  star-end : (s : List ℕ) → end_of l.names (42 ∷ s) ≡ None
  unfolding end_of number_or
  star-end s = rw (star-number s, (no_name l.names s).1) refl

  star-element : (s : List ℕ) → element_of l (42 ∷ s) ≡ None
  unfolding element_of after_dash ranging before run of_class
  star-element s = go (contains 45 (42 ∷ s)) (contains 47 (after 45 (42 ∷ s)))
    where
      go : (t u : Bool)
          → cond t
          (cond u
          (ranging (end_of l.names (42 ∷ take (run (Not 45) s) s)) (upper_of l (42 ∷ take (run (Not 45) s) s) (before 47 (after 45 (42 ∷ s)))) (number_of (after 47 (after 45 (42 ∷ s)))))
          (ranging (end_of l.names (42 ∷ take (run (Not 45) s) s)) (upper_of l (42 ∷ take (run (Not 45) s) s) (after 45 (42 ∷ s))) (Some 1)))
          (ranging (end_of l.names (42 ∷ s)) (end_of l.names (42 ∷ s)) (Some 1))
          ≡ None
      go true true = rw (star-end (take (run (Not 45) s) s)) refl
      go true false = rw (star-end (take (run (Not 45) s) s)) refl
      go false u = rw (star-end s) refl

  -- a list, unless it begins with `*`
  pub read-list : (column : ℕ) (s : List ℕ) → is_star s ≡ false → read_field l column s ≡ list_field l column s
  unfolding read_field is_star list_field are_elements is_element split before run after_each
  read-list column [] h = rw none-element refl
  read-list column (x ∷ s) h = rw h refl

  joined-star : (a b : List ℕ) → is_star a ≡ false → is_star (a ++ 44 ∷ b) ≡ false
  unfolding is_star
  joined-star [] b h = refl
  joined-star (x ∷ a) b h = h

  -- `a,b`, whatever the bytes of both: a list of any length is its elements
  pub field-joined : (column : ℕ) (a b : List ℕ) → is_star a ≡ false → is_star b ≡ false
      → read_field l column (a ++ comma ∷ b) ≡ together column (read_field l column a) (read_field l (column + length a + 1) b)
  field-joined column a b p q =
      rw (read-list column (a ++ 44 ∷ b) (joined-star a b p), read-list column a p, read-list (column + length a + 1) b q) (list-joined l column a b)

  -- ---- `*` with a list: 5, wherever it stands

  comma-digits : (s b : List ℕ) → are_digits (s ++ 44 ∷ b) ≡ false
  unfolding are_digits is_digit
  comma-digits [] b = refl
  comma-digits (x ∷ s) b = rw (comma-digits s b) (and-false (leb 48 x && leb x 57))

  comma-number : (s b : List ℕ) → number_of (s ++ 44 ∷ b) ≡ None
  unfolding number_of
  comma-number s b = rw (comma-digits s b, and-false (leb 1 (length (s ++ 44 ∷ b)) && leb (length (s ++ 44 ∷ b)) 4)) refl

  comma-star : (s b : List ℕ) → star_element l (s ++ 44 ∷ b) ≡ None
  unfolding star_element ranging
  comma-star [] b = refl
  comma-star (x ∷ s) b = rw (comma-number s b) (go (eqb x 47))
    where
      go : (t : Bool) → cond {A = Option Element} t None None ≡ None
      go true = refl
      go false = refl

  pub star-first : (column : ℕ) (a b : List ℕ) → is_star a ≡ true → read_field l column (a ++ comma ∷ b) ≡ refuses malformed column
  unfolding is_star read_field star_field judged
  star-first column [] b h = absurd (false≢true h)
  star-first column (x ∷ a) b h = rw (h, comma-star a b) refl

  star-form : (column : ℕ) (b : List ℕ) → is_star b ≡ true → list_field l column b ≡ refuses malformed column
  unfolding is_star list_field are_elements is_element split before run of_class
  star-form column [] h = absurd (false≢true h)
  star-form column (x ∷ b) h = rw (eqb-true x 42 h, star-element (take (run (Not 44) b) b)) refl

  pub star-later : (column : ℕ) (a b : List ℕ) → is_star a ≡ false → is_star b ≡ true → read_field l column (a ++ comma ∷ b) ≡ refuses malformed column
  unfolding refusal.number_of
  star-later column a b p q =
      read-list column (a ++ 44 ∷ b) (joined-star a b p)
      ∙ list-joined l column a b
      ∙ rw (star-form (column + length a + 1) b q) (go (is_malformed (list_field l column a)))
    where
      go : (t : Bool) → cond (t || true) (refuses malformed column) (followed (list_field l column a) (refuses malformed (column + length a + 1))) ≡ refuses malformed column
      go true = refl
      go false = refl
