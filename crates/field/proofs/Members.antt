-- What a field's set has. `set-members`: a bit is set exactly if it is the bit of a value of one of the field's elements.
-- `steps-members`: the values from low to high are those that are a multiple of the step after low.
-- Assumes nothing.
use Rattle.std.specs.Prelude.{Option, None, Some}
use mathlib.Core.Path.{◌≡◌, refl, sym, ap, ◌∙◌}
use mathlib.Core.Bool.{Bool, true, false, cond, ◌||◌, false≢true, and-false, or-false, or-true, or_assoc}
use mathlib.Core.List.{List, [], ◌∷◌, ◌++◌, map}
use Prim.Native.Nat.{ℕ, zero, suc, ◌+◌, ◌-◌, ◌%◌, ◌≤◌, ◌<◌}
use native.Mathlib.Nat.{lt_of_not-le, mod-eq_of_lt, mod-eq-sub-mod, zero-mod}
use native.Mathlib.Decide.{dec_le}
use native.Mathlib.Omega.{arith}
use lib.Dec.{ltb, leb, eqb}
use borrow.Author.Tests.{ltb-false, le-leb, lt-leb, eq-eqb, ne_eqb, eqb-true, eqb-false}
use Rattle.octets.specs.Sets.{has_bit, with_bit, put}
use Rattle.octets.proofs.Sets.{none_has, with-has, with-keeps}
use Rattle.field.specs.declared.Limits.{Limits}
use Rattle.field.specs.declared.element.Element.{Element}
use Rattle.field.specs.Values.{values_of, range_of, bit_of, including}
use Rattle.field.specs.Fields.{read_field}
use Rattle.field.specs.Members.{is_in, is_step, elements_of, element_bits, bits_of}
use Rattle.field.proofs.Steps.{remaining, remaining-first, remaining-next, remaining-end}
use Rattle.field.proofs.Accepted.{with_element, with_elements}
use Rattle.field.proofs.Views.{read-values}
use Rattle.field.specs.Judgement.{means}

or_swap : (a b c : Bool) → (a || (b || c)) ≡ (b || (a || c))
or_swap true true c = refl
or_swap true false c = refl
or_swap false b c = refl

-- ---- the values of an element

module _ (high step : ℕ) (p : 0 < step) where
  past : (u v : ℕ) → high < u → is_step u high step v ≡ false
  unfolding is_step
  past u v h = elim (dec_le u v) [ yes k ↦ rw (le-leb u v k, lt-leb v high (omega arith)) | no k ↦ rw (lt-leb u v (lt_of_not-le k)) ]

  -- the first value, or one of those after it
  next : (u v : ℕ) → u ≤ high → (eqb u v || is_step (u + step) high step v) ≡ is_step u high step v
  unfolding is_step
  next u v h = elim (dec_le u v) [ yes k ↦ elim (dec_le (u + step) v) [ yes j ↦ later j | no j ↦ soon k (lt_of_not-le j) ] | no k ↦ before (lt_of_not-le k) ]
    where
      before : v < u → (eqb u v || is_step (u + step) high step v) ≡ is_step u high step v
      before k = rw (ne_eqb u v (λ e. omega (arith, e)), lt-leb u v k, lt-leb (u + step) v (omega arith))

      later : u + step ≤ v → (eqb u v || is_step (u + step) high step v) ≡ is_step u high step v
      later j =
          let r : v - u - step ≡ v - (u + step) = omega arith in
          let m : (v - u) % step ≡ (v - (u + step)) % step = mod-eq-sub-mod {n = v - u} {m = step} (omega arith) ∙ rw r in
          rw (ne_eqb u v (λ e. omega (arith, e)), le-leb u v (omega arith), le-leb (u + step) v j, m)

      same : u ≡ v → (eqb u v || is_step (u + step) high step v) ≡ is_step u high step v
      same e =
          let z : v - u ≡ 0 = omega arith in
          rw (eq-eqb u v e, le-leb u v (omega arith), le-leb v high (omega arith), z, zero-mod step)

      between : u < v → v < u + step → (eqb u v || is_step (u + step) high step v) ≡ is_step u high step v
      between k j =
          let m : (v - u) % step ≡ v - u = mod-eq_of_lt (omega arith) in
          rw (ne_eqb u v (λ e. omega (arith, e)), lt-leb (u + step) v j, le-leb u v (omega arith), m, ne_eqb (v - u) 0 (λ e. omega (arith, e)))
          (sym (and-false (leb v high)))

      soon : u ≤ v → v < u + step → (eqb u v || is_step (u + step) high step v) ≡ is_step u high step v
      soon k j = elim (dec_le v u) [ yes i ↦ same (omega arith) | no i ↦ between (lt_of_not-le i) j ]

  -- k turns are enough to pass high
  in-remaining : (k u v : ℕ) → high < u + k → is_in v (remaining high step u) ≡ is_step u high step v
  unfolding is_in
  in-remaining zero u v h = rw (remaining-end high step u p (omega arith)) (sym (past u v (omega arith)))
  in-remaining (suc k) u v h =
      elim (dec_le u high) [ yes j ↦ more j (in-remaining k (u + step) v (omega arith)) | no j ↦ rw (remaining-end high step u p (lt_of_not-le j)) (sym (past u v (lt_of_not-le j))) ]
    where
      more : u ≤ high → is_in v (remaining high step (u + step)) ≡ is_step (u + step) high step v → is_in v (remaining high step u) ≡ is_step u high step v
      more j e = rw (remaining-next high step u p j, e) (next u v j)

pub steps-members : (low high step v : ℕ) → low ≤ high → 0 < step → is_in v (values_of low high step) ≡ is_step low high step v
steps-members low high step v h p =
    rw (← remaining-first high step low p h) (in-remaining high step p (suc high) low v (omega arith))

-- ---- the bits of a set

pub map-in : (f : ℕ → ℕ) (v : ℕ) (vs : List ℕ) → is_in v vs ≡ true → is_in (f v) (map f vs) ≡ true
unfolding is_in
map-in f v [] e = absurd (false≢true e)
map-in f v (u ∷ vs) e = go (eqb u v) refl e (λ k. map-in f v vs k)
  where
    go : (t : Bool) → eqb u v ≡ t → (t || is_in v vs) ≡ true → (is_in v vs ≡ true → is_in (f v) (map f vs) ≡ true)
        → (eqb (f u) (f v) || is_in (f v) (map f vs)) ≡ true
    go true q e later = rw (eq-eqb (f u) (f v) (ap f (eqb-true u v q)))
    go false q e later = rw (later e) (or-true (eqb (f u) (f v)))

module _ (n : ℕ) (h : n < 64) where
  put_has : (set b : ℕ) → has_bit (put set b) n ≡ (eqb b n || has_bit set n)
  unfolding put
  put_has set b = go (ltb b 64) (eqb b n) refl refl
    where
      go : (t u : Bool) → ltb b 64 ≡ t → eqb b n ≡ u → has_bit (cond t (with_bit set b) set) n ≡ (u || has_bit set n)
      go true true e f = rw (eqb-true b n f) (with-has set n)
      go true false e f = with-keeps set b n (eqb-false b n f)
      go false true e f = absurd (let x = ltb-false b 64 e in let y = eqb-true b n f in omega arith)
      go false false e f = refl

  pub including-has : (l : Limits) (set : ℕ) (vs : List ℕ) → has_bit (including l set vs) n ≡ (is_in n (map (bit_of l) vs) || has_bit set n)
  unfolding including is_in
  including-has l set [] = refl
  including-has l set (v ∷ vs) =
      including-has l (put set (bit_of l v)) vs
      ∙ rw (put_has set (bit_of l v)) (or_swap (is_in n (map (bit_of l) vs)) (eqb (bit_of l v) n) (has_bit set n))
      ∙ sym (or_assoc (eqb (bit_of l v) n) (is_in n (map (bit_of l) vs)) (has_bit set n))

  pub in-append : (a b : List ℕ) → is_in n (a ++ b) ≡ (is_in n a || is_in n b)
  unfolding is_in
  in-append [] b = refl
  in-append (x ∷ a) b = rw (in-append a b) (sym (or_assoc (eqb x n) (is_in n a) (is_in n b)))

  element-has : (l : Limits) (set : ℕ) (e : Option Element) → has_bit (with_element l set e) n ≡ (is_in n (element_bits l e) || has_bit set n)
  unfolding element_bits is_in
  element-has l set (Some w) = including-has l set (range_of l w.low w.high w.step)
  element-has l set None = refl

  elements-have : (l : Limits) (set : ℕ) (es : List (Option Element)) → has_bit (with_elements l set es) n ≡ (is_in n (bits_of l es) || has_bit set n)
  unfolding bits_of is_in
  elements-have l set [] = refl
  elements-have l set (e ∷ es) =
      elements-have l (with_element l set e) es
      ∙ rw (element-has l set e, in-append (element_bits l e) (bits_of l es))
      (or_swap (is_in n (bits_of l es)) (is_in n (element_bits l e)) (has_bit set n)
      ∙ sym (or_assoc (is_in n (element_bits l e)) (is_in n (bits_of l es)) (has_bit set n)))

  pub set-members : (l : Limits) (column : ℕ) (s : List ℕ) {set : ℕ} {star : Bool} → read_field l column s ≡ means set star
      → has_bit set n ≡ is_in n (bits_of l (elements_of l s))
  set-members l column s q =
      ap (λ (x : ℕ). has_bit x n) (read-values l column s q).sets
      ∙ elements-have l 0 (elements_of l s)
      ∙ rw (none_has n) (or-false _)
