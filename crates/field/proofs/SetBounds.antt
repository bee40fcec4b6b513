-- Which bits the set of a field may have: those of its width, and of values of the limits.
-- Assumes nothing.
use Rattle.std.specs.Prelude.{Option, None, Some}
use mathlib.Core.Path.{◌≡◌, refl, sym, ◌∙◌}
use mathlib.Core.Logic.{◌⊎◌, inl, inr, ⊎_elim}
use mathlib.Core.Bool.{Bool, true, false, cond, ◌&&◌, ◌||◌, false≢true, and-eq-true_iff, or-true}
use mathlib.Core.List.{List, [], ◌∷◌, map}
use Prim.Native.Nat.{ℕ, ◌+◌, ◌-◌, ◌%◌, ◌^◌, ◌≤◌, ◌<◌}
use native.Mathlib.Omega.{arith}
use lib.Pow.{pow_pos}
use lib.Dec.{ltb, leb, eqb}
use borrow.Author.Tests.{leb-true, eq-eqb, eqb-true}
use Rattle.octets.specs.Sets.{has_bit, with_bit, put}
use Rattle.octets.proofs.Sets.{with-fits}
use Rattle.field.specs.declared.Limits.{Limits}
use Rattle.field.specs.declared.element.Element.{Element}
use Rattle.field.specs.Values.{last_of, range_of, bit_of, including}
use Rattle.field.specs.Fields.{read_field}
use Rattle.field.specs.Members.{is_in, is_step, elements_of, element_bits, bits_of}
use Rattle.field.proofs.Accepted.{Accepted, Each, with_elements}
use Rattle.field.proofs.Views.{read-values}
use Rattle.field.proofs.UsualLimits.{Usual, bit-value}
use Rattle.field.proofs.Steps.{own-bit}
use Rattle.field.proofs.Members.{steps-members, set-members, in-append}
use Rattle.field.proofs.Ranges.{last-bounds}
use Rattle.field.specs.Judgement.{means}

or_cases : (a b : Bool) → (a || b) ≡ true → (a ≡ true) ⊎ (b ≡ true)
or_cases true b e = inl refl
or_cases false b e = inr e

-- ---- the width of a set

pub in-range : (low high step v : ℕ) → is_step low high step v ≡ true → (low ≤ v) × (v ≤ high)
unfolding is_step
in-range low high step v e =
    let t = (and-eq-true_iff (leb low v) (leb v high && eqb ((v - low) % step) 0)).0 e in
    (leb-true _ _ t.0, leb-true _ _ ((and-eq-true_iff (leb v high) (eqb ((v - low) % step) 0)).0 t.1).0)

-- a value from the first on, up to once round the field
abbrev pub Reached : Limits → ℕ → Type 0
Reached l v = (l.first ≤ v) × (v + l.first < l.bits + l.bits)

pub range-reached : (l : Limits) → Usual l → {low high step : ℕ} → Accepted l low high step → (v : ℕ) → is_in v (range_of l low high step) ≡ true
    → Reached l v
unfolding range_of
range-reached l u {low} {high} {step} a v e =
    let b = last-bounds l u a in
    let r = in-range low (last_of l low high) step v (sym (steps-members low (last_of l low high) step v b.0 a.steps) ∙ e) in
    (omega (arith, r.0, a.from), omega (arith, r.1, b.1))

module _ (l : Limits) where
  put-fits : (set v : ℕ) → set < 2 ^ l.bits → Reached l v → put set (bit_of l v) < 2 ^ l.bits
  unfolding put
  put-fits set v h k = go (ltb (bit_of l v) 64)
    where
      go : (t : Bool) → cond t (with_bit set (bit_of l v)) set < 2 ^ l.bits
      go true = with-fits l.bits h (bit-value l v k.0 k.1).1
      go false = h

  pub including-fits : (set : ℕ) (vs : List ℕ) → set < 2 ^ l.bits → ((v : ℕ) → is_in v vs ≡ true → Reached l v) → including l set vs < 2 ^ l.bits
  unfolding including is_in
  including-fits set [] h k = h
  including-fits set (v ∷ vs) h k =
      including-fits (put set (bit_of l v)) vs (put-fits set v h (k v (rw (eq-eqb v v refl)))) (λ u e. k u (rw e (or-true (eqb v u))))

module _ (l : Limits) (u : Usual l) where
  elements-fit : (set : ℕ) (es : List (Option Element)) → set < 2 ^ l.bits → Each l es → with_elements l set es < 2 ^ l.bits
  elements-fit set [] h k = h
  elements-fit set (Some w ∷ es) h k =
      elements-fit (including l set (range_of l w.low w.high w.step)) es
      (including-fits l set (range_of l w.low w.high w.step) h (range-reached l u k.0))
      k.1
  elements-fit set (None ∷ es) h k = absurd k.0

  pub set-fits : (column : ℕ) (s : List ℕ) {set : ℕ} {star : Bool} → read_field l column s ≡ means set star → set < 2 ^ l.bits
  set-fits column s q = let g = read-values l column s q in rw g.sets (elements-fit 0 (elements_of l s) (pow_pos l.bits) g.accepted)

-- ---- only values of the limits

-- n is the bit of a value of the limits
pub record Within (l : Limits) (n : ℕ) : Type 0 where
  pub value : ℕ
  pub from : l.first ≤ value
  pub to : value ≤ l.last
  pub bit : bit_of l value ≡ n

module _ (l : Limits) (u : Usual l) (n : ℕ) (word : n < 64) where
  pub values-within : (vs : List ℕ) → ((v : ℕ) → is_in v vs ≡ true → Reached l v) → is_in n (map (bit_of l) vs) ≡ true → Within l n
  unfolding is_in
  values-within [] k e = absurd (false≢true e)
  values-within (v ∷ vs) k e =
      ⊎_elim
      (λ t. here v (k v (rw (eq-eqb v v refl))) (eqb-true (bit_of l v) n t))
      (λ t. values-within vs (λ u i. k u (rw i (or-true (eqb v u)))) t)
      (or_cases (eqb (bit_of l v) n) (is_in n (map (bit_of l) vs)) e)
    where
      here : (v : ℕ) → Reached l v → bit_of l v ≡ n → Within l n
      here v w q =
          let b = bit-value l v w.0 w.1 in
          let own : n < l.bits = omega (arith, b.1, q) in
          record { value = n; from = omega (arith, b.0, q); to = omega (arith, own, u.within); bit = own-bit l n own }

  elements-within : (es : List (Option Element)) → Each l es → is_in n (bits_of l es) ≡ true → Within l n
  unfolding is_in bits_of element_bits
  elements-within [] k e = absurd (false≢true e)
  elements-within (None ∷ es) k e = absurd k.0
  elements-within (Some w ∷ es) k e =
      ⊎_elim
      (λ t. values-within (range_of l w.low w.high w.step) (range-reached l u k.0) t)
      (λ t. elements-within es k.1 t)
      (or_cases _ _ (sym (in-append n word (map (bit_of l) (range_of l w.low w.high w.step)) (bits_of l es)) ∙ e))

  pub set-within : (column : ℕ) (s : List ℕ) {set : ℕ} {star : Bool} → read_field l column s ≡ means set star → has_bit set n ≡ true → Within l n
  set-within column s q e =
      elements-within (elements_of l s) (read-values l column s q).accepted (sym (set-members n word l column s q) ∙ e)
