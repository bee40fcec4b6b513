-- The text of a field that doesn't begin with `*` (P5): the values of the set are all there, each once and rising, and their texts follow one another
-- with a comma between. Of any set.
-- Assumes nothing.
use mathlib.Core.Path.{◌≡◌, refl, ap, ◌∙◌}
use mathlib.Core.Bool.{Bool, true, false, cond, ◌&&◌, ◌||◌}
use mathlib.Core.List.{List, [], ◌∷◌, ◌++◌, append-nil}
use Prim.Native.Nat.{ℕ, zero, suc, ◌+◌, ◌-◌, ◌*◌, ◌/◌, ◌%◌, ◌≤◌, ◌<◌}
use native.Mathlib.Nat.{lt_of_not-le}
use native.Mathlib.Decide.{dec_le}
use native.Mathlib.Omega.{arith}
use lib.Dec.{eqb, leb, ltb}
use borrow.Author.Tests.{eqb-true, eq-eqb, ne_eqb, le-leb, lt-leb, lt-ltb, le-ltb}
use Rattle.octets.specs.Digits.{digit, number_text}
use Rattle.octets.specs.Sets.{has_bit, from_on}
use Rattle.field.specs.declared.Limits.{Limits}
use Rattle.field.specs.Fields.{comma}
use Rattle.field.specs.Members.{is_in}
use Rattle.field.specs.Written.{having, members, after_commas, list_text, field_text}

-- ---- which values

having-exact : (set v : ℕ) (vs : List ℕ) → is_in v (having set vs) ≡ (has_bit set v && is_in v vs)
unfolding having is_in
having-exact set v [] = go (has_bit set v)
  where
    go : (t : Bool) → false ≡ (t && false)
    go true = refl
    go false = refl
having-exact set v (u ∷ vs) = go (has_bit set u) (eqb u v) refl refl (having-exact set v vs)
  where
    go : (t e : Bool) → has_bit set u ≡ t → eqb u v ≡ e → is_in v (having set vs) ≡ (has_bit set v && is_in v vs)
        → is_in v (cond t (u ∷ having set vs) (having set vs)) ≡ (has_bit set v && (e || is_in v vs))
    go true true p q later = rw q (here (ap (has_bit set) (eqb-true u v q)) p)
      where
        here : has_bit set u ≡ has_bit set v → has_bit set u ≡ true → true ≡ (has_bit set v && true)
        here a b = rw (← a, b) refl
    go true false p q later = rw q later
    go false true p q later = rw (later, ← ap (has_bit set) (eqb-true u v q), p) refl
    go false false p q later = later

from-exact : (n count v : ℕ) → is_in v (from_on n count) ≡ (leb n v && ltb v (n + count))
unfolding is_in from_on
from-exact n zero v = elim (dec_le n v) [ yes h ↦ rw (le-leb n v h, le-ltb v (n + 0) (omega arith)) refl | no h ↦ rw (lt-leb n v (lt_of_not-le h)) refl ]
from-exact n (suc count) v = rw (from-exact (suc n) count v) (elim (dec_le n v) [ yes h ↦ elim (dec_le v n) [ yes k ↦ same (omega arith) | no k ↦ later (lt_of_not-le k) ] | no h ↦ before (lt_of_not-le h) ])
  where
    same : n ≡ v → (eqb n v || (leb (suc n) v && ltb v (suc n + count))) ≡ (leb n v && ltb v (n + suc count))
    same e = rw (eq-eqb n v e, le-leb n v (omega arith), lt-ltb v (n + suc count) (omega arith)) refl

    before : v < n → (eqb n v || (leb (suc n) v && ltb v (suc n + count))) ≡ (leb n v && ltb v (n + suc count))
    before h = rw (ne_eqb n v (λ e. omega (arith, e)), lt-leb (suc n) v (omega arith), lt-leb n v h) refl

    later : n < v → (eqb n v || (leb (suc n) v && ltb v (suc n + count))) ≡ (leb n v && ltb v (n + suc count))
    later h = let e : suc n + count ≡ n + suc count = omega arith in rw (ne_eqb n v (λ q. omega (arith, q)), le-leb (suc n) v (omega arith), le-leb n v (omega arith), e) refl

-- the values of the set within the field, and no others
pub members-exact : (l : Limits) → l.first ≤ l.bits → (set v : ℕ) → is_in v (members l set) ≡ (has_bit set v && (leb l.first v && ltb v l.bits))
unfolding members
members-exact l order set v =
    let e : l.first + (l.bits - l.first) ≡ l.bits = omega arith in
    having-exact set v (from_on l.first (l.bits - l.first)) ∙ rw (from-exact l.first (l.bits - l.first) v, e) refl

-- from n on, and each above the one before
abbrev pub Rises : ℕ → List ℕ → Type 0
Rises n [] = Unit {0}
Rises n (v ∷ vs) = (n ≤ v) × Rises (suc v) vs

rises-lower : (n : ℕ) (vs : List ℕ) → Rises (suc n) vs → Rises n vs
rises-lower n [] h = tt
rises-lower n (v ∷ vs) h = (omega (arith, h.0), h.1)

having-rises : (set n count : ℕ) → Rises n (having set (from_on n count))
unfolding having from_on
having-rises set n zero = tt
having-rises set n (suc count) = go (has_bit set n) (having-rises set (suc n) count)
  where
    go : (t : Bool) → Rises (suc n) (having set (from_on (suc n) count)) → Rises n (cond t (n ∷ having set (from_on (suc n) count)) (having set (from_on (suc n) count)))
    go true h = (omega arith, h)
    go false h = rises-lower n (having set (from_on (suc n) count)) h

pub members-rise : (l : Limits) (set : ℕ) → Rises l.first (members l set)
unfolding members
members-rise l set = having-rises set l.first (l.bits - l.first)

-- ---- their text

-- one value; and a value before others
pub list-one : (v : ℕ) → list_text (v ∷ []) ≡ number_text v
unfolding list_text after_commas
list-one v = append-nil (number_text v)

pub list-more : (v w : ℕ) (vs : List ℕ) → list_text (v ∷ w ∷ vs) ≡ number_text v ++ comma ∷ list_text (w ∷ vs)
unfolding list_text after_commas
list-more v w vs = refl

pub list-field : (l : Limits) (set : ℕ) → field_text l set false ≡ list_text (members l set)
unfolding field_text
list-field l set = refl

-- a digit, or two with no zero in front
pub number_short : (n : ℕ) → n < 10 → number_text n ≡ digit n ∷ []
unfolding number_text
number_short n h = rw (lt-ltb n 10 h) refl

pub number-two : (a b : ℕ) → 1 ≤ a → b < 10 → (n : ℕ) → n ≡ b + a * 10 → number_text n ≡ digit a ∷ digit b ∷ []
unfolding number_text
number-two a b h k n e =
    let q : n / 10 ≡ a = omega arith in
    let r : n % 10 ≡ b = omega arith in
    rw (le-ltb n 10 (omega arith), q, r) refl
