-- Laws of names: a name is the same bytes once both are in lower case, and a row of names is searched from its first.
-- Assumes nothing.
use Rattle.std.specs.Prelude.{Some, None, IsTrue, ◌↔◌, bytes_eq}
use Rattle.std.proofs.lemmas.Bool.Decides.{nat_tests}
use Rattle.std.specs.Char.{to_ascii_lowercase}
use mathlib.Core.Path.{◌≡◌, refl, sym, ◌∙◌}
use mathlib.Core.Bool.{Bool, true, false, cond, and-eq-true_iff, true≢false}
use lib.Dec.{eqb}
use mathlib.Core.List.{List, [], ◌∷◌, map}
use Prim.Native.Nat.{ℕ, zero, suc, ◌+◌, ◌<◌}
use native.Mathlib.Omega.{arith}
use native.Mathlib.Numerals.{add-one}
use lib.ListN.{length, drop, get_or}
use lib.Seq.{drop-cons, drop-length}
use Rattle.field.specs.Names.{lower, alike, named}
use Rattle.field.proofs.NameTexts.{alike-exact}

-- ---- std's test

lower-same : (b : ℕ) → to_ascii_lowercase b ≡ lower b
unfolding lower
lower-same b = grind (arith, nat_tests)

all-lower : (s : List ℕ) → map to_ascii_lowercase s ≡ map lower s
all-lower [] = refl
all-lower (b ∷ s) = rw (lower-same b, all-lower s)

pub matched : (s name : List ℕ) (r : Bool) → map lower name ≡ name → IsTrue r ↔ (map to_ascii_lowercase s ≡ map to_ascii_lowercase name)
    → r ≡ alike s name
matched s name r low h = go r (alike s name) h (alike-exact s name)
  where
    same : map lower s ≡ name → map to_ascii_lowercase s ≡ map to_ascii_lowercase name
    same e = all-lower s ∙ e ∙ sym low ∙ sym (all-lower name)

    back : map to_ascii_lowercase s ≡ map to_ascii_lowercase name → map lower s ≡ name
    back e = sym (all-lower s) ∙ e ∙ all-lower name ∙ low

    go : (r t : Bool) → IsTrue r ↔ (map to_ascii_lowercase s ≡ map to_ascii_lowercase name)
        → (t ≡ true → map lower s ≡ name) × (map lower s ≡ name → t ≡ true) → r ≡ t
    go true t h k = sym (k.1 (back (h.0 refl)))
    go false false h k = refl
    go false true h k = h.1 (same (k.0 refl))

-- `==` once the bytes are in lower case
pub lowered : (s name : List ℕ) → bytes_eq (map to_ascii_lowercase s) name ≡ alike s name
unfolding alike
lowered [] [] = refl
lowered (b ∷ s) (x ∷ name) = rw (lower-same b, lowered s name)
lowered [] (x ∷ name) = refl
lowered (b ∷ s) [] = refl

pub alike-length : (s name : List ℕ) → alike s name ≡ true → length s ≡ length name
unfolding alike
alike-length [] [] e = refl
alike-length [] (x ∷ name) e = absurd (true≢false (sym e))
alike-length (b ∷ s) [] e = absurd (true≢false (sym e))
alike-length (b ∷ s) (x ∷ name) e = rw (alike-length s name ((and-eq-true_iff (eqb (lower b) x) (alike s name)).0 e).1)

-- ---- a row of names

pub in_lower : (names : List (List ℕ)) → map (map lower) names ≡ names → (i : ℕ) → i < length names → map lower (get_or names i []) ≡ get_or names i []
in_lower [] h i k = absurd (omega arith)
in_lower (name ∷ names) h zero k = cc
in_lower (name ∷ names) h (suc i) k = in_lower names (cc) i (omega arith)

-- a name has three letters
pub named-short : (n : ℕ) (names : List (List ℕ)) (s : List ℕ) → map length names ≡ map (λ _. 3) names → (length s ≡ 3 → ⊥) → named n names s ≡ None
unfolding named
named-short n [] s h short = refl
named-short n (name ∷ names) s h short = go (alike s name) refl (named-short (suc n) names s (cc) short)
  where
    go : (same : Bool) → alike s name ≡ same → named (suc n) names s ≡ None → cond same (Some n) (named (suc n) names s) ≡ None
    go true e later = absurd (short (alike-length s name e ∙ cc))
    go false e later = later

module _ (first : ℕ) (names : List (List ℕ)) (s : List ℕ) (i : ℕ) where
  pub named-hit : i < length names → alike s (get_or names i []) ≡ true → named (first + i) (drop i names) s ≡ Some (first + i)
  unfolding named
  named-hit h e = rw (drop-cons names i [] h, e)

  pub named-miss : i < length names → alike s (get_or names i []) ≡ false
      → named (first + i) (drop i names) s ≡ named (first + (i + 1)) (drop (i + 1) names) s
  unfolding named
  named-miss h e = let next : suc (first + i) ≡ first + suc i = omega arith in rw (drop-cons names i [] h, e, add-one i, next)

  pub named-past : i ≡ length names → named (first + i) (drop i names) s ≡ None
  unfolding named
  named-past e = rw (e, drop-length names)
