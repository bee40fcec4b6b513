-- A name in any letter case, and no other bytes: what is read as a name is, in lower case, the name in that place of the row of names.
-- Assumes nothing.
use Rattle.std.specs.Prelude.{Some}
use mathlib.Core.Path.{◌≡◌, refl}
use mathlib.Core.Bool.{Bool, true, false, cond, ◌&&◌, and-eq-true_iff, false≢true}
use mathlib.Core.List.{List, [], ◌∷◌, map}
use Prim.Native.Nat.{ℕ, suc, ◌+◌, ◌<◌}
use native.Mathlib.Omega.{arith}
use lib.Dec.{eqb, leb}
use lib.ListN.{length, get_or}
use borrow.Author.Tests.{eqb-true, eq-eqb, le-leb, lt-leb, leb-true}
use Rattle.field.specs.declared.Names.{Names}
use Rattle.field.specs.declared.Names.TheVariants.{Months, Weekdays}
use Rattle.field.specs.declared.Names.TheVariants as names
use Rattle.field.specs.Names.{lower, alike, month_names, weekday_names, named, name_of, is_sunday}

-- the same in lower case
pub alike-exact : (s name : List ℕ) → (alike s name ≡ true → map lower s ≡ name) × (map lower s ≡ name → alike s name ≡ true)
unfolding alike
alike-exact [] [] = (λ e. refl, λ e. refl)
alike-exact [] (x ∷ name) = (λ e. absurd (false≢true e), λ e. let z : ◌≡◌ {A = ℕ} 0 1 = cc in absurd (omega arith))
alike-exact (b ∷ s) [] = (λ e. absurd (false≢true e), λ e. let z : ◌≡◌ {A = ℕ} 0 1 = cc in absurd (omega arith))
alike-exact (b ∷ s) (x ∷ name) =
    let later = alike-exact s name in (
      λ e.
          let t = (and-eq-true_iff (eqb (lower b) x) (alike s name)).0 e in
          let p = eqb-true (lower b) x t.0 in
          let q = later.0 t.1 in
          cc,
      λ e.
          let p : lower b ≡ x = cc in
          let q : map lower s ≡ name = cc in
          rw (eq-eqb (lower b) x p, later.1 q) refl,
    )

lower-twice : (b : ℕ) → lower (lower b) ≡ lower b
unfolding lower
lower-twice b = go (leb 65 b && leb b 90) refl
  where
    go : (t : Bool) → (leb 65 b && leb b 90) ≡ t → cond (leb 65 (cond t (b + 32) b) && leb (cond t (b + 32) b) 90) (cond t (b + 32) b + 32) (cond t (b + 32) b) ≡ cond t (b + 32) b
    go true e =
        let r = (and-eq-true_iff (leb 65 b) (leb b 90)).0 e in
        let low = leb-true 65 b r.0 in
        rw (le-leb 65 (b + 32) (omega arith), lt-leb (b + 32) 90 (omega arith)) refl
    go false e = rw e refl

alike-lower : (s name : List ℕ) → alike (map lower s) name ≡ alike s name
unfolding alike
alike-lower [] [] = refl
alike-lower [] (x ∷ name) = refl
alike-lower (b ∷ s) [] = refl
alike-lower (b ∷ s) (x ∷ name) = rw (lower-twice b, alike-lower s name) refl

named-lower : (n : ℕ) (names : List (List ℕ)) (s : List ℕ) → named n names (map lower s) ≡ named n names s
unfolding named
named-lower n [] s = refl
named-lower n (name ∷ names) s = rw (alike-lower s name, named-lower (suc n) names s) refl

-- letter case doesn't matter, whatever the bytes
pub name-any-case : (names : Names) (s : List ℕ) → (name_of names (map lower s) ≡ name_of names s) × (is_sunday names (map lower s) ≡ is_sunday names s)
unfolding name_of is_sunday
name-any-case names.None s = (refl, refl)
name-any-case Months s = (named-lower 1 month_names s, refl)
name-any-case Weekdays s = (named-lower 0 weekday_names s, alike-lower s _)

-- a name of the row, in its place; the first has the number `first`
pub record Named (first : ℕ) (names : List (List ℕ)) (s : List ℕ) (n : ℕ) : Type 0 where
  pub place : ℕ
  pub within : place < length names
  pub number : n ≡ first + place
  pub bytes : map lower s ≡ get_or names place []

named-exact : (first : ℕ) (names : List (List ℕ)) (s : List ℕ) (n : ℕ) → named first names s ≡ Some n → Named first names s n
unfolding named
named-exact first [] s n e = let z : ◌≡◌ {A = ℕ} 0 1 = cc in absurd (omega arith)
named-exact first (name ∷ names) s n e = go (alike s name) refl e (named-exact (suc first) names s n)
  where
    go : (t : Bool) → alike s name ≡ t → cond t (Some first) (named (suc first) names s) ≡ Some n → (named (suc first) names s ≡ Some n → Named (suc first) names s n)
        → Named first (name ∷ names) s n
    go true p q later = let z : first ≡ n = cc in record { place = 0; within = omega arith; number = omega arith; bytes = (alike-exact s name).0 p }
    go false p q later = let r = later q in record { place = suc r.place; within = omega (arith, r.within); number = omega (arith, r.number); bytes = r.bytes }

-- no other bytes are a name
pub month-exact : (s : List ℕ) {n : ℕ} → name_of Months s ≡ Some n → Named 1 month_names s n
unfolding name_of
month-exact s {n} e = named-exact 1 month_names s n e

pub weekday-exact : (s : List ℕ) {n : ℕ} → name_of Weekdays s ≡ Some n → Named 0 weekday_names s n
unfolding name_of
weekday-exact s {n} e = named-exact 0 weekday_names s n e
