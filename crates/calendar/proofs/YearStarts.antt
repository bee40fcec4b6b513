-- The first day of a year in closed form, for n years from 1970 on.
-- Assumes nothing.
use mathlib.Core.Path.{◌≡◌, refl, ap, ◌∙◌}
use mathlib.Core.Bool.{Bool, true, false, not, cond, ◌&&◌, ◌||◌}
use Prim.Native.Nat.{ℕ, zero, suc, ◌+◌, ◌-◌, ◌*◌, ◌/◌, ◌%◌, ◌≤◌, ◌<◌}
use native.Mathlib.Nat.{lt_of_not-le, mod-lt, div-add-mod'}
use native.Mathlib.Numerals.{add-one}
use native.Mathlib.Decide.{dec_le}
use native.Mathlib.Omega.{arith}
use lib.Dec.{eqb, lit<}
use lib.Arith.{digits_div, digits_mod}
use borrow.Author.Tests.{eqb-true, eqb-false, ne_eqb}
use Rattle.calendar.specs.Gregorian.{leap, year_days}
use Rattle.calendar.specs.Walk.{span}
use Rattle.calendar.proofs.Spans.{span_none, span_more, span-mono}

-- 1 where a test passes
abbrev pub count : Bool → ℕ
count b = cond b 1 0

-- a quotient grows by one just at a multiple of the divisor
grows : (k x : ℕ) → 0 < k → (x + 1) / k ≡ x / k + count (eqb ((x + 1) % k) 0)
grows k x pos = elim (dec_le k (x % k + 1)) [ yes h ↦ multiple h | no h ↦ other (lt_of_not-le h) ]
  where
    multiple : k ≤ x % k + 1 → (x + 1) / k ≡ x / k + count (eqb ((x + 1) % k) 0)
    multiple h =
        let e : x + 1 ≡ (x / k + 1) * k + 0 = omega (arith, div-add-mod' x k, mod-lt x pos) in
        let m : (x + 1) % k ≡ 0 = ap (λ (n : ℕ). n % k) e ∙ digits_mod (x / k + 1) pos in
        rw m (ap (λ (n : ℕ). n / k) e ∙ digits_div (x / k + 1) pos)

    other : x % k + 1 < k → (x + 1) / k ≡ x / k + count (eqb ((x + 1) % k) 0)
    other h =
        let e : x + 1 ≡ x / k * k + (x % k + 1) = omega (arith, div-add-mod' x k) in
        let m : (x + 1) % k ≡ x % k + 1 = ap (λ (n : ℕ). n % k) e ∙ digits_mod (x / k) h in
        let z : eqb (x % k + 1) 0 ≡ false = ne_eqb (x % k + 1) 0 (λ q. omega arith) in
        rw (m, z) (ap (λ (n : ℕ). n / k) e ∙ digits_div (x / k) h ∙ omega arith)

-- a year has a day more for each rule that makes it leap
leap-days : (y : ℕ) → year_days y + count (eqb (y % 100) 0) ≡ 365 + count (eqb (y % 4) 0) + count (eqb (y % 400) 0)
unfolding year_days leap
leap-days y = go (eqb (y % 4) 0) (eqb (y % 100) 0) (eqb (y % 400) 0) refl refl refl
  where
    by-100 : y % 400 ≡ 0 → y % 100 ≡ 0
    by-100 h = omega arith

    by_4 : y % 100 ≡ 0 → y % 4 ≡ 0
    by_4 h = omega arith

    go : (a b c : Bool) → eqb (y % 4) 0 ≡ a → eqb (y % 100) 0 ≡ b → eqb (y % 400) 0 ≡ c
        → cond (a && (not b || c)) 366 365 + count b ≡ 365 + count a + count c
    go true true true p q r = refl
    go true true false p q r = refl
    go true false true p q r = absurd (eqb-false (y % 100) 0 q (by-100 (eqb-true (y % 400) 0 r)))
    go true false false p q r = refl
    go false true c p q r = absurd (eqb-false (y % 4) 0 p (by_4 (eqb-true (y % 100) 0 q)))
    go false false true p q r = absurd (eqb-false (y % 100) 0 q (by-100 (eqb-true (y % 400) 0 r)))
    go false false false p q r = refl

one_more : (n s d a b c a' b' c' i j k : ℕ) → s + b + 477 ≡ 365 * n + a + c → d + j ≡ 365 + i + k
    → a' ≡ a + i → b' ≡ b + j → c' ≡ c + k → s + d + b' + 477 ≡ 365 * suc n + a' + c'
one_more n s d a b c a' b' c' i j k p q u v w = omega arith

-- the days before a year, with no minus in it
pub start-closed : (n : ℕ) → span year_days 1970 n + (n + 1969) / 100 + 477 ≡ 365 * n + (n + 1969) / 4 + (n + 1969) / 400
start-closed zero = rw (span_none year_days 1970)
start-closed (suc n) =
    let e : suc n + 1969 ≡ n + 1969 + 1 = omega arith in
    let f : 1970 + n ≡ n + 1969 + 1 = omega arith in
    rw (← add-one n, span_more year_days 1970 n, f) (rw (add-one n, e)
    (one_more n _ _ _ _ _ _ _ _ _ _ _ (start-closed n) (leap-days (n + 1969 + 1))
    (grows 4 (n + 1969) (lit< tt)) (grows 100 (n + 1969) (lit< tt)) (grows 400 (n + 1969) (lit< tt))))

-- the same, by a difference
unfoldable pub start_at : ℕ → ℕ
start_at n = 365 * n + (n + 1969) / 4 + (n + 1969) / 400 - ((n + 1969) / 100 + 477)

pub start-at : (n : ℕ) → start_at n ≡ span year_days 1970 n
unfolding start_at
start-at n = difference _ _ _ (start-closed n)
  where
    difference : (s b r : ℕ) → s + b + 477 ≡ r → r - (b + 477) ≡ s
    difference s b r h = omega arith

pub start-mono : {n j : ℕ} → n ≤ j → start_at n ≤ start_at j
start-mono {n} {j} h = rw (start-at n, start-at j) (span-mono year_days 1970 h)
