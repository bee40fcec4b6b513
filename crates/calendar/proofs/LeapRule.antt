-- Which years are leap, and how long each month is, in plain numbers: "in years divisible by 4, but not in those divisible by 100 unless by 400".
-- Assumes nothing.
use mathlib.Core.Path.{◌≡◌, refl, sym, ◌∙◌}
use mathlib.Core.Bool.{Bool, true, false, not, ◌&&◌, ◌||◌, true≢false, and-false}
use mathlib.Core.Logic.{◌⊎◌, inl, inr}
use Prim.Native.Nat.{ℕ, ◌%◌, ◌<◌}
use lib.Dec.{eqb, leb}
use borrow.Author.Tests.{eq-eqb, ne_eqb, eqb-true, lt-leb}
use Rattle.calendar.specs.Gregorian.{leap, year_days, month_days, month_length, month_table}

pub leap-exact : (y : ℕ)
    → (leap y ≡ true → (y % 4 ≡ 0) × ((y % 100 ≡ 0 → ⊥) ⊎ (y % 400 ≡ 0)))
    × (y % 4 ≡ 0 → (y % 100 ≡ 0 → ⊥) ⊎ (y % 400 ≡ 0) → leap y ≡ true)
unfolding leap
leap-exact y = (only (eqb (y % 4) 0) (eqb (y % 100) 0) (eqb (y % 400) 0) refl refl refl, each)
  where
    only : (a b c : Bool) → eqb (y % 4) 0 ≡ a → eqb (y % 100) 0 ≡ b → eqb (y % 400) 0 ≡ c
        → (a && (not b || c)) ≡ true → (y % 4 ≡ 0) × ((y % 100 ≡ 0 → ⊥) ⊎ (y % 400 ≡ 0))
    only true false c p q r t = (eqb-true (y % 4) 0 p, inl (λ e. true≢false (sym (eq-eqb (y % 100) 0 e) ∙ q)))
    only true true true p q r t = (eqb-true (y % 4) 0 p, inr (eqb-true (y % 400) 0 r))
    only true true false p q r t = absurd (true≢false (sym t))
    only false b c p q r t = absurd (true≢false (sym t))

    last : (b : Bool) → (not b || true) ≡ true
    last true = refl
    last false = refl

    each : y % 4 ≡ 0 → (y % 100 ≡ 0 → ⊥) ⊎ (y % 400 ≡ 0) → (eqb (y % 4) 0 && (not (eqb (y % 100) 0) || eqb (y % 400) 0)) ≡ true
    each four (inl n) = rw (eq-eqb (y % 4) 0 four, ne_eqb (y % 100) 0 n)
    each four (inr k) = rw (eq-eqb (y % 4) 0 four, eq-eqb (y % 400) 0 k) (last (eqb (y % 100) 0))

-- and what comes of it: the days of a year, and of its February
pub leap-days : (y : ℕ) → leap y ≡ true → (year_days y ≡ 366) × (month_days y 2 ≡ 29)
unfolding year_days month_days month_length month_table
leap-days y h = rw h (refl, refl)

pub plain-days : (y : ℕ) → leap y ≡ false → (year_days y ≡ 365) × (month_days y 2 ≡ 28)
unfolding year_days month_days month_length month_table
plain-days y h = rw h (refl, refl)

-- every other month is as long in every year, and a number that is no month has no days
pub month-days : (y : ℕ)
    → (month_days y 1 ≡ 31) × (month_days y 3 ≡ 31) × (month_days y 4 ≡ 30) × (month_days y 5 ≡ 31) × (month_days y 6 ≡ 30) × (month_days y 7 ≡ 31)
    × (month_days y 8 ≡ 31) × (month_days y 9 ≡ 30) × (month_days y 10 ≡ 31) × (month_days y 11 ≡ 30) × (month_days y 12 ≡ 31) × (month_days y 0 ≡ 0)
unfolding month_days month_length month_table
month-days y = go (leap y)
  where
    go : (b : Bool)
        → (month_length b 1 ≡ 31) × (month_length b 3 ≡ 31) × (month_length b 4 ≡ 30) × (month_length b 5 ≡ 31) × (month_length b 6 ≡ 30) × (month_length b 7 ≡ 31)
        × (month_length b 8 ≡ 31) × (month_length b 9 ≡ 30) × (month_length b 10 ≡ 31) × (month_length b 11 ≡ 30) × (month_length b 12 ≡ 31) × (month_length b 0 ≡ 0)
    go true = (refl, refl, refl, refl, refl, refl, refl, refl, refl, refl, refl, refl)
    go false = (refl, refl, refl, refl, refl, refl, refl, refl, refl, refl, refl, refl)

pub no-month : (y m : ℕ) → 12 < m → month_days y m ≡ 0
unfolding month_days month_length
no-month y m h = rw (lt-leb m 12 h, and-false (leb 1 m))
