-- A line for each firing (X1): minute, space, entry number, newline.
-- Assumes nothing.
use Rattle.std.specs.Prelude.{◌≡◌, refl, ℕ, zero, suc, ◌-◌, ◌^◌, ◌≤◌, ◌<◌, List, [], ◌∷◌, ◌++◌, length, get_or}
use Rattle.std.proofs.Common.{ap, zero-lt-suc, arith}
use Rattle.std.proofs.Math.Nat.{pow-le-pow_right}
use Rattle.octets.specs.Texts.{text}
use Rattle.octets.specs.Rows.{Hold}
use Rattle.io.specs.Digits.{last_digits, IsDigitCount}

-- X1: a number in decimal, in as few digits as it takes
pub record Decimal (n : ℕ) (written : List ℕ) : Type 0 where
  pub size : ℕ
  pub fewest : IsDigitCount 10 1 n size
  pub is : written ≡ last_digits 10 size n

abbrev digits_of : ℕ × ℕ → List ℕ
digits_of (size, n) = last_digits 10 size n

numbers : Hold digits_of (((1, 0), text "0") ∷ ((3, 105), text "105") ∷ ((10, 4223371679), text "4223371679") ∷ [])
numbers = refl

-- no zero in front
no_zero : Decimal 5 (text "05") → ⊥
no_zero d = go d.size d.fewest d.is
  where
    go : (k : ℕ) → IsDigitCount 10 1 5 k → text "05" ≡ last_digits 10 k 5 → ⊥
    go zero f e = omega (arith, f.0)
    go (suc zero) f e = omega (arith, ap length e)
    go (suc (suc k)) f e =
        let ten : 10 ^ 1 ≤ 10 ^ (suc (suc k) - 1) = pow-le-pow_right (zero-lt-suc 9) (let q : 1 ≤ suc (suc k) - 1 = omega arith in q) in
        omega (arith, f.2 (omega arith))

-- X1: between minute and entry
abbrev pub space : ℕ
space = 32

-- X1: ends a line
abbrev pub newline : ℕ
newline = 10

-- X1: the line of a firing
pub record Line (minute entry : ℕ) (written : List ℕ) : Type 0 where
  pub first : List ℕ
  pub second : List ℕ
  pub minute-is : Decimal minute first
  pub entry-is : Decimal entry second
  pub is : written ≡ first ++ space ∷ [] ++ second ++ newline ∷ []

-- X1: the lines of the first i firings
abbrev pub Lines : List ℕ → List ℕ → ℕ → List ℕ → Type 0
Lines minutes entries zero written = written ≡ []
Lines minutes entries (suc i) written =
    (before : List ℕ) × (last : List ℕ) × Lines minutes entries i before × Line (get_or minutes i 0) (get_or entries i 0) last × (written ≡ before ++ last)

-- Among the first n firings, k come before those of the last minute. Only contracts of inner functions cite it.
pub record Before (minute : ℕ) (minutes : List ℕ) (n k : ℕ) : Type 0 where
  pub within : k ≤ n
  pub behind : (j : ℕ) → k ≤ j → j < n → get_or minutes j 0 ≡ minute
  pub other : 0 < k → get_or minutes (k - 1) 0 ≡ minute → ⊥
