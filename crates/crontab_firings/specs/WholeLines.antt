-- What is written for firings, byte by byte, and which table the program reads (X1): a user table, in the rising dialect.
-- Assumes nothing.
use Rattle.std.specs.Prelude.{◌≡◌, refl, ℕ, zero, suc, ◌-◌, ◌^◌, ◌≤◌, ◌<◌, List, [], ◌∷◌, ◌++◌}
use Rattle.std.proofs.Common.{◌∙◌, zero-lt-suc, arith}
use Rattle.std.proofs.Math.Nat.{pow-le-pow_right}
use Rattle.octets.specs.Texts.{text}
use Rattle.io.specs.Digits.{last_digits, IsDigitCount}
use Rattle.crontab.specs.Tables.{refusal_in}
use Rattle.crontab.specs.Computing.{zoning}
use Rattle.firings.specs.Calls.{minutes_of, entries_of}
use Rattle.crontab_firings.specs.Lines.{Decimal, Line}
use Rattle.crontab_firings.specs.Pieces.{user_table, LinesOf}

-- ---- lines

-- a number below ten is one digit, and nothing else is
digit-of : (n : ℕ) (t : List ℕ) → n < 10 → Decimal n t → t ≡ last_digits 10 1 n
digit-of n t h d = go d.size d.fewest d.is
  where
    go : (k : ℕ) → IsDigitCount 10 1 n k → t ≡ last_digits 10 k n → t ≡ last_digits 10 1 n
    go zero f e = absurd (omega (arith, f.0))
    go (suc zero) f e = e
    go (suc (suc k)) f e =
        let ten : 10 ^ 1 ≤ 10 ^ (suc (suc k) - 1) = pow-le-pow_right (zero-lt-suc 9) (let q : 1 ≤ suc (suc k) - 1 = omega arith in q) in
        absurd (omega (arith, f.2 (omega arith), ten, h))

-- of minute 5 and entry 1 only this line is written
line-is : (written : List ℕ) → Line 5 1 written → written ≡ text "5 1\n"
line-is written l = l.is ∙ rw (digit-of 5 l.first (omega arith) l.minute-is, digit-of 1 l.second (omega arith) l.entry-is)

one-digit : (n : ℕ) → n < 10 → Decimal n (last_digits 10 1 n)
one-digit n h = record { size = 1; fewest = (omega arith, omega arith, (λ x. absurd (omega arith))); is = refl }

-- and it is one; two firings are two lines, in their order
line_of : (minute entry : ℕ) → minute < 10 → entry < 10 → Line minute entry (last_digits 10 1 minute ++ text " " ++ last_digits 10 1 entry ++ text "\n")
line_of minute entry h k =
    record { first = last_digits 10 1 minute; second = last_digits 10 1 entry; minute-is = one-digit minute h; entry-is = one-digit entry k; is = refl }

two-lines : LinesOf (record { minute = 5; entry = 1 } ∷ record { minute = 6; entry = 0 } ∷ []) (text "5 1\n6 0\n")
unfolding minutes_of entries_of
two-lines = (
  text "5 1\n",
  text "6 0\n",
  ([], text "5 1\n", refl, line_of 5 1 (omega arith) (omega arith), refl),
  line_of 6 0 (omega arith) (omega arith),
  refl,
)

-- ---- the table

-- a range over midnight is 7, 7 is a Sunday, and there is no user column
read_as : (refusal_in (user_table (text "0 22-3 * * * x\n")) ≡ 7) × (refusal_in (user_table (text "0 0 * * 7 x\n")) ≡ 0) × (refusal_in (user_table (text "@reboot -a\n")) ≡ 0)
unfolding zoning
read_as = (refl, refl, refl)
