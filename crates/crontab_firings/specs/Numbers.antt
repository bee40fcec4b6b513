-- The program's numbers (X4).
-- Assumes nothing.
use Rattle.std.specs.Prelude.{refl, ℕ, ◌+◌, ◌-◌, ◌*◌, Bool, cond, ◌&&◌, List, [], ◌∷◌, ◌++◌, leb, Option, Some, None}
use Rattle.octets.specs.Texts.{text}
use Rattle.octets.specs.Rows.{Hold}
use Rattle.octets.specs.Sets.{from_on, up_to}
use Rattle.octets.specs.AllBytes.{Lead, each, outcome_of, either}

-- X4: 64 bits
abbrev pub max_number : ℕ
max_number = 18446744073709551615

-- X4: whether a byte is a digit that may follow a value
unfoldable pub goes_on : ℕ → ℕ → Bool
goes_on value b = leb 48 b && (leb b 57 && leb (value * 10 + (b - 48)) max_number)

-- X4: the digits after a value
unfoldable pub value_from : ℕ → List ℕ → Option ℕ
value_from value [] = Some value
value_from value (b ∷ s) = let later = value_from (value * 10 + (b - 48)) s in cond (goes_on value b) later None

-- X4: any bytes as a number; at least one digit
unfoldable pub number_of : List ℕ → Option ℕ
number_of [] = None
number_of (b ∷ s) = value_from 0 (b ∷ s)

arguments : Hold number_of
    ((text "0", Some 0)
    ∷ (text "0015", Some 15)
    ∷ (text "18446744073709551615", Some 18446744073709551615)
    ∷ (text "18446744073709551616", None)
    ∷ (text "18446744073709551620", None)
    ∷ (text "", None)
    ∷ (text "-1", None)
    ∷ (text "+1", None)
    ∷ (text "1 ", None)
    ∷ (text "1:", None)
    ∷ (text "1/", None)
    -- as many zeros as one likes; the last digit and the first decide
    ∷ (text "000000000000000000000000000000000000000018446744073709551615", Some 18446744073709551615)
    ∷ (text "000000000000000000000000000000000000000018446744073709551616", None)
    ∷ (text "18446744073709551609", Some 18446744073709551609)
    ∷ (text "28446744073709551615", None)
    ∷ (text "99999999999999999999", None)
    ∷ (text "184467440737095516150", None)
    ∷ (text "4294967296", Some 4294967296)
    ∷ [])
unfolding goes_on value_from number_of
arguments = refl

-- every byte alone, before a digit, after one and between two
alone : Lead (λ b. number_of (b ∷ [])) (each 48 57 (λ b. Some (b - 48)) ∷ []) (λ b. None)
unfolding goes_on value_from number_of up_to from_on outcome_of either
alone = refl

before-digit : Lead (λ b. number_of (b ∷ text "7")) (each 48 57 (λ b. Some ((b - 48) * 10 + 7)) ∷ []) (λ b. None)
unfolding goes_on value_from number_of up_to from_on outcome_of either
before-digit = refl

after-digit : Lead (λ b. number_of (text "7" ++ b ∷ [])) (each 48 57 (λ b. Some (70 + (b - 48))) ∷ []) (λ b. None)
unfolding goes_on value_from number_of up_to from_on outcome_of either
after-digit = refl

between-digits : Lead (λ b. number_of (text "7" ++ b ∷ text "8")) (each 48 57 (λ b. Some (708 + (b - 48) * 10)) ∷ []) (λ b. None)
unfolding goes_on value_from number_of up_to from_on outcome_of either
between-digits = refl
