-- The classes of bytes that a table is read by (T4, T5, S2, U2).
-- Assumes nothing.
use Rattle.std.specs.Prelude.{ℕ, Bool, not, ◌&&◌, ◌||◌, eqb, leb}
use Rattle.octets.specs.declared.class.Class.{Class}
use Rattle.octets.specs.declared.class.Class.TheVariants.{Blank, Solid, Name, Account, Not, InLine}

-- T4: space and tab
unfoldable pub is_blank : ℕ → Bool
is_blank b = eqb b 32 || eqb b 9

-- S2: `"` and `'`
unfoldable pub is_quote : ℕ → Bool
is_quote b = eqb b 34 || eqb b 39

-- U2: an ASCII letter, a digit, `_`, `-` or `.`
unfoldable pub is_account : ℕ → Bool
is_account b =
    ((leb 97 b && leb b 122) || (leb 65 b && leb b 90))
    || ((leb 48 b && leb b 57) || (eqb b 95 || (eqb b 45 || eqb b 46)))

-- T5: the control bytes
unfoldable pub is_control : ℕ → Bool
is_control b = (leb 1 b && leb b 8) || ((leb 11 b && leb b 31) || eqb b 127)

-- T2: ends a line
abbrev pub newline : ℕ
newline = 10

-- S1: between a setting's name and its value
abbrev pub equals_sign : ℕ
equals_sign = 61

-- T4, E3, S2, U2, T5: blank; not blank; in a bare name; in a user column's names; any byte but one; allowed in a line
unfoldable pub of_class : Class → ℕ → Bool
of_class Blank b = is_blank b
of_class Solid b = not (is_blank b)
of_class Name b = not (is_blank b || (eqb b equals_sign || is_quote b))
of_class Account b = is_account b
of_class (Not other) b = not (eqb b other)
of_class InLine b = not (eqb b newline || (eqb b 0 || is_control b))
