-- `octets::class::is_account` meets its contract: std tells upper case first, and the definition lower case.
-- Assumes nothing.
use mathlib.Core.Path.{◌≡◌, refl}
use mathlib.Core.Bool.{Bool, true, false, ◌&&◌, ◌||◌}
use Prim.Native.Nat.{ℕ}
use lib.Dec.{eqb, leb}
use Rattle.std.specs.Char.{is_ascii_alphabetic, is_ascii_digit}
use Rattle.octets.specs.Classes.{is_account}
use Rattle.octets.proofs.class.is_account.Goals as goal

turned : (upper lower other : Bool) → ((upper || lower) || other) ≡ ((lower || upper) || other)
turned true true other = refl
turned true false other = refl
turned false true other = refl
turned false false other = refl

account : (b : ℕ) → (is_ascii_alphabetic b || (is_ascii_digit b || (eqb b 95 || (eqb b 45 || eqb b 46)))) ≡ is_account b
unfolding is_account
account b = turned (leb 65 b && leb b 90) (leb 97 b && leb b 122) ((leb 48 b && leb b 57) || (eqb b 95 || (eqb b 45 || eqb b 46)))

pub returns : goal.returns
returns c = rw (c.is_ascii_alphabetic.ensures.value, c.is_ascii_digit.ensures.value) (account c.args.b)
