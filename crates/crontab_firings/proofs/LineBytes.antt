-- What a line and a list of lines are, byte by byte, for any minute and any entry: "a line each: minute, space, entry number".
-- Assumes nothing.
use mathlib.Core.Path.{◌≡◌, ap, ◌∙◌}
use mathlib.Core.List.{List, [], ◌∷◌, ◌++◌}
use Prim.Native.Nat.{ℕ, suc, ◌+◌, ◌-◌, ◌^◌, ◌≤◌, ◌<◌}
use native.Mathlib.Nat.{zero-lt-suc, pow-le-pow_right, lt_of_not-le}
use native.Mathlib.Decide.{dec_le}
use native.Mathlib.Omega.{arith}
use lib.ListN.{get_or}
use Rattle.std.specs.Prelude.{Result}
use Rattle.io.specs.Digits.{last_digits, IsDigitCount}
use Rattle.crontab.specs.declared.table.Table.{Table}
use Rattle.crontab.specs.declared.table.TableFault.{TableFault}
use Rattle.firings.specs.Lists.{merged_over, merged_up_to, merged_of}
use Rattle.firings.specs.Calls.{minutes_of, entries_of}
use Rattle.crontab_firings.specs.Lines.{Decimal, Line, Lines}
use Rattle.crontab_firings.specs.Pieces.{Pieces}
use Rattle.crontab_firings.proofs.Pieces.{pieces_whole}

-- a number has one text
fewer : (n i j : ℕ) → IsDigitCount 10 1 n i → IsDigitCount 10 1 n j → i < j → ⊥
fewer n i j f g h =
    let pow : 10 ^ i ≤ 10 ^ (j - 1) = pow-le-pow_right (zero-lt-suc 9) (let q : i ≤ j - 1 = omega arith in q) in
    omega (arith, f.1, g.2 (omega (arith, f.0)), pow)

fewest-one : (n i j : ℕ) → IsDigitCount 10 1 n i → IsDigitCount 10 1 n j → i ≡ j
fewest-one n i j f g = elim (dec_le i j) [ yes h ↦ elim (dec_le j i) [ yes k ↦ omega arith | no k ↦ absurd (fewer n i j f g (lt_of_not-le k)) ] | no h ↦ absurd (fewer n j i g f (lt_of_not-le h)) ]

decimal-is : (n i : ℕ) (t : List ℕ) → Decimal n t → IsDigitCount 10 1 n i → t ≡ last_digits 10 i n
decimal-is n i t d f = let e = fewest-one n d.size i d.fewest f in d.is ∙ ap (λ (k : ℕ). last_digits 10 k n) e

-- the line of a minute and an entry of so many digits
module _ (minute entry i j : ℕ) (f : IsDigitCount 10 1 minute i) (g : IsDigitCount 10 1 entry j) where
  abbrev pub bytes_of : List ℕ
  bytes_of = last_digits 10 i minute ++ 32 ∷ [] ++ last_digits 10 j entry ++ 10 ∷ []

  pub line-bytes : (written : List ℕ) → Line minute entry written → written ≡ bytes_of
  line-bytes written l = l.is ∙ rw (decimal-is minute i l.first l.minute-is f, decimal-is entry j l.second l.entry-is g)

  -- one firing more is one line more, at the end
  pub lines-bytes : (minutes entries : List ℕ) (n : ℕ) (written : List ℕ) → get_or minutes n 0 ≡ minute → get_or entries n 0 ≡ entry
      → Lines minutes entries (suc n) written → (before : List ℕ) × Lines minutes entries n before × (written ≡ before ++ bytes_of)
  lines-bytes minutes entries n written at by (before, last, earlier, line, is) =
      (before, earlier, is ∙ rw (line-bytes last (rw (at, by) at line)))

-- the greatest minute and the greatest entry
pub last-line-bytes : (written : List ℕ) → Line 4223371679 511 written → written ≡ last_digits 10 10 4223371679 ++ 32 ∷ [] ++ last_digits 10 3 511 ++ 10 ∷ []
last-line-bytes written l = line-bytes 4223371679 511 10 3 (omega arith, omega arith, λ _. omega arith) (omega arith, omega arith, λ _. omega arith) written l

-- where b isn't after a, nothing is written, in as many pieces as one likes
none-merged : (t : Result Table TableFault) (a b : ℕ) → b ≤ a → merged_of t a b ≡ []
unfolding merged_of merged_up_to merged_over
none-merged t a b h = let z : b + 1 - (a + 1) ≡ 0 = omega arith in rw z

pub pieces_none : (t : Result Table TableFault) (a b : ℕ) (written : List ℕ) → b ≤ a → Pieces t b a written → written ≡ []
unfolding minutes_of entries_of
pieces_none t a b written h p = rw (none-merged t a b h) at (pieces_whole t a b written p)
