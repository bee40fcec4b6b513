-- What doesn't meet the words that claims about normal texts are made of.
-- Assumes nothing.
use Rattle.refusal.specs.declared.Refusal.TheVariants.{TooShort}
use Rattle.refusal.specs.Numbers.{IsRefusal}
use Rattle.std.specs.Prelude.{Ok, Err}
use mathlib.Core.Path.{ap}
use mathlib.Core.Bool.{false≢true}
use mathlib.Core.List.{List, [], ◌∷◌}
use Prim.Native.Nat.{ℕ}
use native.Mathlib.Omega.{arith}
use lib.ListN.{get_or, replicate}
use Rattle.octets.specs.Texts.{text}
use Rattle.normal.specs.Meanings.{boot}
use Rattle.normal.specs.Computing.{writing}
use Rattle.normal.proofs.Theorems.{Fitting, Told}

-- more than there may be, more than the buffer has, another length; a number of a refusal that is 0, one of nine bits, and a refusal that changes a byte
not-told :
    (Told 3 (text "1234") (Ok 4) (text "abcd") → ⊥)
    × (Told 9 (text "1234") (Ok 5) (text "abcd") → ⊥)
    × (Told 9 (text "1234") (Ok 4) (text "abcde") → ⊥)
    × (IsRefusal 0 → ⊥)
    × (IsRefusal 256 → ⊥)
    × (Told 9 (text "12") (Err TooShort) (text "1a") → ⊥)
not-told = (
  (λ t. omega (arith, t.0)),
  (λ t. omega (arith, t.1)),
  (λ t. omega (arith, t.2)),
  (λ t. omega (arith, t.0)),
  (λ t. omega (arith, t.1)),
  (λ t. let e = ap (λ (s : List ℕ). get_or s 1 0) t.1 in omega (arith, e)),
)

-- a line of 1,001 bytes
not-fitting : Fitting (boot (replicate 993 97) ∷ []) → ⊥
unfolding writing
not-fitting f = false≢true f.short
