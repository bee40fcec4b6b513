-- What doesn't meet the words that claims about tables are made of.
-- Assumes nothing.
use mathlib.Core.Path.{refl, ap}
use mathlib.Core.List.{List, [], ◌∷◌}
use Prim.Native.Nat.{ℕ}
use native.Mathlib.Omega.{arith}
use lib.ListN.{get_or}
use Rattle.octets.specs.Texts.{text}
use Rattle.crontab.proofs.Lines.{LinesAt}

-- two lines of `a`, newline, `b`: a line that isn't there, one at another place, and one past the end
lines_at : LinesAt (text "a\nb") 0 (text "a" ∷ text "b" ∷ [])
lines_at = (record { is = refl }, omega arith, (record { is = refl }, omega arith, tt))

not-lines :
    (LinesAt (text "a\nb") 0 (text "b" ∷ []) → ⊥)
    × (LinesAt (text "a\nb") 1 (text "a" ∷ []) → ⊥)
    × (LinesAt (text "a\nb") 0 (text "a" ∷ text "c" ∷ []) → ⊥)
    × (LinesAt (text "a\nb") 0 (text "a" ∷ text "b" ∷ text "c" ∷ []) → ⊥)
not-lines = (
  (λ h. let e = ap (λ (s : List ℕ). get_or s 0 0) h.0.is in omega (arith, e)),
  (λ h. let e = ap (λ (s : List ℕ). get_or s 0 0) h.0.is in omega (arith, e)),
  (λ h. let e = ap (λ (s : List ℕ). get_or s 0 0) h.2.0.is in omega (arith, e)),
  (λ h. omega (arith, h.2.2.1)),
)
