-- For each word that claims about bytes are made of: something that meets it, and something that doesn't, for each of its parts.
-- Assumes nothing.
use mathlib.Core.Path.{refl, ap}
use mathlib.Core.List.{List, [], ◌∷◌}
use Prim.Native.Nat.{ℕ, ◌<◌}
use native.Mathlib.Omega.{arith}
use lib.ListN.{length, get_or}
use Rattle.octets.specs.Texts.{text}
use Rattle.octets.specs.Clipped.{clipped_front, clipped, saturated, Wrote}
use Rattle.octets.proofs.Each.{Each}
use Rattle.octets.proofs.LittleEndian.{Bytes}
use Rattle.octets.proofs.Places.{Stands}

-- an `a` at place 1 of `123`, and where there is no room for it
wrote : Wrote 1 (text "a") (text "123") 2 (text "1a3") × Wrote 3 (text "a") (text "123") 4 (text "123")
unfolding clipped clipped_front saturated
wrote = (record { short = omega arith; bytes = refl; size = refl; place = refl }, record { short = omega arith; bytes = refl; size = refl; place = refl })

-- a byte before it or after it changed, another text, another size, another place, with room and without
not-wrote :
    (Wrote 1 (text "a") (text "123") 2 (text "0a3") → ⊥)
    × (Wrote 1 (text "a") (text "123") 2 (text "1a0") → ⊥)
    × (Wrote 1 (text "a") (text "123") 2 (text "1b3") → ⊥)
    × (Wrote 1 (text "a") (text "123") 2 (text "1a34") → ⊥)
    × (Wrote 1 (text "a") (text "123") 3 (text "1a3") → ⊥)
    × (Wrote 3 (text "a") (text "123") 4 (text "12a") → ⊥)
    × (Wrote 3 (text "a") (text "123") 3 (text "123") → ⊥)
unfolding clipped clipped_front saturated
not-wrote = (
  (λ w. let e = ap (λ (s : List ℕ). get_or s 0 0) w.bytes in omega (arith, e)),
  (λ w. let e = ap (λ (s : List ℕ). get_or s 2 0) w.bytes in omega (arith, e)),
  (λ w. let e = ap (λ (s : List ℕ). get_or s 1 0) w.bytes in omega (arith, e)),
  (λ w. omega (arith, w.size)),
  (λ w. omega (arith, w.place)),
  (λ w. let e = ap (λ (s : List ℕ). get_or s 2 0) w.bytes in omega (arith, e)),
  (λ w. omega (arith, w.place)),
)

-- at every place
not-bytes : (Bytes (256 ∷ []) → ⊥) × (Bytes (255 ∷ 256 ∷ []) → ⊥)
not-bytes = ((λ f. omega (arith, f 0)), (λ f. omega (arith, f 1)))

not-each : (Each (λ (b : ℕ). b < 5) (5 ∷ 1 ∷ []) → ⊥) × (Each (λ (b : ℕ). b < 5) (1 ∷ 4 ∷ 5 ∷ []) → ⊥)
not-each = ((λ h. omega (arith, h.0)), (λ h. omega (arith, h.1.1.0)))

-- `b` at place 1 of `abc`, and `c` after it
stands : Stands (text "abc") 1 (text "b") (text "c")
stands = record { is = refl }

not-stands : (Stands (text "abc") 0 (text "b") (text "c") → ⊥) × (Stands (text "abc") 1 (text "b") [] → ⊥) × (Stands (text "abc") 1 (text "c") (text "c") → ⊥)
not-stands = (
  (λ h. let e = ap (λ (s : List ℕ). get_or s 0 0) h.is in omega (arith, e)),
  (λ h. let e = ap length h.is in omega (arith, e)),
  (λ h. let e = ap (λ (s : List ℕ). get_or s 0 0) h.is in omega (arith, e)),
)
