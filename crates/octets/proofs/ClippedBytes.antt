-- A text at a place of a buffer, byte by byte, whatever the place and the lengths: the text's bytes are there as far as the buffer goes, and all others stay.
-- Assumes nothing.
use mathlib.Core.Path.{◌≡◌, refl, ap, ◌∙◌}
use mathlib.Core.List.{List, [], ◌∷◌}
use Prim.Native.Nat.{ℕ, zero, suc, ◌+◌, ◌-◌, ◌≤◌, ◌<◌}
use native.Mathlib.Omega.{arith}
use lib.ListN.{length, get_or}
use Rattle.octets.specs.Clipped.{clipped_front, clipped}

front-here : (t b : List ℕ) (i : ℕ) → i < length t → i < length b → get_or (clipped_front t b) i 0 ≡ get_or t i 0
unfolding clipped_front
front-here [] b i h k = absurd (omega arith)
front-here (x ∷ t) [] i h k = absurd (omega arith)
front-here (x ∷ t) (y ∷ b) zero h k = refl
front-here (x ∷ t) (y ∷ b) (suc i) h k = front-here t b i (omega arith) (omega arith)

front-after : (t b : List ℕ) (i : ℕ) → length t ≤ i → get_or (clipped_front t b) i 0 ≡ get_or b i 0
unfolding clipped_front
front-after [] b i h = refl
front-after (x ∷ t) [] i h = refl
front-after (x ∷ t) (y ∷ b) zero h = absurd (omega arith)
front-after (x ∷ t) (y ∷ b) (suc i) h = front-after t b i (omega arith)

-- in the text
pub clipped-here : (at : ℕ) (t b : List ℕ) (i : ℕ) → at ≤ i → i < at + length t → i < length b → get_or (clipped at t b) i 0 ≡ get_or t (i - at) 0
unfolding clipped
clipped-here zero t b i h j k = let e : i ≡ i - 0 = omega arith in front-here t b i (omega arith) k ∙ ap (λ (n : ℕ). get_or t n 0) e
clipped-here (suc at) t [] i h j k = absurd (omega arith)
clipped-here (suc at) t (y ∷ b) zero h j k = absurd (omega arith)
clipped-here (suc at) t (y ∷ b) (suc i) h j k =
    let e : i - at ≡ suc i - suc at = omega arith in
    clipped-here at t b i (omega arith) (omega arith) (omega arith) ∙ ap (λ (n : ℕ). get_or t n 0) e

-- before it
pub clipped-before : (at : ℕ) (t b : List ℕ) (i : ℕ) → i < at → get_or (clipped at t b) i 0 ≡ get_or b i 0
unfolding clipped
clipped-before zero t b i h = absurd (omega arith)
clipped-before (suc at) t [] i h = refl
clipped-before (suc at) t (y ∷ b) zero h = refl
clipped-before (suc at) t (y ∷ b) (suc i) h = clipped-before at t b i (omega arith)

-- after it
pub clipped-after : (at : ℕ) (t b : List ℕ) (i : ℕ) → at + length t ≤ i → get_or (clipped at t b) i 0 ≡ get_or b i 0
unfolding clipped
clipped-after zero t b i h = front-after t b i (omega arith)
clipped-after (suc at) t [] i h = refl
clipped-after (suc at) t (y ∷ b) zero h = absurd (omega arith)
clipped-after (suc at) t (y ∷ b) (suc i) h = clipped-after at t b i (omega arith)
