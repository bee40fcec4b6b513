-- The laws of clipped texts and of numbers of bytes, for any bytes and at their edges: what they need is all that is said here.
-- Assumes nothing.
use mathlib.Core.Path.{◌≡◌, refl}
use mathlib.Core.List.{List, [], ◌∷◌, ◌++◌}
use Prim.Native.Nat.{ℕ, ◌+◌, ◌-◌, ◌*◌, ◌≤◌, ◌<◌}
use native.Mathlib.Omega.{arith}
use lib.ListN.{length, get_or}
use Rattle.octets.specs.Clipped.{clipped}
use Rattle.octets.specs.LittleEndian.{number_of, width}
use Rattle.octets.proofs.ClippedBytes.{clipped-here, clipped-before, clipped-after}
use Rattle.octets.proofs.ByteOrder.{number-joined}

-- clipped-here, clipped-before, clipped-after
pub clipped-used : (at : ℕ) (t b : List ℕ) (i : ℕ)
    → (at ≤ i → i < at + length t → i < length b → get_or (clipped at t b) i 0 ≡ get_or t (i - at) 0)
    × (i < at → get_or (clipped at t b) i 0 ≡ get_or b i 0)
    × (at + length t ≤ i → get_or (clipped at t b) i 0 ≡ get_or b i 0)
clipped-used at t b i = (clipped-here at t b i, clipped-before at t b i, clipped-after at t b i)

-- in the last byte of a buffer: the text's first byte, and the bytes before it stay
pub clipped-last : (t b : List ℕ) (x : ℕ) (at : ℕ) → at + 1 ≡ length b
    → (get_or (clipped at (x ∷ t) b) at 0 ≡ x) × ((i : ℕ) → i < at → get_or (clipped at (x ∷ t) b) i 0 ≡ get_or b i 0)
clipped-last t b x at e = (
  (let z : at - at ≡ 0 = omega arith in rw z at (clipped-here at (x ∷ t) b at (omega arith) (omega arith) (omega arith))),
  (λ i h. clipped-before at (x ∷ t) b i h),
)

-- number-joined
pub joined-used : (a b : List ℕ) → number_of (a ++ b) ≡ number_of a + width (length a) * number_of b
joined-used a b = number-joined a b

-- two bytes, and then any others
two_bytes : (x y : ℕ) → (number_of (x ∷ y ∷ []) ≡ x + 256 * y) × (width 2 ≡ 65536)
unfolding number_of
two_bytes x y = (omega arith, refl)

pub joined-two : (x y : ℕ) (b : List ℕ) → number_of (x ∷ y ∷ b) ≡ (x + 256 * y) + 65536 * number_of b
joined-two x y b = rw ((two_bytes x y).0, (two_bytes x y).1) at (number-joined (x ∷ y ∷ []) b)
