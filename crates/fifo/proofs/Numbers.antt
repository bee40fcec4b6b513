-- Laws of the numbers in a buffer's bytes, and of those that wait there.
-- Assumes nothing.
use mathlib.Core.Path.{◌≡◌, refl, ◌∙◌}
use mathlib.Core.List.{List, [], ◌∷◌, ◌++◌}
use Prim.Native.Nat.{ℕ, zero, suc, ◌+◌, ◌-◌, ◌*◌, ◌/◌, ◌%◌, ◌≤◌, ◌<◌, min}
use native.Mathlib.Omega.{arith}
use native.Mathlib.Numerals.{add-one}
use lib.ListN.{length, get_or, take, drop, length-take, length-drop, get_or-eq_default}
use lib.Seq.{get_or-take, get_or-drop}
use Rattle.fifo.specs.Layout.{limit, numbers, bytes, count_of, queue_of}
-- what a u8 is, at every place
pub use Rattle.octets.proofs.LittleEndian.{Bytes}

-- ---- numbers in bytes

-- the two bytes of a number, and the number of two bytes
pub low : (a b : ℕ) → a < 256 → (a + 256 * b) % 256 ≡ a
low a b h = omega arith

pub high : (a b : ℕ) → a < 256 → b < 256 → (a + 256 * b) / 256 % 256 ≡ b
high a b h k = let e : (a + 256 * b) / 256 ≡ b = omega arith in rw e (omega arith)

pub pair : (x : ℕ) → x < limit → x % 256 + 256 * (x / 256 % 256) ≡ x
pair x h = let e : x / 256 % 256 ≡ x / 256 = omega arith in rw e (omega arith)

pub double : (n : ℕ) → 2 * suc n ≡ suc (suc (2 * n))
double n = omega arith

pub length-numbers : (s : List ℕ) → length (numbers s) ≡ length s / 2
unfolding numbers
length-numbers [] = refl
length-numbers (a ∷ []) = refl
length-numbers (a ∷ b ∷ s) = omega (arith, length-numbers s)

pub length-bytes : (l : List ℕ) → length (bytes l) ≡ 2 * length l
unfolding bytes
length-bytes [] = refl
length-bytes (x ∷ l) = omega (arith, length-bytes l)

pub number-at : (s : List ℕ) (i : ℕ) → i < length s / 2 → get_or (numbers s) i 0 ≡ get_or s (2 * i) 0 + 256 * get_or s (2 * i + 1) 0
unfolding numbers
number-at [] i h = absurd (omega arith)
number-at (a ∷ []) i h = absurd (omega arith)
number-at (a ∷ b ∷ s) zero h = refl
number-at (a ∷ b ∷ s) (suc i) h = rw (double i, add-one (suc (suc (2 * i))), number-at s i (omega arith), add-one (2 * i))

pub number_past : (s : List ℕ) (i : ℕ) → length s / 2 ≤ i → get_or (numbers s) i 0 ≡ 0
number_past s i h = let k : length (numbers s) ≤ i = omega (arith, length-numbers s) in get_or-eq_default (numbers s) 0 k

-- numbers of 16 bits
abbrev pub Numbers : List ℕ → Type 0
Numbers ns = (i : ℕ) → get_or ns i 0 < limit

pub numbers-small : (s : List ℕ) → Bytes s → Numbers (numbers s)
unfolding numbers
numbers-small [] f i = omega arith
numbers-small (a ∷ []) f i = omega arith
numbers-small (a ∷ b ∷ s) f zero = omega (arith, f 0, f 1)
numbers-small (a ∷ b ∷ s) f (suc i) = numbers-small s (λ k. f (suc (suc k))) i

pub numbers-bytes : (ns s : List ℕ) → Numbers ns → numbers (bytes ns ++ s) ≡ ns ++ numbers s
unfolding numbers bytes
numbers-bytes [] s f = refl
numbers-bytes (x ∷ ns) s f = rw (pair x (f 0), numbers-bytes ns s (λ i. f (suc i)))

-- the bytes of the first k numbers are the first 2 * k bytes
pub bytes-numbers : (s : List ℕ) → Bytes s → (k : ℕ) → 2 * k ≤ length s → bytes (take k (numbers s)) ≡ take (2 * k) s
unfolding numbers bytes
bytes-numbers s f zero h = refl
bytes-numbers [] f (suc k) h = absurd (omega arith)
bytes-numbers (a ∷ []) f (suc k) h = absurd (omega arith)
bytes-numbers (a ∷ b ∷ s) f (suc k) h =
    rw (low a b (f 0), high a b (f 0) (f 1), double k, bytes-numbers s (λ i. f (suc (suc i))) k (omega arith))

-- ---- those who wait in a buffer

-- as many as the count says, if there are so many numbers
pub waiting-length : (s : List ℕ) → length (queue_of s).waiting ≡ min (count_of s) (length s / 2 - 5)
unfolding queue_of
waiting-length s = omega (arith, length-take (count_of s) (drop 5 (numbers s)), length-drop 5 (numbers s), length-numbers s)

pub waiting-at : (s : List ℕ) (i : ℕ) → i < length (queue_of s).waiting → get_or (queue_of s).waiting i 0 ≡ get_or (numbers s) (5 + i) 0
unfolding queue_of
waiting-at s i h =
    get_or-take (count_of s) (drop 5 (numbers s)) i 0 (omega (arith, length-take (count_of s) (drop 5 (numbers s)))) ∙ get_or-drop 5 (numbers s) i 0
