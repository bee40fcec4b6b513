-- Laws of numbers in bytes: each way leads back.
-- Assumes nothing.
use mathlib.Core.Path.{◌≡◌, refl, sym, ap, ◌∙◌}
use mathlib.Core.List.{List, [], ◌∷◌}
use Prim.Native.Nat.{ℕ, zero, suc, ◌+◌, ◌-◌, ◌*◌, ◌/◌, ◌%◌, ◌≤◌, ◌<◌}
use native.Mathlib.Omega.{arith}
use lib.ListN.{length, take, drop, get_or, length-drop}
use lib.Seq.{drop-cons, drop-drop, get_or-drop, length-take-le}
use Rattle.octets.specs.Runs.{between}
use Rattle.octets.specs.LittleEndian.{little_endian, number_of, width}

-- what a u8 is, at every place
abbrev pub Bytes : List ℕ → Type 0
Bytes s = (i : ℕ) → get_or s i 0 < 256

-- ---- parts of bytes are bytes

pub bytes_take : (n : ℕ) (s : List ℕ) → Bytes s → Bytes (take n s)
bytes_take zero s f i = omega arith
bytes_take (suc n) [] f i = omega arith
bytes_take (suc n) (b ∷ s) f zero = f 0
bytes_take (suc n) (b ∷ s) f (suc i) = bytes_take n s (λ j. f (suc j)) i

pub bytes_drop : (n : ℕ) (s : List ℕ) → Bytes s → Bytes (drop n s)
bytes_drop zero s f = f
bytes_drop (suc n) [] f = f
bytes_drop (suc n) (b ∷ s) f = bytes_drop n s (λ j. f (suc j))

pub bytes-between : (s : List ℕ) (a b : ℕ) → Bytes s → Bytes (between s a b)
unfolding between
bytes-between s a b f = bytes_take (b - a) (drop a s) (bytes_drop a s f)

-- ---- a number in bytes

pub length-little_endian : (k n : ℕ) → length (little_endian k n) ≡ k
unfolding little_endian
length-little_endian zero n = refl
length-little_endian (suc k) n = ap suc (length-little_endian k (n / 256))

pub number-back : (k n : ℕ) → n < width k → number_of (little_endian k n) ≡ n
unfolding little_endian number_of
number-back zero n h = omega arith
number-back (suc k) n h = omega (arith, number-back k (n / 256) (omega arith))

-- ---- the number of bytes

pub number_small : (s : List ℕ) → Bytes s → number_of s < width (length s)
unfolding number_of
number_small [] f = omega arith
number_small (b ∷ s) f = omega (arith, f 0, number_small s (λ i. f (suc i)))

pub bytes_back : (s : List ℕ) → Bytes s → little_endian (length s) (number_of s) ≡ s
unfolding little_endian number_of
bytes_back [] f = refl
bytes_back (b ∷ s) f =
    let low : (b + 256 * number_of s) % 256 ≡ b = omega (arith, f 0) in
    let high : (b + 256 * number_of s) / 256 ≡ number_of s = omega (arith, f 0) in
    rw (low, high, bytes_back s (λ i. f (suc i)))

-- ---- the number of bytes at a place, from its high byte on

pub width_some : (k : ℕ) → 1 ≤ width k
width_some zero = omega arith
width_some (suc k) = omega (arith, width_some k)

pub width-rises : (j k : ℕ) → j ≤ k → width j ≤ width k
width-rises zero k h = width_some k
width-rises (suc j) zero h = absurd (omega arith)
width-rises (suc j) (suc k) h = omega (arith, width-rises j k (omega arith))

module _ (s : List ℕ) (e : ℕ) (room : e ≤ length s) where
  pub number-none : number_of (between s e e) ≡ 0
  unfolding between number_of
  number-none = let z : e - e ≡ 0 = omega arith in rw z

  pub number-next : (i : ℕ) → 0 < i → i ≤ e → number_of (between s (i - 1) e) ≡ number_of (between s i e) * 256 + get_or s (i - 1) 0
  unfolding between number_of
  number-next i h j =
      let k : i ≡ suc (i - 1) = omega arith in
      let n : e - (i - 1) ≡ suc (e - i) = omega arith in
      rw (n, drop-cons s (i - 1) 0 (omega arith), ← k) (omega arith)

  pub number-within : Bytes s → (i : ℕ) → i ≤ e → number_of (between s i e) < width (e - i)
  unfolding between
  number-within f i h = rw (length-take-le (e - i) (drop i s) (omega (arith, length-drop i s))) at (number_small (take (e - i) (drop i s)) (bytes-between s i e f))

  -- a number with room for another byte in a word
  pub number-room : Bytes s → (i : ℕ) → i ≤ e → e < i + 8 → number_of (between s i e) < width 7
  number-room f i h j = omega (arith, number-within f i h, width-rises (e - i) 7 (omega arith))

-- ---- a number's bytes one by one

module _ (k n : ℕ) where
  -- what is left to write once some bytes are written
  pub record Left (i rest : ℕ) : Type 0 where
    pub is : drop i (little_endian k n) ≡ little_endian (k - i) rest

  pub left-starts : Left 0 n
  left-starts = let m : k - 0 ≡ k = omega arith in record { is = rw m }

  pub left-byte : (i rest : ℕ) → i < k → Left i rest → get_or (little_endian k n) i 0 ≡ rest % 256
  unfolding little_endian
  left-byte i rest h l =
      let m : k - i ≡ suc (k - suc i) = omega arith in
      let z : i ≡ i + 0 = omega arith in
      ap (λ (j : ℕ). get_or (little_endian k n) j 0) z ∙ sym (get_or-drop i (little_endian k n) 0 0) ∙ rw (l.is, m)

  pub left-next : (i rest : ℕ) → i < k → Left i rest → Left (i + 1) (rest / 256)
  unfolding little_endian
  left-next i rest h l =
      let m : k - i ≡ suc (k - (i + 1)) = omega arith in
      record { is = sym (drop-drop 1 i (little_endian k n)) ∙ rw (l.is, m) }
