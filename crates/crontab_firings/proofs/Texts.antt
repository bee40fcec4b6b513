-- Laws of the lines of firings: how long they are, and the text as a loop writes it.
-- Assumes nothing.
use mathlib.Core.Path.{◌≡◌, refl, ap, ◌∙◌}
use mathlib.Core.List.{List, [], ◌∷◌, ◌++◌}
use Prim.Native.Nat.{ℕ, zero, suc, ◌+◌, ◌*◌, ◌-◌, ◌/◌, ◌%◌, ◌^◌, ◌≤◌, ◌<◌}
use native.Mathlib.Numerals.{add-one}
use native.Mathlib.Nat.{lt_of_not-le, zero-lt-suc, pow-le-pow_right}
use native.Mathlib.Decide.{dec_le}
use native.Mathlib.Omega.{arith}
use lib.ListN.{length, get_or, take, drop, length-append, get_or-eq_default}
use lib.Seq.{take-append_seam, drop-append_seam}
use Rattle.octets.specs.OverFront as front
use Rattle.octets.specs.Clipped.{last_place, Wrote}
use Rattle.octets.proofs.Written.{clipped-laid, wrote_none, wrote-next, saturated-small}
use Rattle.io.specs.Digits.{hex_digit_ascii, last_digits, IsDigitCount}
use Rattle.crontab_firings.specs.Lines.{space, newline, Line, Lines}

pub length_digits : (b k n : ℕ) → length (last_digits b k n) ≡ k
length_digits b zero n = refl
length_digits b (suc k) n = length-append (last_digits b k (n / b)) (hex_digit_ascii (n % b) ∷ []) ∙ omega (arith, length_digits b k (n / b))

-- a number of 64 bits has at most 20 digits
pub few-digits : (n k : ℕ) → n < 100000000000000000000 → IsDigitCount 10 1 n k → k ≤ 20
few-digits n k h f = elim (dec_le k 20) [ yes p ↦ p | no p ↦ absurd (many (lt_of_not-le p)) ]
  where
    many : 20 < k → ⊥
    many p =
        let grown : 10 ^ 20 ≤ 10 ^ (k - 1) = pow-le-pow_right (zero-lt-suc 9) (let q : 20 ≤ k - 1 = omega arith in q) in
        omega (arith, f.2 (omega arith), grown)

pub length-line : (m e : List ℕ) → length (m ++ space ∷ [] ++ e ++ newline ∷ []) ≡ length m + length e + 2
length-line m e =
    length-append (m ++ space ∷ [] ++ e) (newline ∷ [])
    ∙ omega (arith, length-append (m ++ space ∷ []) e, length-append m (space ∷ []))

-- the first i firings stand at the front of the text
pub record Written (minutes entries : List ℕ) (i : ℕ) (before : List ℕ) (at : ℕ) (now : List ℕ) : Type 0 where
  pub so_far : List ℕ
  pub lines : Lines minutes entries i so_far
  pub small : length so_far ≤ i * 42
  pub wrote : Wrote 0 so_far before at now

module _ (minutes entries before : List ℕ) where
  pub written_start : length before ≤ last_place → Written minutes entries 0 before 0 before
  written_start h =
      record {
        so_far = [];
        lines = refl;
        small = omega arith;
        wrote = wrote_none 0 before (omega arith) h;
      }

  pub written-more : {i at next : ℕ} {text now : List ℕ} → Written minutes entries i before at text
      → (t : List ℕ) × Line (get_or minutes i 0) (get_or entries i 0) t × (length t ≤ 42) × Wrote at t text next now
      → Written minutes entries (i + 1) before next now
  written-more {i} w (t, is, few, more) =
      rw (add-one i)
      (record {
        so_far = w.so_far ++ t;
        lines = (w.so_far, t, w.lines, is, refl);
        small = omega (arith, length-append w.so_far t, w.small);
        wrote = wrote-next w.wrote more;
      })

  -- where all of them have room
  module _ {i at : ℕ} {text : List ℕ} (w : Written minutes entries i before at text) (room : i * 42 ≤ length before) where
    whole : (at ≡ length w.so_far) × (text ≡ w.so_far ++ drop (length w.so_far) before)
    unfolding front.over_front
    whole =
        let few : length w.so_far ≤ length before = omega (arith, w.small, room) in
        (omega (arith, w.wrote.place, saturated-small (0 + length w.so_far) (omega (arith, few, w.wrote.short))), w.wrote.bytes ∙ clipped-laid w.so_far before few)

    pub written-within : at ≤ length text
    written-within = omega (arith, whole.0, w.small, room, w.wrote.size)

    -- the bytes after them stay
    pub written-rest : drop at text ≡ drop at before
    written-rest =
        let (place, is) = whole in
        rw place (ap (drop (length w.so_far)) is ∙ drop-append_seam w.so_far (drop (length w.so_far) before))

    -- so many bytes are just the lines
    pub written-text : Lines minutes entries i (take at text)
    written-text =
        let (place, is) = whole in
        let e : take at text ≡ w.so_far =
        ap (λ (n : ℕ). take n text) place ∙ ap (take (length w.so_far)) is ∙ take-append_seam w.so_far (drop (length w.so_far) before) in
        rw e w.lines

-- ---- minutes of firings

-- one more of the minute, before those behind
pub behind_more : (minutes : List ℕ) (last n k : ℕ) → ((j : ℕ) → k ≤ j → j < n → get_or minutes j 0 ≡ last) → get_or minutes (k - 1) 0 ≡ last
    → (j : ℕ) → k - 1 ≤ j → j < n → get_or minutes j 0 ≡ last
behind_more minutes last n k behind here j h l = elim (dec_le k j) [ yes p ↦ behind j p l | no p ↦ (let e : j ≡ k - 1 = omega (arith, lt_of_not-le p) in rw e here) ]

-- counted from 1
pub none-at : (minutes : List ℕ) (n : ℕ) → length minutes < n → get_or (0 ∷ minutes) n 0 ≡ 0
none-at minutes n h = get_or-eq_default (0 ∷ minutes) 0 (let k : length (0 ∷ minutes) ≤ n = omega arith in k)

pub one_at : (minutes : List ℕ) (n : ℕ) → (n ≡ 0 → ⊥) → get_or (0 ∷ minutes) n 0 ≡ get_or minutes (n - 1) 0
one_at minutes zero h = absurd (h refl)
one_at minutes (suc n) h = let e : suc n - 1 ≡ n = omega arith in rw e
