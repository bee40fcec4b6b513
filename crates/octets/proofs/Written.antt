-- Laws of texts written at a place of a buffer, as far as they fit, one after the other; and of a list that is written one by one.
-- Assumes nothing.
use mathlib.Core.Path.{◌≡◌, refl, sym, ap, ◌∙◌}
use mathlib.Core.Bool.{Bool, true, false}
use mathlib.Core.List.{List, [], ◌∷◌, ◌++◌, append-nil}
use Prim.Native.Nat.{ℕ, zero, suc, ◌+◌, ◌-◌, ◌≤◌, ◌<◌, min}
use native.Mathlib.Nat.{add-zero}
use native.Mathlib.Numerals.{add-one}
use native.Mathlib.Omega.{arith}
use lib.Dec.{leb}
use lib.ListN.{length, take, drop, get_or, set, length-append}
use lib.Seq.{length-take-le, take-suc, take_all, drop-length}
use borrow.Author.Tests.{leb-false, le-leb, lt-leb, leb-true}
use Rattle.octets.specs.OverFront.{over_front}
use Rattle.octets.specs.Clipped.{clipped_front, clipped, last_place, saturated, Wrote}

clip-length : (t b : List ℕ) → length (clipped_front t b) ≡ length b
unfolding clipped_front
clip-length [] b = refl
clip-length (x ∷ t) [] = refl
clip-length (x ∷ t) (y ∷ b) = ap suc (clip-length t b)

pub clipped-length : (at : ℕ) (t b : List ℕ) → length (clipped at t b) ≡ length b
unfolding clipped
clipped-length zero t b = clip-length t b
clipped-length (suc at) t [] = refl
clipped-length (suc at) t (y ∷ b) = ap suc (clipped-length at t b)

-- where there is room it is the text and what was behind it
clip-laid : (t b : List ℕ) → length t ≤ length b → clipped_front t b ≡ over_front t b
unfolding clipped_front over_front
clip-laid [] b h = refl
clip-laid (x ∷ t) [] h = absurd (omega arith)
clip-laid (x ∷ t) (y ∷ b) h = ap (λ (s : List ℕ). x ∷ s) (clip-laid t b (omega arith))

pub clipped-none : (at : ℕ) (b : List ℕ) → clipped at [] b ≡ b
unfolding clipped clipped_front
clipped-none zero b = refl
clipped-none (suc at) [] = refl
clipped-none (suc at) (y ∷ b) = ap (λ (s : List ℕ). y ∷ s) (clipped-none at b)

-- behind the end
past : (at : ℕ) (t b : List ℕ) → length b ≤ at → clipped at t b ≡ b
unfolding clipped clipped_front
past zero [] [] h = refl
past zero (x ∷ t) [] h = refl
past zero t (y ∷ b) h = absurd (omega arith)
past (suc at) t [] h = refl
past (suc at) t (y ∷ b) h = ap (λ (s : List ℕ). y ∷ s) (past at t b (omega arith))

one : (at x : ℕ) (b : List ℕ) → at < length b → set b at x ≡ clipped at (x ∷ []) b
unfolding clipped clipped_front
one at x [] h = absurd (omega arith)
one zero x (y ∷ b) h = refl
one (suc at) x (y ∷ b) h = ap (λ (s : List ℕ). y ∷ s) (one at x b (omega arith))

-- a text behind another is one text
clip-next : (t u b : List ℕ) → clipped (length t) u (clipped_front t b) ≡ clipped_front (t ++ u) b
unfolding clipped clipped_front
clip-next [] u b = refl
clip-next (x ∷ t) u [] = refl
clip-next (x ∷ t) u (y ∷ b) = ap (λ (s : List ℕ). x ∷ s) (clip-next t u b)

clipped-next : (at : ℕ) (t u b : List ℕ) → clipped (at + length t) u (clipped at t b) ≡ clipped at (t ++ u) b
unfolding clipped
clipped-next zero t u b = let e : 0 + length t ≡ length t = omega arith in rw e (clip-next t u b)
clipped-next (suc at) t u [] = let e : suc at + length t ≡ suc (at + length t) = omega arith in rw e
clipped-next (suc at) t u (y ∷ b) =
    let e : suc at + length t ≡ suc (at + length t) = omega arith in
    rw e (ap (λ (s : List ℕ). y ∷ s) (clipped-next at t u b))

-- what has no room may be left out
clip-fit : (n : ℕ) (t b : List ℕ) → length b ≤ n → clipped_front (take n t) b ≡ clipped_front t b
unfolding clipped_front
clip-fit zero [] b h = refl
clip-fit zero (x ∷ t) [] h = refl
clip-fit zero (x ∷ t) (y ∷ b) h = absurd (omega arith)
clip-fit (suc n) [] b h = refl
clip-fit (suc n) (x ∷ t) [] h = refl
clip-fit (suc n) (x ∷ t) (y ∷ b) h = ap (λ (s : List ℕ). x ∷ s) (clip-fit n t b (omega arith))

clipped-fit : (at n : ℕ) (t b : List ℕ) → length b ≤ at + n → clipped at (take n t) b ≡ clipped at t b
unfolding clipped
clipped-fit zero n t b h = clip-fit n t b (omega arith)
clipped-fit (suc at) n t [] h = refl
clipped-fit (suc at) n t (y ∷ b) h = ap (λ (s : List ℕ). y ∷ s) (clipped-fit at n t b (omega arith))

-- ---- places

pub saturated-small : (n : ℕ) → n ≤ last_place → saturated n ≡ n
unfolding saturated
saturated-small n h = rw (le-leb n last_place h)

pub saturated-past : (n : ℕ) → last_place < n → saturated n ≡ last_place
unfolding saturated
saturated-past n h = rw (lt-leb n last_place h)

saturated-next : (a b : ℕ) → saturated (saturated a + b) ≡ saturated (a + b)
saturated-next a b = go (leb a last_place) refl
  where
    more : (b : ℕ) → saturated (last_place + b) ≡ last_place
    more zero = saturated-small (last_place + 0) (omega arith)
    more (suc b) = saturated-past (last_place + suc b) (omega arith)

    go : (t : Bool) → leb a last_place ≡ t → saturated (saturated a + b) ≡ saturated (a + b)
    go true e = rw (saturated-small a (leb-true a last_place e))
    go false e = let h = leb-false a last_place e in rw (saturated-past a h, saturated-past (a + b) (omega arith)) (more b)

saturated-clipped : (n : ℕ) (u b : List ℕ) → length b ≤ last_place → clipped (saturated n) u b ≡ clipped n u b
saturated-clipped n u b h = go (leb n last_place) refl
  where
    go : (t : Bool) → leb n last_place ≡ t → clipped (saturated n) u b ≡ clipped n u b
    go true e = rw (saturated-small n (leb-true n last_place e))
    go false e = let k = leb-false n last_place e in rw (saturated-past n k) (past last_place u b h ∙ sym (past n u b (omega arith)))

-- ---- what functions that write promise

pub wrote_none : (at : ℕ) (b : List ℕ) → at ≤ last_place → length b ≤ last_place → Wrote at [] b at b
wrote_none at b h k = record { short = k; bytes = sym (clipped-none at b); size = refl; place = rw (add-zero at) (sym (saturated-small at h)) }

pub wrote-byte : (at x : ℕ) (b : List ℕ) → at < length b → length b ≤ last_place → Wrote at (x ∷ []) b (at + 1) (set b at x)
wrote-byte at x b h k =
    let e = one at x b h in
    record { short = k; bytes = e; size = ap length e ∙ clipped-length at (x ∷ []) b; place = sym (saturated-small (at + 1) (omega arith)) }

-- nothing fits
pub wrote-past : (at : ℕ) (t : List ℕ) (next : ℕ) (b : List ℕ) → length b ≤ at → length b ≤ last_place → next ≡ saturated (at + length t) → Wrote at t b next b
wrote-past at t next b h k e = record { short = k; bytes = sym (past at t b h); size = refl; place = e }

pub wrote-next : {at mid next : ℕ} {t u before between now : List ℕ} → Wrote at t before mid between → Wrote mid u between next now
    → Wrote at (t ++ u) before next now
wrote-next {at} {t = t} {u = u} {before = before} f g =
    let e : at + length t + length u ≡ at + length (t ++ u) = omega (arith, length-append t u) in
    record {
      short = f.short;
      bytes = g.bytes ∙ rw (f.bytes, f.place) (saturated-clipped (at + length t) u (clipped at t before) (rw (clipped-length at t before) f.short) ∙ clipped-next at t u before);
      size = g.size ∙ f.size;
      place = g.place ∙ rw f.place (saturated-next (at + length t) (length u)) ∙ ap saturated e;
    }

-- where there is room it is the text and what was behind it
-- a text that is as long as the buffer is all of it
pub fills : (t b : List ℕ) → length b ≡ length t → t ++ drop (length t) b ≡ t
fills t b e = ap (λ (n : ℕ). t ++ drop n b) (sym e) ∙ ap (λ (s : List ℕ). t ++ s) (drop-length b) ∙ append-nil t

pub clipped-laid : (t b : List ℕ) → length t ≤ length b → clipped 0 t b ≡ over_front t b
unfolding clipped
clipped-laid t b h = clip-laid t b h

-- the next place is no earlier
pub wrote-onward : {at next : ℕ} {t before now : List ℕ} → Wrote at t before next now → at ≤ last_place → at ≤ next
wrote-onward {at} {next} {t} w h = go (leb (at + length t) last_place) refl
  where
    go : (b : Bool) → leb (at + length t) last_place ≡ b → at ≤ next
    go true e = omega (arith, w.place, saturated-small (at + length t) (leb-true (at + length t) last_place e))
    go false e = omega (arith, w.place, saturated-past (at + length t) (leb-false (at + length t) last_place e))

-- a text's length is told where its places have 64 bits
pub wrote-size : {mid next : ℕ} {t u before between now : List ℕ} → Wrote 0 t before mid between → Wrote mid u between next now
    → length t + length u ≤ last_place → next - mid ≡ length u
wrote-size {mid} {t = t} {u = u} f g h =
    let a = saturated-small (0 + length t) (omega arith) in
    omega (arith, f.place, a, g.place, saturated-small (mid + length u) (omega (arith, f.place, a)))

-- and so is whether it is within a limit
pub wrote-fits : {next : ℕ} {t before now : List ℕ} → Wrote 0 t before next now → (most : ℕ) → most < last_place → leb next most ≡ leb (length t) most
wrote-fits {next} {t} w most h = go (leb (length t) last_place) refl
  where
    go : (b : Bool) → leb (length t) last_place ≡ b → leb next most ≡ leb (length t) most
    go true e = let z : next ≡ length t = omega (arith, w.place, saturated-small (0 + length t) (omega (arith, leb-true (length t) last_place e))) in rw z
    go false e =
        let k = leb-false (length t) last_place e in
        lt-leb next most (omega (arith, w.place, saturated-past (0 + length t) (omega (arith, k)))) ∙ sym (lt-leb (length t) most (omega (arith, k)))

-- the place after a short text is near
pub near_next : {size next most : ℕ} {part before now : List ℕ} → Wrote size part before next now → length part ≤ most → next ≤ size + most
near_next {size} {next} {most} {part} w h = go (leb (size + length part) last_place) refl
  where
    go : (b : Bool) → leb (size + length part) last_place ≡ b → next ≤ size + most
    go true e = omega (arith, w.place, saturated-small (size + length part) (leb-true (size + length part) last_place e))
    go false e = omega (arith, w.place, saturated-past (size + length part) (leb-false (size + length part) last_place e), leb-false (size + length part) last_place e)

-- and a place that is near is the text's length
pub near-size : {size : ℕ} {t before now : List ℕ} → Wrote 0 t before size now → size < last_place → size ≡ length t
near-size {size} {t} w h = go (leb (0 + length t) last_place) refl
  where
    go : (b : Bool) → leb (0 + length t) last_place ≡ b → size ≡ length t
    go true e = omega (arith, w.place, saturated-small (0 + length t) (leb-true (0 + length t) last_place e))
    go false e = absurd (omega (arith, w.place, saturated-past (0 + length t) (leb-false (0 + length t) last_place e)))

-- ---- as much of a part as fits, byte by byte

module _ (at : ℕ) (t b : List ℕ) where
  pub copy-next : (i : ℕ) (now : List ℕ) → i < length t → at + i < length b → now ≡ clipped at (take i t) b
      → set now (at + i) (get_or t i 0) ≡ clipped at (take (i + 1) t) b
  copy-next i now h k e =
      let size : length (take i t) ≡ i = length-take-le i t (omega arith) in
      let same : length now ≡ length b = ap length e ∙ clipped-length at (take i t) b in
      let place : at + i ≡ at + length (take i t) = omega arith in
      let x = get_or t i 0 in
      one (at + i) x now (omega arith)
      ∙ rw (add-one i, take-suc t i 0 h, ← (clipped-next at (take i t) (x ∷ []) b), ← e, size)

  pub copy-ends : (i : ℕ) (now : List ℕ) → min (length t) (length b - at) ≤ i → now ≡ clipped at (take i t) b → now ≡ clipped at t b
  copy-ends i now h e = e ∙ go (leb (length t) i) refl
    where
      go : (c : Bool) → leb (length t) i ≡ c → clipped at (take i t) b ≡ clipped at t b
      go true k = rw (take_all i t (leb-true (length t) i k))
      go false k = clipped-fit at i t b (omega (arith, leb-false (length t) i k))

  pub copy-wrote : (next : ℕ) (now : List ℕ) → length b ≤ last_place → now ≡ clipped at t b → next ≡ saturated (at + length t) → Wrote at t b next now
  copy-wrote next now k e f = record { short = k; bytes = e; size = ap length e ∙ clipped-length at t b; place = f }

-- ---- a text byte by byte

module _ (at : ℕ) (t before : List ℕ) where
  pub front-next : (i mid next : ℕ) (between now : List ℕ) → i < length t → Wrote at (take i t) before mid between
      → Wrote mid (get_or t i 0 ∷ []) between next now → Wrote at (take (i + 1) t) before next now
  front-next i mid next between now h f g = rw (add-one i, take-suc t i 0 h) (wrote-next f g)

  pub front-end : (i next : ℕ) (now : List ℕ) → length t ≤ i → Wrote at (take i t) before next now → Wrote at t before next now
  front-end i next now h w = rw (take_all i t h) at w

-- ---- a list written one by one to the front of a run

drop-suc : (t s : List ℕ) (k v : ℕ) → drop k t ≡ v ∷ s → drop (suc k) t ≡ s
drop-suc [] s zero v e = absurd (omega (arith, ap length e))
drop-suc [] s (suc k) v e = absurd (omega (arith, ap length e))
drop-suc (x ∷ t) s zero v e = cc
drop-suc (x ∷ t) s (suc k) v e = drop-suc t s k v e

pub drop-next : (t s : List ℕ) (k v : ℕ) → drop k t ≡ v ∷ s → drop (k + 1) t ≡ s
drop-next t s k v e = rw (add-one k) (drop-suc t s k v e)

store-suc : (t s room : List ℕ) (k v : ℕ) → drop k t ≡ v ∷ s → k < length room
    → set (take k t ++ drop k room) k v ≡ take (suc k) t ++ drop (suc k) room
store-suc t s [] k v e h = absurd (omega arith)
store-suc [] s (y ∷ room) zero v e h = absurd (omega (arith, ap length e))
store-suc [] s (y ∷ room) (suc k) v e h = absurd (omega (arith, ap length e))
store-suc (x ∷ t) s (y ∷ room) zero v e h = let q : v ≡ x = cc in rw q
store-suc (x ∷ t) s (y ∷ room) (suc k) v e h = ap (λ (r : List ℕ). x ∷ r) (store-suc t s room k v e (omega arith))

-- the next of the list, stored behind those that are written
pub store-next : (t s room : List ℕ) (k v : ℕ) → drop k t ≡ v ∷ s → k < length room
    → set (take k t ++ drop k room) k v ≡ take (k + 1) t ++ drop (k + 1) room
store-next t s room k v e h = rw (add-one k) (store-suc t s room k v e h)
