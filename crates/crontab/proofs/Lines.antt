-- Laws of the lines of a table: the first line of what is left, and where the next one starts.
-- Assumes nothing.
use mathlib.Core.Path.{◌≡◌, refl, sym, ap, ◌∙◌}
use mathlib.Core.Bool.{Bool, true, false, cond, not, ◌&&◌, false≢true}
use mathlib.Core.List.{List, [], ◌∷◌}
use Prim.Native.Nat.{ℕ, zero, suc, ◌+◌, ◌-◌, ◌≤◌, ◌<◌}
use native.Mathlib.Numerals.{add-one}
use native.Mathlib.Omega.{arith}
use lib.ListN.{length, take, drop, get_or, length-drop, drop_of_length-le}
use lib.Seq.{length-take-le, drop-cons, drop-drop}
use lib.Dec.{eqb}
use borrow.Author.Tests.{eqb-true}
use Rattle.octets.specs.declared.class.Class.TheVariants.{Not, InLine}
use Rattle.octets.specs.Classes.{of_class}
use Rattle.octets.specs.Runs.{run, skipped}
use Rattle.crontab.specs.Lines.{onto, lines_of, is_cut, is_last}
use Rattle.octets.proofs.Runs.{skipped-from, skipped-within, skipped-past, run-taken, no-newline}
use Rattle.octets.proofs.Places.{Stands, skipped-stop}

-- ---- the first line of what is left

line_first : (b : ℕ) (s : List ℕ)
    → lines_of (b ∷ s) ≡ take (run (Not 10) (b ∷ s)) (b ∷ s) ∷ lines_of (drop (suc (run (Not 10) (b ∷ s))) (b ∷ s))
unfolding lines_of run of_class onto
line_first b [] = go (eqb b 10)
  where
    go : (t : Bool) → cond t ([] ∷ []) ((b ∷ []) ∷ []) ≡ take (cond (not t) 1 0) (b ∷ []) ∷ lines_of (drop (suc (cond (not t) 1 0)) (b ∷ []))
    go true = refl
    go false = refl
line_first b (x ∷ s) = go (eqb b 10) (line_first x s)
  where
    k : ℕ
    k = run (Not 10) (x ∷ s)

    go : (t : Bool) → lines_of (x ∷ s) ≡ take k (x ∷ s) ∷ lines_of (drop (suc k) (x ∷ s))
        → cond t ([] ∷ lines_of (x ∷ s)) (onto b (lines_of (x ∷ s)))
        ≡ take (cond (not t) (suc k) 0) (b ∷ x ∷ s) ∷ lines_of (drop (suc (cond (not t) (suc k) 0)) (b ∷ x ∷ s))
    go true e = refl
    go false e = rw e

-- ---- where lines are

-- lines from a place on, each a newline after the one before it
abbrev pub LinesAt : List ℕ → ℕ → List (List ℕ) → Type 0
LinesAt s at [] = Unit {0}
LinesAt s at (l ∷ ls) = Stands s at l (drop (at + length l) s) × (at + length l ≤ length s) × LinesAt s (at + length l + 1) ls

onto-at : (t : List ℕ) (at b : ℕ) (ls : List (List ℕ)) → at < length t → drop at t ≡ b ∷ drop (at + 1) t → LinesAt t (at + 1) ls → LinesAt t at (onto b ls)
unfolding onto
onto-at t at b [] i here h = (record { is = here }, omega arith, tt)
onto-at t at b (l ∷ ls) i here h =
    let e : at + 1 + length l ≡ at + suc (length l) = omega arith in
    let w : at + 1 + length l ≤ length t = h.1 in
    (record { is = here ∙ ap (λ (x : List ℕ). b ∷ x) h.0.is ∙ rw e }, omega arith, rw (← e) h.2)

pub lines_at : (t : List ℕ) (at : ℕ) (s : List ℕ) → drop at t ≡ s → LinesAt t at (lines_of s)
unfolding lines_of
lines_at t at [] here = tt
lines_at t at (b ∷ s) here = go (eqb b 10) next (lines_at t (at + 1) s next)
  where
    next : drop (at + 1) t ≡ s
    next = sym (drop-drop 1 at t) ∙ ap (drop 1) here

    inside : at < length t
    inside = omega (arith, length-drop at t, ap length here)

    go : (c : Bool) → drop (at + 1) t ≡ s → LinesAt t (at + 1) (lines_of s) → LinesAt t at (cond c ([] ∷ lines_of s) (onto b (lines_of s)))
    go true e h = let z : at + 0 ≡ at = omega arith in (record { is = rw z }, omega (arith, inside), rw z h)
    go false e h = onto-at t at b (lines_of s) inside (here ∙ ap (λ (x : List ℕ). b ∷ x) (sym e)) h

-- ---- whether it is the last one, and cut

pub lines-some : (b : ℕ) (s : List ℕ) → is_last (lines_of (b ∷ s)) ≡ false
unfolding lines_of is_last onto
lines-some b s = go (eqb b 10) (lines_of s)
  where
    go : (t : Bool) (later : List (List ℕ)) → is_last (cond t ([] ∷ later) (onto b later)) ≡ false
    go true later = refl
    go false [] = refl
    go false (l ∷ later) = refl

cut-from : (s : List ℕ) (at : ℕ) → at < length s → is_cut (drop at s) ≡ is_cut s
unfolding is_cut
cut-from [] at h = absurd (omega arith)
cut-from (b ∷ s) zero h = refl
cut-from (b ∷ []) (suc at) h = absurd (omega arith)
cut-from (b ∷ x ∷ s) (suc at) h = cut-from (x ∷ s) at (omega arith)

cut-whole : (s : List ℕ) → 0 < length s → length s ≤ run (Not 10) s → is_cut s ≡ true
unfolding is_cut run of_class
cut-whole [] k h = absurd (omega arith)
cut-whole (b ∷ []) k h = go (not (eqb b 10)) h
  where
    go : (t : Bool) → 1 ≤ cond t 1 0 → t ≡ true
    go true h = refl
    go false h = absurd (omega arith)
cut-whole (b ∷ x ∷ s) k h = cut-whole (x ∷ s) (omega arith) (go (not (eqb b 10)) h)
  where
    go : (t : Bool) → suc (length (x ∷ s)) ≤ cond t (suc (run (Not 10) (x ∷ s))) 0 → length (x ∷ s) ≤ run (Not 10) (x ∷ s)
    go true h = omega arith
    go false h = absurd (omega arith)

-- where the line that starts at a place ends
abbrev pub line_end : List ℕ → ℕ → ℕ
line_end s at = skipped (Not 10) s at

lines_from : (s : List ℕ) (at : ℕ) → at < length s
    → lines_of (drop at s) ≡ take (line_end s at - at) (drop at s) ∷ lines_of (drop (line_end s at + 1) s)
unfolding skipped
lines_from s at h =
    let e : at + run (Not 10) (drop at s) - at ≡ run (Not 10) (drop at s) = omega arith in
    let f : at + suc (run (Not 10) (drop at s)) ≡ at + run (Not 10) (drop at s) + 1 = omega arith in
    rw (e, ← f, ← drop-drop (suc (run (Not 10) (drop at s))) at s) (first (drop at s) (omega (arith, length-drop at s)))
  where
    first : (l : List ℕ) → 0 < length l → lines_of l ≡ take (run (Not 10) l) l ∷ lines_of (drop (suc (run (Not 10) l)) l)
    first [] k = absurd (omega arith)
    first (b ∷ l) k = line_first b l

-- the two searches one after the other
pub end-found : (s : List ℕ) (at stop end : ℕ) → stop ≡ skipped InLine s at → end ≡ skipped (Not 10) s stop → end ≡ line_end s at
end-found s at stop end p q = q ∙ rw p (skipped-past InLine (Not 10) no-newline s at)

pub stop-found : (s : List ℕ) (at stop end : ℕ) → stop ≡ skipped InLine s at → end ≡ line_end s at
    → stop - at ≡ skipped InLine (take (end - at) (drop at s)) 0
unfolding skipped
stop-found s at stop end p q =
    let e : at + run (Not 10) (drop at s) - at ≡ run (Not 10) (drop at s) = omega arith in
    rw (p, q, e) (omega (arith, run-taken InLine (Not 10) no-newline (drop at s)))

-- the line that starts at a place, by where it ends
module _ (s : List ℕ) (at end : ℕ) (inside : at < length s) (found : end ≡ line_end s at) where
  pub lines-first : lines_of (drop at s) ≡ take (end - at) (drop at s) ∷ lines_of (drop (end + 1) s)
  lines-first = rw found (lines_from s at inside)

  pub next_start : at + length (take (end - at) (drop at s)) + 1 ≡ end + 1
  next_start =
      let i : end ≤ length s = rw found (skipped-within (Not 10) s at (omega arith)) in
      let j : at ≤ end = rw found (skipped-from (Not 10) s at) in
      let l = length-take-le (end - at) (drop at s) (omega (arith, length-drop at s)) in
      omega (arith, l)

  cut-at-end : length s ≤ end → is_cut s ≡ true
  unfolding skipped
  cut-at-end h =
      sym (cut-from s at inside)
      ∙ cut-whole (drop at s) (omega (arith, length-drop at s)) (omega (arith, length-drop at s, found))

  pub last_line : length s ≤ end → (is_cut s && is_last (lines_of (drop (end + 1) s))) ≡ true
  unfolding is_last lines_of
  last_line h = rw (cut-at-end h, drop_of_length-le s (let k : length s ≤ end + 1 = omega arith in k))

  newline-there : end < length s → get_or s end 0 ≡ 10
  unfolding of_class
  newline-there h = eqb-true (get_or s end 0) 10 (go (eqb (get_or s end 0) 10) (rw found (skipped-stop (Not 10) s at (rw found at h))))
    where
      go : (t : Bool) → not t ≡ false → t ≡ true
      go true e = refl
      go false e = absurd (false≢true (sym e))

  pub ended-line : end < length s → (is_cut s && is_last (lines_of (drop (end + 1) s))) ≡ false
  unfolding is_cut
  ended-line h = go (drop (end + 1) s) refl
    where
      rest : drop end s ≡ 10 ∷ drop (end + 1) s
      rest = drop-cons s end 0 h ∙ rw (newline-there h, add-one end)

      none : (t : Bool) → (t && false) ≡ false
      none true = refl
      none false = refl

      go : (r : List ℕ) → drop (end + 1) s ≡ r → (is_cut s && is_last (lines_of r)) ≡ false
      go [] e =
          let one : drop end s ≡ 10 ∷ [] = rest ∙ rw e in
          let c : is_cut (drop end s) ≡ false = rw one in
          rw (← cut-from s end h, c)
      go (x ∷ r) e = rw (lines-some x r) (none (is_cut s))
