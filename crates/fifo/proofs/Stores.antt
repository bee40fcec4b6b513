-- Laws of the stores that change a queue in its buffer.
-- Assumes nothing.
use mathlib.Core.Path.{◌≡◌, refl, sym, ap, ◌∙◌}
use mathlib.Core.List.{List, [], ◌∷◌, ◌++◌}
use Prim.Native.Nat.{ℕ, suc, ◌+◌, ◌-◌, ◌*◌, ◌/◌, ◌%◌, ◌≤◌, ◌<◌}
use native.Mathlib.Omega.{arith}
use lib.ListN.{length, take, drop, length-append, length-drop}
use lib.Seq.{paste, take-append_seam, drop-drop}
use Rattle.std.specs.Prelude.{Option, None}
use Rattle.octets.specs.OverFront as front
use Rattle.fifo.specs.Queues.{Queue}
use Rattle.fifo.specs.Layout.{limit, bytes, mark_number, layout, image, stored, queue_size}
use Rattle.fifo.specs.Steps.{behind, popped}
use Rattle.fifo.specs.Inner.{with_number, pushed}
use Rattle.fifo.proofs.Numbers.{length-bytes}
use Rattle.fifo.proofs.Queues.{length-layout}

-- ---- a number after others

with-next : (i x a b : ℕ) (s : List ℕ) → with_number (suc i) x (a ∷ b ∷ s) ≡ a ∷ b ∷ with_number i x s
unfolding with_number
with-next i x a b s =
    let p : 2 * suc i ≡ suc (suc (2 * i)) = omega arith in
    let q : suc (suc (2 * i)) + 1 ≡ suc (suc (2 * i + 1)) = omega arith in
    rw (p, q)

with_first : (x a b : ℕ) (s : List ℕ) → with_number 0 x (a ∷ b ∷ s) ≡ x % 256 ∷ x / 256 % 256 ∷ s
unfolding with_number
with_first x a b s = refl

with-behind : (ns : List ℕ) (x a b : ℕ) (s : List ℕ) → with_number (length ns) x (bytes ns ++ a ∷ b ∷ s) ≡ bytes (ns ++ x ∷ []) ++ s
unfolding bytes
with-behind [] x a b s = with_first x a b s
with-behind (y ∷ ns) x a b s = with-next (length ns) x (y % 256) (y / 256 % 256) (bytes ns ++ a ∷ b ∷ s) ∙ rw (with-behind ns x a b s)

-- numbers over the front, and one more
pub with-more : (ns : List ℕ) (x : ℕ) (s : List ℕ) → 2 * length ns + 2 ≤ length s
    → with_number (length ns) x (front.over_front (bytes ns) s) ≡ front.over_front (bytes (ns ++ x ∷ [])) s
unfolding front.over_front
with-more ns x s h = go (drop (length (bytes ns)) s) refl
  where
    go : (r : List ℕ) → drop (length (bytes ns)) s ≡ r → with_number (length ns) x (bytes ns ++ r) ≡ bytes (ns ++ x ∷ []) ++ drop (length (bytes (ns ++ x ∷ []))) s
    go [] e = absurd (omega (arith, ap length e, length-drop (length (bytes ns)) s, length-bytes ns))
    go (a ∷ []) e = absurd (omega (arith, ap length e, length-drop (length (bytes ns)) s, length-bytes ns))
    go (a ∷ b ∷ r) e =
        let size : length (bytes (ns ++ x ∷ [])) ≡ length (bytes ns) + 2 =
        omega (arith, length-bytes (ns ++ x ∷ []), length-bytes ns, length-append ns (x ∷ [])) in
        let rest : drop (length (bytes ns) + 2) s ≡ r = sym (drop-drop 2 (length (bytes ns)) s) ∙ ap (drop 2) e in
        with-behind ns x a b r ∙ rw (size, rest)

-- ---- an empty queue, in a buffer that may hold anything

laid-no-number : (s : List ℕ) → s ≡ front.over_front (bytes []) s
unfolding front.over_front bytes
laid-no-number s = refl

pub laid-clear : (s : List ℕ) → queue_size 0 ≤ length s
    → with_number 4 0 (with_number 3 0 (with_number 2 0 (with_number 1 12625 (with_number 0 21061 s)))) ≡ stored (record { mark = None; waiting = [] }) s
unfolding stored image layout
laid-clear s h =
    rw (
      ap (with_number 0 21061) (laid-no-number s) ∙ with-more [] 21061 s (omega arith),
      with-more (21061 ∷ []) 12625 s (omega arith),
      with-more (21061 ∷ 12625 ∷ []) 0 s (omega arith),
      with-more (21061 ∷ 12625 ∷ 0 ∷ []) 0 s (omega arith),
      with-more (21061 ∷ 12625 ∷ 0 ∷ 0 ∷ []) 0 s (omega arith),
    )

-- ---- stores to a buffer that holds a queue

module _ (l : Queue) (s : List ℕ) (held : stored l s ≡ s) where
  -- another mark
  pub laid-mark : (m : Option ℕ)
      → with_number 3 (mark_number m / limit) (with_number 2 (mark_number m % limit) s) ≡ stored (record { mark = m; waiting = l.waiting }) s
  unfolding stored front.over_front image layout bytes with_number
  laid-mark m = ap (λ (b : List ℕ). with_number 3 (mark_number m / limit) (with_number 2 (mark_number m % limit) b)) (sym held)

  -- none waits
  pub laid_none : with_number 4 0 s ≡ stored (record { mark = l.mark; waiting = [] }) s
  unfolding stored front.over_front image layout bytes with_number
  laid_none =
      ap (λ (b : List ℕ). with_number 4 0 b) (sym held)
      ∙ ap (λ (r : List ℕ). image (record { mark = l.mark; waiting = [] }) ++ r) (ap (λ (b : List ℕ). drop 10 b) held)

  counted : (e : ℕ) → with_number 4 (length l.waiting + 1) (front.over_front (bytes (layout l ++ e ∷ [])) s) ≡ front.over_front (bytes (layout (pushed e l))) s
  unfolding front.over_front layout bytes with_number pushed
  counted e = rw (length-append l.waiting (e ∷ []))

  -- an entry after the last, and the count one more
  pub laid-push : (e : ℕ) → queue_size (suc (length l.waiting)) ≤ length s
      → with_number 4 (length l.waiting + 1) (with_number (5 + length l.waiting) e s) ≡ stored (pushed e l) s
  unfolding stored image
  laid-push e h =
      let k = length l.waiting in
      ap (with_number 4 (k + 1))
      (ap (λ (b : List ℕ). with_number (5 + k) e b) (sym held)
      ∙ ap (λ (n : ℕ). with_number n e (stored l s)) (sym (length-layout l))
      ∙ with-more (layout l) e s (omega (arith, length-layout l)))
      ∙ counted e

-- the others moved up, and the count one less
pub laid-pop : (m : Option ℕ) (e : ℕ) (w s : List ℕ) → stored (record { mark = m; waiting = e ∷ w }) s ≡ s
    → with_number 4 (length w) (paste s 10 (drop 12 s) (2 * length w)) ≡ stored (record { mark = m; waiting = w }) s
unfolding stored front.over_front image layout bytes with_number
laid-pop m e w s held =
    let rest = drop (10 + 2 * length w) s in
    let ten = ap (λ (b : List ℕ). take 10 b) (sym held) in
    let own : take (2 * length w) (drop 12 s) ≡ bytes w =
    ap (λ (b : List ℕ). take (2 * length w) (drop 12 b)) (sym held)
    ∙ rw (← (length-bytes w)) (take-append_seam (bytes w) (drop (length (image (record { mark = m; waiting = e ∷ w }))) s)) in
    let size : 10 + 2 * length w ≡ length (image (record { mark = m; waiting = w })) = omega (arith, length-bytes w) in
    ap (λ (b : List ℕ). with_number 4 (length w) (b ++ take (2 * length w) (drop 12 s) ++ rest)) ten
    ∙ rw (own, size)

pub laid-drop : (l : Queue) (s : List ℕ) (k : ℕ) → stored l s ≡ s → k ≡ length l.waiting → 0 < k
    → with_number 4 (k - 1) (paste s 10 (drop 12 s) (2 * k - 2)) ≡ stored (popped l) s
unfolding popped behind
laid-drop l s k held q h = go l.waiting held q
  where
    go : (w : List ℕ) → stored (record { mark = l.mark; waiting = w }) s ≡ s → k ≡ length w
        → with_number 4 (k - 1) (paste s 10 (drop 12 s) (2 * k - 2)) ≡ stored (record { mark = l.mark; waiting = behind w }) s
    go [] held q = absurd (omega arith)
    go (x ∷ w) held q =
        let n : k - 1 ≡ length w = omega arith in
        let m : 2 * k - 2 ≡ 2 * length w = omega arith in
        rw (n, m) (laid-pop l.mark x w s held)

-- where none waits, a request changes nothing
pub laid-drop-none : (l : Queue) (s : List ℕ) → stored l s ≡ s → length l.waiting ≡ 0 → s ≡ stored (popped l) s
unfolding popped behind
laid-drop-none l s held q = go l.waiting held q
  where
    go : (w : List ℕ) → stored (record { mark = l.mark; waiting = w }) s ≡ s → length w ≡ 0 → s ≡ stored (record { mark = l.mark; waiting = behind w }) s
    go [] held q = sym held
    go (x ∷ w) held q = absurd (omega arith)
