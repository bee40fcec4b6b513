-- Laws of a look at the queue, and of a queue that is filled anew, entry by entry.
-- Assumes nothing.
use mathlib.Core.Path.{◌≡◌, refl, sym, ap, ◌∙◌}
use mathlib.Core.Bool.{Bool, true, false, true≢false}
use mathlib.Core.List.{List, [], ◌∷◌}
use Prim.Native.Nat.{ℕ, zero, suc, ◌+◌, ◌≤◌, ◌<◌}
use native.Mathlib.Nat.{lt_of_not-le}
use native.Mathlib.Decide.{dec_le}
use native.Mathlib.Omega.{arith}
use lib.ListN.{length, get_or, take}
use Rattle.std.specs.Prelude.{Option, Some, None}
use Rattle.fifo.specs.Queues.{is_waiting, entries_of}
use Rattle.schedule.specs.Jumps.{is_mark}
use Rattle.fifo.specs.Layout.{limit, queue_of, stored, roomy}
use Rattle.fifo.specs.Steps.{front, standing}
use Rattle.fifo.specs.Inner.{CanPush, pushed}
use Rattle.fifo.proofs.WaitingEntries.{entries-snoc, cut-over, cut_twice, take_next}
use Rattle.fifo.proofs.Queues.{make-proper}
use Rattle.fifo.proofs.Filling.{push-laid}

-- ---- who stands at a place

pub standing-at : (l : List ℕ) (i : ℕ) → i < length l → Some (get_or l i 0) ≡ standing i l
unfolding standing front
standing-at [] i h = absurd (omega arith)
standing-at (x ∷ l) zero h = refl
standing-at (x ∷ l) (suc i) h = standing-at l i (omega arith)

pub standing-past : (l : List ℕ) (i : ℕ) → length l ≤ i → None ≡ standing i l
unfolding standing front
standing-past [] zero h = refl
standing-past [] (suc i) h = refl
standing-past (x ∷ l) zero h = absurd (omega arith)
standing-past (x ∷ l) (suc i) h = standing-past l i (omega arith)

-- ---- a list, up to a place

-- the entries before place i are entries, the one there is one too, and isn't among them
pub entry-there : (n : ℕ) (l : List ℕ) (i : ℕ) → entries_of n l ≡ true → i < length l
    → (get_or l i 0 < n) × (is_waiting (get_or l i 0) (take i l) ≡ false)
entry-there n l i e h = (below, out (is_waiting (get_or l i 0) (take i l)) refl)
  where
    below : get_or l i 0 < n
    below = elim (dec_le n (get_or l i 0)) [ yes k ↦ absurd (true≢false (sym e ∙ cut-over l i (get_or l i 0) h refl n k)) | no k ↦ lt_of_not-le k ]

    out : (b : Bool) → is_waiting (get_or l i 0) (take i l) ≡ b → b ≡ false
    out true k = absurd (true≢false (sym e ∙ cut_twice l i (get_or l i 0) h refl n k))
    out false k = refl

pub entries-take : (n : ℕ) (l : List ℕ) → entries_of n l ≡ true → (i : ℕ) → i ≤ length l → entries_of n (take i l) ≡ true
unfolding entries_of
entries-take n l e zero h = refl
entries-take n l e (suc i) h =
    let t = entry-there n l i e (omega arith) in
    let q : i + 1 ≡ suc i = omega arith in
    rw (sym q) (ap (entries_of n) (take_next l i (get_or l i 0) (omega arith) refl)
    ∙ entries-snoc n (take i l) (get_or l i 0) (entries-take n l e i (omega arith)) t.0 t.1)

-- the buffer with a mark and the first entries of a list
abbrev pub partly : Option ℕ → List ℕ → List ℕ → ℕ → List ℕ
partly m l room i = stored (record { mark = m; waiting = take i l }) room

-- a turn of the loop: the next entry joins
pub refill-next : (n : ℕ) (m : Option ℕ) (l room : List ℕ) (i : ℕ) → n < limit → is_mark m ≡ true → roomy n room ≡ true → entries_of n l ≡ true → i < length l
    → CanPush (partly m l room i) × (stored (pushed (get_or l i 0) (queue_of (partly m l room i))) (partly m l room i) ≡ partly m l room (i + 1))
unfolding pushed
refill-next n m l room i few is r e h =
    let t = entry-there n l i e h in
    let good = make-proper n (record { mark = m; waiting = take i l }) is (entries-take n l e i (omega arith)) in
    let step = push-laid n (record { mark = m; waiting = take i l }) room (get_or l i 0) few r good t.0 t.1 in
    (step.0, step.1 ∙ ap (λ (k : List ℕ). stored (record { mark = m; waiting = k }) room) (sym (take_next l i (get_or l i 0) h refl)))
