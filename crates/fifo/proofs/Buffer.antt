-- The third demand for one buffer: the calls made on it follow from the fresh line, since each leaves the line's bytes at the
-- buffer's front, and a call that is lent enough of them sees the line.
-- Assumes nothing.
use mathlib.Core.Path.{◌≡◌, refl, sym, ap, ◌∙◌}
use mathlib.Core.Logic.{inl, inr}
use mathlib.Core.Bool.{true, cond}
use mathlib.Core.List.{List, [], ◌∷◌, ◌++◌, append_assoc}
use Prim.Native.Nat.{ℕ, ◌+◌, ◌-◌, ◌≤◌, ◌<◌}
use native.Mathlib.Omega.{arith}
use lib.ListN.{length, take, drop, length-take, take-append-drop}
use lib.Seq.{take-append-add}
use borrow.Author.Tests.{leb-true}
use Rattle.octets.specs.OverFront as front
use Rattle.octets.proofs.LittleEndian.{Bytes, bytes_take}
use Rattle.fifo.specs.Queues.{Queue, proper}
use Rattle.fifo.specs.Layout.{limit, queue_of, image, stored, queue_size, roomy, is_queue}
use Rattle.fifo.specs.Steps.{Jobs, fresh, init_step}
use Rattle.fifo.specs.Fairness.{Call, room_of, room_after, is_refused, queue_after, Holds, Follows}
use Rattle.fifo.specs.Buffer.{Use, tick_in, pop_in, lent, call_on, buffer_after, calls_on, buffer_after_all, started}
use Rattle.fifo.proofs.WaitingEntries.{entries-length}
use Rattle.fifo.proofs.Queues.{length-image, queue_of-laid, holds-laid, is-queue, laid-queue, is-proper, make-proper}
use Rattle.fifo.proofs.Calls.{fresh-proper, holds-front, Undone, Done, effect, outcome, after-proper}

-- ---- a line at the front of a buffer

-- bytes behind it don't matter
holds_more : (l : Queue) (room s : List ℕ) → Holds l room → Holds l (room ++ s)
unfolding stored front.over_front
holds_more l room s h =
    let rest = drop (length (image l)) room in
    let apart : image l ++ (rest ++ s) ≡ room ++ s = sym (append_assoc (image l) rest s) ∙ ap (λ (r : List ℕ). r ++ s) h in
    rw apart at (holds-front l (rest ++ s))

-- a part that is long enough has it too
holds-part : (l : Queue) (buffer : List ℕ) (size : ℕ) → Holds l buffer → length (image l) ≤ size → Holds l (take size buffer)
unfolding stored front.over_front
holds-part l buffer size h k =
    let rest = drop (length (image l)) buffer in
    let more : length (image l) + (size - length (image l)) ≡ size = omega arith in
    let part : take size buffer ≡ image l ++ take (size - length (image l)) rest =
    ap (take size) (sym h) ∙ ap (λ (n : ℕ). take n (image l ++ rest)) (sym more) ∙ take-append-add (image l) rest (size - length (image l)) in
    rw part (holds-front l (take (size - length (image l)) rest))

pub room-on : (buffer : List ℕ) (u : Use) → room_of (call_on buffer u) ≡ take (lent u) buffer
unfolding room_of call_on lent
room-on buffer (tick_in minute size) = refl
room-on buffer (pop_in size) = refl

module _ (jobs : Jobs) (h : jobs.count < limit) where
  -- a room that is big enough for all entries has the line
  pub on-holds : (buffer : List ℕ) (l : Queue) (u : Use) → proper jobs.count l ≡ true → Holds l buffer
      → roomy jobs.count (room_of (call_on buffer u)) ≡ true → Holds l (room_of (call_on buffer u))
  unfolding roomy
  on-holds buffer l u e held r =
      let k : queue_size jobs.count ≤ length (take (lent u) buffer) = leb-true _ _ (rw (room-on buffer u) at r) in
      let fits : length (image l) ≤ lent u =
      omega (arith, length-image l, entries-length jobs.count l.waiting (is-proper jobs.count l e).1, length-take (lent u) buffer) in
      rw (room-on buffer u) (holds-part l buffer (lent u) held fits)

  -- the buffer has the line that the call leaves
  pub on-after : (buffer : List ℕ) (l : Queue) (u : Use) → proper jobs.count l ≡ true → Holds l buffer
      → Holds (queue_after jobs l (call_on buffer u)) (buffer_after jobs buffer u)
  unfolding queue_after buffer_after
  on-after buffer l u e held = elim (outcome jobs h l e c (on-holds buffer l u e held)) [ inl u ↦ undone u | inr d ↦ done d ]
    where
      c : Call
      c = call_on buffer u

      undone : Undone jobs c → Holds (cond (is_refused jobs c) l (queue_of (room_after jobs c))) (room_after jobs c ++ drop (lent u) buffer)
      undone w = rw (w.was, w.room, room-on buffer u, take-append-drop (lent u) buffer) held

      done : Done jobs l c → Holds (cond (is_refused jobs c) l (queue_of (room_after jobs c))) (room_after jobs c ++ drop (lent u) buffer)
      done w =
          rw (w.was, w.room, queue_of-laid jobs.count (effect jobs l c) (room_of c) h w.leaves)
          (holds_more (effect jobs l c) (stored (effect jobs l c) (room_of c)) (drop (lent u) buffer) (holds-laid (effect jobs l c) (room_of c)))

  -- the calls follow from the line that the buffer has
  pub on-follows : (us : List Use) (buffer : List ℕ) (l : Queue) → proper jobs.count l ≡ true → Holds l buffer → Follows jobs l (calls_on jobs buffer us)
  unfolding calls_on
  on-follows [] buffer l e held = tt
  on-follows (u ∷ us) buffer l e held =
      let seen = on-holds buffer l u e held in (
        seen,
        on-follows us (buffer_after jobs buffer u) (queue_after jobs l (call_on buffer u)) (after-proper jobs h l (call_on buffer u) e seen)
            (on-after buffer l u e held),
      )

  pub started-holds : (size : ℕ) (buffer : List ℕ) → roomy jobs.count (take size buffer) ≡ true → Holds (fresh jobs) (started jobs size buffer)
  unfolding started init_step
  started-holds size buffer r = rw r (holds_more (fresh jobs) _ (drop size buffer) (holds-laid (fresh jobs) (take size buffer)))

pub calls-append : (jobs : Jobs) (first second : List Use) (buffer : List ℕ)
    → calls_on jobs buffer (first ++ second) ≡ calls_on jobs buffer first ++ calls_on jobs (buffer_after_all jobs buffer first) second
unfolding calls_on buffer_after_all
calls-append jobs [] second buffer = refl
calls-append jobs (u ∷ us) second buffer = rw (calls-append jobs us second (buffer_after jobs buffer u))

-- a list that comes after any other on a buffer in which a queue was made
pub buffer-follows : (jobs : Jobs) (h : jobs.count < limit) (size : ℕ) (buffer : List ℕ) → roomy jobs.count (take size buffer) ≡ true → (first second : List Use)
    → let b = started jobs size buffer in
    Follows jobs (fresh jobs) (calls_on jobs b first ++ calls_on jobs (buffer_after_all jobs b first) second)
buffer-follows jobs h size buffer r first second =
    let b = started jobs size buffer in
    rw (calls-append jobs first second b) at (on-follows jobs h (first ++ second) b (fresh jobs) (fresh-proper jobs) (started-holds jobs h size buffer r))

-- a list on a buffer of bytes in which a queue is found
pub found-follows : (jobs : Jobs) (h : jobs.count < limit) (size : ℕ) (buffer : List ℕ) → Bytes buffer → is_queue jobs.count (take size buffer) ≡ true → (us : List Use)
    → let l = queue_of (take size buffer) in
    (proper jobs.count l ≡ true) × Follows jobs l (calls_on jobs buffer us)
unfolding queue_of
found-follows jobs h size buffer f e us =
    let l = queue_of (take size buffer) in
    let is = is-queue jobs.count (take size buffer) e in
    let good = make-proper jobs.count l is.0 is.1 in
    let held = holds_more l (take size buffer) (drop size buffer) (laid-queue jobs.count (take size buffer) (bytes_take size buffer f) e) in
    (good, on-follows jobs h us buffer l good (rw (take-append-drop size buffer) at held))
