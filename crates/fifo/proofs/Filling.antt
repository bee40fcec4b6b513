-- A queue that grows entry by entry, as a loop over the entries makes it: those below i that pass a test have joined.
-- Assumes nothing.
use mathlib.Core.Path.{◌≡◌, refl, sym, ◌∙◌}
use mathlib.Core.Bool.{Bool, true, false, not, cond, ◌&&◌, and-true, and-eq-true_iff, or-false}
use mathlib.Core.List.{List, [], ◌∷◌, ◌++◌, append_assoc, append-nil}
use Prim.Native.Nat.{ℕ, ◌+◌, ◌≤◌, ◌<◌}
use native.Mathlib.Numerals.{add-one}
use native.Mathlib.Nat.{lt_of_not-le}
use native.Mathlib.Decide.{dec_le}
use native.Mathlib.Omega.{arith}
use lib.ListN.{length, length-append}
use borrow.Author.Tests.{not-true, le-leb, lt-leb, le-ltb}
use Rattle.octets.specs.BitSets.{has_member}
use Rattle.calendar.specs.Dates.{last_minute}
use Rattle.schedule.specs.Jumps.{mark_after}
use Rattle.std.specs.Prelude.{Ok}
use Rattle.fifo.specs.Queues.{Queue, is_waiting, proper, pick}
use Rattle.fifo.specs.Layout.{limit, queue_of, stored, roomy, is_queue}
use Rattle.fifo.specs.Steps.{Jobs, fresh, init_step, calls, joins, joiners, ticked, tick_step}
use Rattle.fifo.specs.Inner.{CanPush, pushed, callees, init_called, joined, tick_called}
use Rattle.fifo.proofs.WaitingEntries.{waits-append, waits-pick, pick_same, entries-length, entries-snoc, entries-pick}
use Rattle.fifo.proofs.Queues.{is-proper, make-proper, roomy-size, queue-known, queue_of-laid, length-laid, laid-laid, holds-laid}

-- ---- one entry more

-- in a buffer that a queue of n entries was written to there is room for an entry that doesn't wait
pub push-laid : (n : ℕ) (l : Queue) (room : List ℕ) (e : ℕ) → n < limit → roomy n room ≡ true → proper n l ≡ true → e < n → is_waiting e l.waiting ≡ false
    → CanPush (stored l room) × (stored (pushed e (queue_of (stored l room))) (stored l room) ≡ stored (pushed e l) room)
unfolding pushed
push-laid n l room e h r g below out =
    let p = is-proper n l g in
    let more = entries-length n (l.waiting ++ e ∷ []) (entries-snoc n l.waiting e p.1 below out) in
    let one = length-append l.waiting (e ∷ []) in
    let size = length-laid l room (omega (arith, roomy-size n room r)) in
    rw (queue_of-laid n l room h g)
    ((holds-laid l room, omega (arith, roomy-size n room r), omega arith), laid-laid (record { mark = l.mark; waiting = l.waiting ++ e ∷ [] }) l room (omega arith))

-- ---- entry by entry

module _ (l : Queue) (room : List ℕ) (p : ℕ → Bool) where
  -- the queue after the entries below i, and its buffer
  abbrev pub grown : ℕ → Queue
  grown i = record { mark = l.mark; waiting = l.waiting ++ pick p i }

  abbrev pub filled : ℕ → List ℕ
  filled i = stored (grown i) room

  pub filled_none : filled 0 ≡ stored l room
  unfolding pick
  filled_none = rw (append-nil l.waiting)

  -- an entry that fails the test is passed over
  pub filled-pass : (i : ℕ) → p i ≡ false → filled i ≡ filled (i + 1)
  unfolding pick
  filled-pass i q = rw (add-one i, q, append-nil (pick p i))

  module _ (n : ℕ) (h : n < limit) (r : roomy n room ≡ true) (g : proper n l ≡ true)
      (new : (e : ℕ) → p e ≡ true → is_waiting e l.waiting ≡ false) where
    grown-proper : (i : ℕ) → i ≤ n → proper n (grown i) ≡ true
    grown-proper i k = make-proper n (grown i) (is-proper n l g).0 (entries-pick n l.waiting p new (is-proper n l g).1 i k)

    -- entry i waits there if it waited before
    waits-before : (i : ℕ) → is_waiting i (l.waiting ++ pick p i) ≡ is_waiting i l.waiting
    waits-before i =
        waits-append i l.waiting (pick p i) ∙ rw (waits-pick p i i, le-ltb i i (omega arith)) (or-false (is_waiting i l.waiting))

    -- an entry that passes can join
    pub filled-room : (i : ℕ) → i < n → p i ≡ true
        → CanPush (filled i) × (stored (pushed i (queue_of (filled i))) (filled i) ≡ filled (i + 1))
    unfolding pick pushed
    filled-room i k q =
        let step = push-laid n (grown i) room i h r (grown-proper i (omega arith)) k (waits-before i ∙ new i q) in
        (step.0, rw (add-one i, q, ← append_assoc) step.1)

    -- a turn of a loop over the entries: one that passes joins, any other is passed over
    pub filled_next : (i : ℕ) → i < n → cond (p i) (stored (pushed i (queue_of (filled i))) (filled i)) (filled i) ≡ filled (i + 1)
    filled_next i k = go (p i) refl
      where
        go : (b : Bool) → p i ≡ b → cond b (stored (pushed i (queue_of (filled i))) (filled i)) (filled i) ≡ filled (i + 1)
        go true q = (filled-room i k q).1
        go false q = filled-pass i q

-- how many have joined
pub length-pick : (p : ℕ → Bool) (i : ℕ) → length (pick p (i + 1)) ≡ length (pick p i) + cond (p i) 1 0
unfolding pick
length-pick p i = rw (add-one i) (length-append (pick p i) (cond (p i) (i ∷ []) []) ∙ go (p i))
  where
    go : (b : Bool) → length (pick p i) + length (cond b (i ∷ []) []) ≡ length (pick p i) + cond b 1 0
    go true = refl
    go false = refl

one-most : (b : Bool) → cond b 1 0 ≤ 1
one-most true = omega arith
one-most false = omega arith

-- ---- a loop over the entries

-- what holds after the entries below i: the room, and how many joined
pub record Fills (l : Queue) (room₀ : List ℕ) (p : ℕ → Bool) (n i : ℕ) (room : List ℕ) (count : ℕ) : Type 0 where
  pub up_to : i ≤ n
  pub room-is : room ≡ filled l room₀ p i
  pub length-is : length room ≡ length room₀
  pub count-is : count ≡ length (pick p i)
  pub count_most : count ≤ i

module _ (l : Queue) (room₀ : List ℕ) (p : ℕ → Bool) (n : ℕ) where
  pub fills-none : {room : List ℕ} → room ≡ stored l room₀ → length room ≡ length room₀ → Fills l room₀ p n 0 room 0
  unfolding pick
  fills-none e k =
      record {
        up_to = omega arith;
        room-is = e ∙ sym (filled_none l room₀ p);
        length-is = k;
        count-is = refl;
        count_most = omega arith;
      }

  pub fills-more : {i : ℕ} {room after : List ℕ} {count more : ℕ} → Fills l room₀ p n i room count → i < n
      → after ≡ filled l room₀ p (i + 1) → length after ≡ length room₀ → more ≡ count + cond (p i) 1 0
      → Fills l room₀ p n (i + 1) after more
  fills-more {i} {room} {after} {count} {more} f h e k q =
      record {
        up_to = omega arith;
        room-is = e;
        length-is = k;
        count-is = omega (arith, f.count-is, length-pick p i);
        count_most = omega (arith, f.count_most, one-most (p i));
      }

-- A turn of the loop: an entry that is called joins unless it waits.
module _ (n : ℕ) (room called : List ℕ) where
  abbrev pub joins_now : ℕ → Bool
  joins_now e = has_member called e && not (is_waiting e (queue_of room).waiting)

  now-new : (e : ℕ) → joins_now e ≡ true → is_waiting e (queue_of room).waiting ≡ false
  now-new e q = not-true (is_waiting e (queue_of room).waiting) ((and-eq-true_iff (has_member called e) (not (is_waiting e (queue_of room).waiting))).0 q).1

  module _ (i : ℕ) (h : n < limit) (q : is_queue n room ≡ true) (k : i < n) where
    pub join-room : joins_now i ≡ true → CanPush (filled (queue_of room) room joins_now i)
    join-room j =
        let queue = queue-known n room q in
        (filled-room (queue_of room) room joins_now n h queue.roomy-is queue.proper-is now-new i k j).0

    pub join-next : let at = filled (queue_of room) room joins_now in
        cond (joins_now i) (stored (pushed i (queue_of (at i))) (at i)) (at i) ≡ at (i + 1)
    join-next =
        let queue = queue-known n room q in
        filled_next (queue_of room) room joins_now n h queue.roomy-is queue.proper-is now-new i k

-- ---- a fresh line and an announced minute end in their steps

-- who joins doesn't wait
pub joins-new : (jobs : Jobs) (minute : ℕ) (l : Queue) (e : ℕ) → joins jobs minute l e ≡ true → is_waiting e l.waiting ≡ false
unfolding joins
joins-new jobs minute l e q =
    not-true (is_waiting e l.waiting) ((and-eq-true_iff (not (jobs.boot e) && calls jobs l.mark minute e) (not (is_waiting e l.waiting))).0 q).1

-- an announcement that isn't refused
pub tick-done : (n : ℕ) (called : List ℕ) (minute : ℕ) (room : List ℕ) → is_queue n room ≡ true → minute ≤ last_minute
    → let l = queue_of room in
    tick_called n called minute room
    ≡ record { answer = Ok (length (callees n called l.waiting)); room = stored (joined n called (mark_after l.mark minute) l) room }
unfolding tick_called
tick-done n called minute room e on = rw (e, le-leb minute last_minute on)

-- where the set has just those jobs of which the step speaks
module _ (jobs : Jobs) (called room : List ℕ) where
  pub init-called : ((e : ℕ) → e < jobs.count → has_member called e ≡ jobs.boot e) → init_called jobs.count called room ≡ init_step jobs room
  unfolding init_called init_step callees fresh is_waiting
  init-called h = rw (pick_same (λ e. has_member called e && true) jobs.boot jobs.count (λ e k. and-true (has_member called e) ∙ h e k))

  pub tick-called : (minute : ℕ)
      → (minute ≤ last_minute → (e : ℕ) → e < jobs.count → has_member called e ≡ (not (jobs.boot e) && calls jobs (queue_of room).mark minute e))
      → tick_called jobs.count called minute room ≡ tick_step jobs minute room
  unfolding tick_called tick_step joined ticked joiners callees joins
  tick-called minute h =
      let l = queue_of room in
      elim (dec_le minute last_minute) [
        | yes on ↦
            rw (
              le-leb minute last_minute on,
              pick_same (λ e. has_member called e && not (is_waiting e l.waiting)) (joins jobs minute l) jobs.count (λ e k. rw (h on e k)),
            )
        | no off ↦ rw (lt-leb minute last_minute (lt_of_not-le off))
      ]
