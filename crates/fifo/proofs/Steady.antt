-- The steady lists are paced, and none of their calls is refused: a buffer keeps its length and always has a line of entries at its front.
-- Assumes nothing.
use mathlib.Core.Path.{◌≡◌, refl, ap, ◌∙◌}
use mathlib.Core.Logic.{inl, inr}
use mathlib.Core.Bool.{Bool, true, false, cond, true≢false}
use mathlib.Core.List.{List, [], ◌∷◌, ◌++◌}
use Prim.Native.Nat.{ℕ, zero, suc, ◌+◌, ◌≤◌, ◌<◌}
use native.Mathlib.Omega.{arith}
use lib.Dec.{leb}
use lib.ListN.{length, take, drop, length-take, length-drop, length-append}
use borrow.Author.Tests.{leb-true, leb-false, le-leb}
use Rattle.calendar.specs.Dates.{last_minute}
use Rattle.fifo.specs.Queues.{Queue, proper}
use Rattle.fifo.specs.Layout.{limit, stored, queue_size, roomy}
use Rattle.fifo.specs.Steps.{Jobs, fresh, init_step}
use Rattle.refusal.specs.declared.Refusal.TheVariants.{NotOnCalendar, NotAQueue}
use Rattle.refusal.specs.Numbers.{number_of}
use Rattle.fifo.specs.RefusedCalls.{expected}
use Rattle.fifo.specs.Fairness.{Call, tick, pop, room_of, room_after, refusal, is_refused, unrefused, queue_after, Holds, ConsecutiveTicks}
use Rattle.fifo.specs.Buffer.{Use, tick_in, pop_in, lent, call_on, buffer_after, calls_on, buffer_after_all, started}
use Rattle.fifo.specs.Steady.{steady}
use Rattle.fifo.specs.FairEvery.{ConsecutiveTicksEvery, steady_every}
use Rattle.fifo.proofs.WaitingEntries.{entries-length}
use Rattle.fifo.proofs.Queues.{length-laid, is-proper}
use Rattle.fifo.proofs.Calls.{Done, effect, outcome, fresh-proper, after-proper}
use Rattle.fifo.proofs.Fair.{one-consecutive}
use Rattle.fifo.proofs.Buffer.{room-on, on-holds, on-after, started-holds}

-- ---- calls that nothing speaks against: bytes enough for a queue, and a minute of the calendar

abbrev Sound : ℕ → Use → Type 0
Sound least (tick_in minute size) = (least ≤ size) × (minute ≤ last_minute)
Sound least (pop_in size) = least ≤ size

abbrev AllSound : ℕ → List Use → Type 0
AllSound least [] = Unit {0}
AllSound least (u ∷ us) = Sound least u × AllSound least us

-- ---- the buffer between calls

-- a line of entries stands at the front of a buffer of n bytes
record Stands (jobs : Jobs) (n : ℕ) (buffer : List ℕ) : Type 0 where
  queue : Queue
  entries : proper jobs.count queue ≡ true
  held : Holds queue buffer
  long : length buffer ≡ n

module _ (jobs : Jobs) (h : jobs.count < limit) (n : ℕ) where
  -- a call that isn't refused had room enough
  done-roomy : (l : Queue) (c : Call) → Done jobs l c → roomy jobs.count (room_of c) ≡ true
  unfolding is_refused expected room_of number_of
  done-roomy l (tick minute room) d = go (roomy jobs.count room) d.why
    where
      go : (b : Bool) → refusal jobs (tick minute room) ≡ cond b (cond (leb minute last_minute) 0 (number_of NotOnCalendar)) (number_of NotAQueue) → b ≡ true
      go true e = refl
      go false e = absurd (true≢false (rw e at d.was))
  done-roomy l (pop room) d = go (roomy jobs.count room) d.why
    where
      go : (b : Bool) → refusal jobs (pop room) ≡ cond b 0 (number_of NotAQueue) → b ≡ true
      go true e = refl
      go false e = absurd (true≢false (rw e at d.was))

  module _ (buffer : List ℕ) (u : Use) (s : Stands jobs n buffer) where
    c : Call
    c = call_on buffer u

    seen : roomy jobs.count (room_of c) ≡ true → Holds s.queue (room_of c)
    unfolding c
    seen = on-holds jobs h buffer s.queue u s.entries s.held

    room-length : length (room_after jobs c) ≡ length (room_of c)
    unfolding roomy
    room-length = elim (outcome jobs h s.queue s.entries c seen) [ inl w ↦ ap length w.room | inr d ↦ done d ]
      where
        done : Done jobs s.queue c → length (room_after jobs c) ≡ length (room_of c)
        done d =
            let k : queue_size jobs.count ≤ length (room_of c) = leb-true _ _ (done-roomy s.queue c d) in
            let few = entries-length jobs.count (effect jobs s.queue c).waiting (is-proper jobs.count (effect jobs s.queue c) d.leaves).1 in
            ap length d.room ∙ length-laid (effect jobs s.queue c) (room_of c) (omega arith)

    after-waits : Stands jobs n (buffer_after jobs buffer u)
    unfolding buffer_after c
    after-waits =
        record {
          queue = queue_after jobs s.queue (call_on buffer u);
          entries = after-proper jobs h s.queue (call_on buffer u) s.entries seen;
          held = on-after jobs h buffer s.queue u s.entries s.held;
          long =
              length-append (room_after jobs (call_on buffer u)) (drop (lent u) buffer)
              ∙ omega (arith, room-length, ap length (room-on buffer u), length-take (lent u) buffer, length-drop (lent u) buffer, s.long);
        }

    -- what nothing speaks against isn't refused
    taken : expected jobs c ≡ 0 → is_refused jobs c ≡ false
    unfolding is_refused
    taken e =
        let why : refusal jobs c ≡ 0 = elim (outcome jobs h s.queue s.entries c seen) [ inl w ↦ w.why ∙ e | inr d ↦ d.why ∙ e ] in
        rw why

  end-waits : (us : List Use) (buffer : List ℕ) → Stands jobs n buffer → Stands jobs n (buffer_after_all jobs buffer us)
  unfolding buffer_after_all
  end-waits [] buffer s = s
  end-waits (u ∷ us) buffer s = end-waits us (buffer_after jobs buffer u) (after-waits buffer u s)

  -- ---- the list

  module _ (room : queue_size jobs.count ≤ n) where
    part-roomy : (size : ℕ) (buffer : List ℕ) → queue_size jobs.count ≤ size → Stands jobs n buffer → roomy jobs.count (take size buffer) ≡ true
    unfolding roomy
    part-roomy size buffer large s = le-leb (queue_size jobs.count) (length (take size buffer)) (omega (arith, length-take size buffer, s.long))

    one-taken : (u : Use) (buffer : List ℕ) → Sound (queue_size jobs.count) u → Stands jobs n buffer → is_refused jobs (call_on buffer u) ≡ false
    unfolding expected call_on c
    one-taken (tick_in m size) buffer k s = taken buffer (tick_in m size) s (rw (part-roomy size buffer k.0 s, le-leb m (last_minute) k.1))
    one-taken (pop_in size) buffer k s = taken buffer (pop_in size) s (rw (part-roomy size buffer k s))

    all-taken : (us : List Use) (buffer : List ℕ) → AllSound (queue_size jobs.count) us → Stands jobs n buffer
        → unrefused jobs (calls_on jobs buffer us) ≡ calls_on jobs buffer us
    unfolding calls_on unrefused
    all-taken [] buffer k s = refl
    all-taken (u ∷ us) buffer k s = rw (one-taken u buffer k.0 s, all-taken us (buffer_after jobs buffer u) k.1 (after-waits buffer u s))

module _ (size k : ℕ) where
  every-sound : (least n m since : ℕ) → least ≤ size → m + n ≤ last_minute + 1 → AllSound least (steady_every size k m n since)
  unfolding steady_every
  every-sound least zero m since h b = tt
  every-sound least (suc n) m since h b =
      let later = cond (leb k (since + 1)) 0 (since + 1) in
      ((h, omega arith), go (leb k (since + 1)) (steady_every size k (m + 1) n later) (every-sound least n (m + 1) later h (omega arith)))
    where
      go : (full : Bool) (us : List Use) → AllSound least us → AllSound least (cond full (pop_in size ∷ []) [] ++ us)
      go true us rest = (h, rest)
      go false us rest = rest

  every-consecutive : (jobs : Jobs) (n m since : ℕ) (buffer : List ℕ) → since < k → ConsecutiveTicksEvery k m n since (calls_on jobs buffer (steady_every size k m n since))
  unfolding steady_every calls_on call_on
  every-consecutive jobs zero m since buffer h = (refl, h)
  every-consecutive jobs (suc n) m since buffer h =
      (h, refl, go (leb k (since + 1)) refl (buffer_after jobs buffer (tick_in m size)) (λ s b. every-consecutive jobs n (m + 1) s b))
    where
      go : (full : Bool) → leb k (since + 1) ≡ full → (buffer : List ℕ)
          → ((s : ℕ) (b : List ℕ) → s < k → ConsecutiveTicksEvery k (m + 1) n s (calls_on jobs b (steady_every size k (m + 1) n s)))
          → ConsecutiveTicksEvery k (m + 1) n (since + 1)
          (calls_on jobs buffer (cond full (pop_in size ∷ []) [] ++ steady_every size k (m + 1) n (cond full 0 (since + 1))))
      go true q buffer later = later 0 (buffer_after jobs buffer (pop_in size)) (omega arith)
      go false q buffer later = later (since + 1) buffer (leb-false k (since + 1) q)

-- a request after each announcement
steady-one : (size n m : ℕ) → steady_every size 1 m n 0 ≡ steady size m n
unfolding steady steady_every
steady-one size zero m = refl
steady-one size (suc n) m = rw (steady-one size n (m + 1))

-- the buffer as it starts
module _ (jobs : Jobs) (h : jobs.count < limit) (size : ℕ) (buffer : List ℕ) (r : roomy jobs.count (take size buffer) ≡ true) where
  abbrev begun : List ℕ
  begun = started jobs size buffer

  at_first : Stands jobs (length begun) begun
  at_first = record { queue = fresh jobs; entries = fresh-proper jobs; held = started-holds jobs h size buffer r; long = refl }

  enough : queue_size jobs.count ≤ length (take size buffer)
  unfolding roomy
  enough = leb-true _ _ r

  begun-long : queue_size jobs.count ≤ length begun
  unfolding started init_step
  begun-long =
      let few = entries-length jobs.count (fresh jobs).waiting (is-proper jobs.count (fresh jobs) (fresh-proper jobs)).1 in
      let same = length-laid (fresh jobs) (take size buffer) (omega (arith, enough)) in
      rw r (omega (arith, enough, same, length-append (stored (fresh jobs) (take size buffer)) (drop size buffer)))

  pub every-from : (k t n : ℕ) (first : List Use) → t + n ≤ last_minute → 0 < k
      → let calls = calls_on jobs (buffer_after_all jobs begun first) (steady_every size k (t + 1) n 0) in
      (unrefused jobs calls ≡ calls) × ConsecutiveTicksEvery k (t + 1) n 0 calls
  every-from k t n first b some = (
    all-taken jobs h (length begun) begun-long (steady_every size k (t + 1) n 0) (buffer_after_all jobs begun first)
        (every-sound size k (queue_size jobs.count) n (t + 1) 0 (omega (arith, enough, length-take size buffer)) (omega arith))
        (end-waits jobs h (length begun) first begun at_first),
    every-consecutive size k jobs n (t + 1) 0 (buffer_after_all jobs begun first) some,
  )

  pub steady-from : (t n : ℕ) (first : List Use) → t + n ≤ last_minute
      → let calls = calls_on jobs (buffer_after_all jobs begun first) (steady size (t + 1) n) in
      (unrefused jobs calls ≡ calls) × ConsecutiveTicks (t + 1) n true calls
  steady-from t n first b =
      let (taken, consecutive) = rw (steady-one size n (t + 1)) at (every-from 1 t n first b (omega arith)) in
      (taken, one-consecutive (calls_on jobs (buffer_after_all jobs begun first) (steady size (t + 1) n)) (t + 1) n true consecutive)
