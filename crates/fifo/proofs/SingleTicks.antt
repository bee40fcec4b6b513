-- Announcements one by one, on a line that is emptied before each: a minute lets just those entries join that it matches.
-- Assumes nothing.
use mathlib.Core.Path.{◌≡◌, refl, sym, ap, ◌∙◌}
use mathlib.Core.Bool.{Bool, true, false, not, ◌&&◌, true≢false, and-true}
use mathlib.Core.List.{List, []}
use Prim.Native.Nat.{ℕ, ◌+◌, ◌≤◌, ◌<◌}
use native.Mathlib.Omega.{arith}
use lib.Dec.{ltb}
use borrow.Author.Tests.{le-leb}
use Rattle.std.specs.Prelude.{Option, Some, None}
use Rattle.calendar.specs.Dates.{last_minute}
use Rattle.schedule.specs.Jumps.{case_of, judged, mark_after}
use Rattle.fifo.specs.Queues.{Queue, is_waiting, entries_of, proper}
use Rattle.fifo.specs.Layout.{limit, queue_of, stored, roomy, is_queue}
use Rattle.fifo.specs.Steps.{Jobs, fresh, init_step, calls, joins, joiners, ticked, tick_step}
use Rattle.fifo.proofs.WaitingEntries.{waits-pick}
use Rattle.fifo.proofs.Queues.{queue_of-laid, is_queue-laid, small-queue, is-queue, make-proper}
use Rattle.fifo.proofs.Calls.{fresh-proper, ticked-proper}
use Rattle.fifo.proofs.MarkCatchesUp.{follows-calls, after_next, after_none}

-- ---- the mark

-- none, or the minute before
abbrev pub Before : Option ℕ → ℕ → Type 0
Before None m = Unit {0}
Before (Some x) m = m ≡ x + 1

pub before-next : (mark : Option ℕ) (m : ℕ) → Before mark m → mark_after mark m ≡ Some m
before-next None m h = after_none m
before-next (Some x) m h = after_next x m (omega arith) (omega arith)

before-calls : (jobs : Jobs) (mark : Option ℕ) (m e : ℕ) → Before mark m → calls jobs mark m e ≡ jobs.matches e m
unfolding calls judged case_of
before-calls jobs None m e h = refl
before-calls jobs (Some x) m e h = follows-calls jobs x m e h

-- ---- a fresh line

-- it has no mark, and is in its room
pub fresh-queue : (jobs : Jobs) → jobs.count < limit → (room : List ℕ) → roomy jobs.count room ≡ true
    → (is_queue jobs.count (init_step jobs room).room ≡ true) × ((queue_of (init_step jobs room).room).mark ≡ None)
unfolding init_step fresh
fresh-queue jobs few room enough =
    rw (enough, init_step) (
      is_queue-laid jobs.count (fresh jobs) room few (fresh-proper jobs) enough,
      ap (λ (l : Queue). l.mark) (queue_of-laid jobs.count (fresh jobs) room few (fresh-proper jobs)),
    )

-- ---- a line without its entries

abbrev pub without : Queue → Queue
without l = record { mark = l.mark; waiting = [] }

-- entry e is time-based, and the minute matches it
unfoldable pub is_called : Jobs → ℕ → ℕ → Bool
is_called jobs m e = ltb e jobs.count && (not (jobs.boot e) && jobs.matches e m)

-- it joins just then
joins-alone : (jobs : Jobs) (l : Queue) (m e : ℕ) → Before l.mark m → is_waiting e (ticked jobs m (without l)).waiting ≡ is_called jobs m e
unfolding ticked joiners joins is_called is_waiting
joins-alone jobs l m e h =
    waits-pick (λ x. joins jobs m (without l) x) jobs.count e
    ∙ rw (before-calls jobs l.mark m e h, and-true (not (jobs.boot e) && jobs.matches e m))

-- ---- in its room

module _ (n : ℕ) (few : n < limit) (room : List ℕ) (queue : is_queue n room ≡ true) where
  has_room : roomy n room ≡ true
  has_room = go (roomy n room) refl
    where
      go : (b : Bool) → roomy n room ≡ b → b ≡ true
      go true e = refl
      go false e = absurd (true≢false (sym queue ∙ small-queue n room e))

  empty-proper : proper n (without (queue_of room)) ≡ true
  unfolding entries_of queue_of
  empty-proper = make-proper n (without (queue_of room)) (is-queue n room queue).0 refl

  pub emptied-queue : queue_of (stored (without (queue_of room)) room) ≡ without (queue_of room)
  emptied-queue = queue_of-laid n (without (queue_of room)) room few empty-proper

  pub emptied-is : is_queue n (stored (without (queue_of room)) room) ≡ true
  emptied-is = is_queue-laid n (without (queue_of room)) room few empty-proper has_room

tick-room : (jobs : Jobs) (m : ℕ) (room : List ℕ) (l : Queue) → is_queue jobs.count room ≡ true → m ≤ last_minute → queue_of room ≡ l
    → (tick_step jobs m room).room ≡ stored (ticked jobs m l) room
unfolding tick_step
tick-room jobs m room l is on e = rw (is, le-leb m last_minute on, e, tick_step)

module _ (jobs : Jobs) (few : jobs.count < limit) (m : ℕ) (on : m ≤ last_minute) (room : List ℕ) (queue : is_queue jobs.count room ≡ true) where
  abbrev alone : List ℕ
  alone = stored (without (queue_of room)) room

  abbrev after : List ℕ
  after = (tick_step jobs m alone).room

  next-proper : proper jobs.count (ticked jobs m (without (queue_of room))) ≡ true
  next-proper = ticked-proper jobs (without (queue_of room)) m on (empty-proper jobs.count few room queue)

  after-laid : after ≡ stored (ticked jobs m (without (queue_of room))) alone
  after-laid = tick-room jobs m alone (without (queue_of room)) (emptied-is jobs.count few room queue) on (emptied-queue jobs.count few room queue)

  -- what it leaves is a line again, with the mark that follows, and entry e stands there just if it is called
  pub announced-is : is_queue jobs.count after ≡ true
  announced-is =
      rw after-laid
      (is_queue-laid jobs.count (ticked jobs m (without (queue_of room))) alone few next-proper
      (has_room jobs.count few alone (emptied-is jobs.count few room queue)))

  pub announced-queue : queue_of after ≡ ticked jobs m (without (queue_of room))
  announced-queue = rw after-laid (queue_of-laid jobs.count (ticked jobs m (without (queue_of room))) alone few next-proper)

  module _ (before : Before (queue_of room).mark m) where
    pub announced-mark : (queue_of after).mark ≡ Some m
    unfolding ticked
    announced-mark = ap (λ (l : Queue). l.mark) announced-queue ∙ before-next (queue_of room).mark m before

    pub announced-waits : (e : ℕ) → is_waiting e (queue_of after).waiting ≡ is_called jobs m e
    announced-waits e = ap (λ (l : Queue). is_waiting e l.waiting) announced-queue ∙ joins-alone jobs (queue_of room) m e before
