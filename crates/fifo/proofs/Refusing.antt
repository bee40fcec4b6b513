-- What the calls answer, an equation for each way that an answer can go, for any jobs, numbers and rooms: a refused call leaves the room as it was.
-- Assumes nothing.
use mathlib.Core.Path.{◌≡◌}
use mathlib.Core.Bool.{true, false}
use mathlib.Core.List.{List}
use Prim.Native.Nat.{ℕ, ◌≤◌, ◌<◌}
use lib.ListN.{length}
use borrow.Author.Tests.{le-leb, lt-leb}
use Rattle.refusal.specs.declared.Refusal.TheVariants.{NotOnCalendar, NotAQueue}
use Rattle.octets.specs.Passing.{passing}
use Rattle.calendar.specs.Dates.{last_minute}
use Rattle.std.specs.Prelude.{Ok, Err}
use Rattle.fifo.specs.Layout.{queue_of, roomy, is_queue}
use Rattle.fifo.specs.Steps.{Jobs, fresh, init_step, joins, joiners, tick_step, pop_step, standing, entry_step}
use Rattle.fifo.proofs.QueueChanges.{in-file-order}

-- ---- no queue is R28, before R14

pub no-queue : (n : ℕ) (room : List ℕ) → is_queue n room ≡ false
    → (pop_step n room ≡ record { answer = Err NotAQueue; room = room }) × ((place : ℕ) → entry_step n place room ≡ Err NotAQueue)
unfolding pop_step entry_step
no-queue n room none = (rw none, (λ place. rw none))

-- a look at a queue
pub look-says : (n place : ℕ) (room : List ℕ) → is_queue n room ≡ true → entry_step n place room ≡ Ok (standing place (queue_of room).waiting)
unfolding entry_step
look-says n place room queue = rw queue

module _ (jobs : Jobs) (room : List ℕ) where
  pub no-queue-tick : is_queue jobs.count room ≡ false → (m : ℕ) → tick_step jobs m room ≡ record { answer = Err NotAQueue; room = room }
  unfolding tick_step
  no-queue-tick none m = rw none

  pub off-tick : is_queue jobs.count room ≡ true → (m : ℕ) → last_minute < m → tick_step jobs m room ≡ record { answer = Err NotOnCalendar; room = room }
  unfolding tick_step
  off-tick queue m off = rw (queue, lt-leb m last_minute off)

  -- how many joined
  pub tick-says : is_queue jobs.count room ≡ true → (m : ℕ) → m ≤ last_minute
      → (tick_step jobs m room).answer ≡ Ok (length (passing (joins jobs m (queue_of room)) jobs.count 0))
  unfolding tick_step joiners
  tick-says queue m on = rw (queue, le-leb m last_minute on, in-file-order (joins jobs m (queue_of room)) jobs.count)

  -- a fresh queue: too small a room, or how many boot jobs there are
  pub init-short : roomy jobs.count room ≡ false → init_step jobs room ≡ record { answer = Err NotAQueue; room = room }
  unfolding init_step
  init-short short = rw short

  pub init-says : roomy jobs.count room ≡ true → (init_step jobs room).answer ≡ Ok (length (passing jobs.boot jobs.count 0))
  unfolding init_step fresh
  init-says enough = rw (enough, in-file-order jobs.boot jobs.count)
