-- What a fresh queue (Q2), an announcement (Q3), a request (Q9) and a look (Q10) do to the buffer that a call is lent, for any jobs; what a
-- table says of its entries is left to runqueue. A refused call leaves the buffer as it was (R40). R28 comes before R14 (R36).
-- Assumes nothing.
use Rattle.std.specs.Prelude.{ℕ, Bool, not, cond, ◌&&◌, List, [], ◌∷◌, ◌++◌, leb, length, drop, Option, None, Some, None as Nothing, Result, Ok, Err}
use Rattle.refusal.specs.declared.Refusal.{Refusal}
use Rattle.calendar.specs.Dates.{last_minute}
use Rattle.calendar.specs.Refusals.{not_on_calendar}
use Rattle.schedule.specs.Jumps.{case_of, judged, mark_after}
use Rattle.fifo.specs.Queues.{Queue, is_waiting, pick}
use Rattle.fifo.specs.Layout.{queue_of, stored, roomy, is_queue}
use Rattle.fifo.specs.Refusals.{not_a_queue}

-- Q3, M6: what is known of a table's entries, numbered from 0 in file order
pub record Jobs : Type 0 where
  -- how many there are
  pub count : ℕ
  -- whether an entry is a boot entry; the others are timed
  pub boot : ℕ → Bool
  -- whether an entry is fixed (M6)
  pub fixed : ℕ → Bool
  -- whether an entry matches a minute
  pub matches : ℕ → ℕ → Bool

-- R40: what a call answers, and the buffer after it
pub record Step (A : Type 0) : Type 0 where
  pub answer : A
  pub room : List ℕ

-- ---- a fresh queue

-- Q2: the boot entries, in file order, and no mark
unfoldable pub fresh : Jobs → Queue
fresh jobs = record { mark = None; waiting = pick jobs.boot jobs.count }

-- Q2, R28: whatever the buffer held; the answer is how many wait
unfoldable pub init_step : Jobs → List ℕ → Step (Result ℕ Refusal)
init_step jobs room =
    cond (roomy jobs.count room)
    (record { answer = Ok (length (fresh jobs).waiting); room = stored (fresh jobs) room })
    (record { answer = Err not_a_queue; room = room })

-- ---- an announcement

-- Q3, Q4, Q5, Q6, Q7: whether a minute calls an entry, beside the mark
unfoldable pub calls : Jobs → Option ℕ → ℕ → ℕ → Bool
calls jobs mark minute e = judged (case_of mark minute) (jobs.fixed e) (jobs.matches e) minute

-- Q3: a timed entry that is called and doesn't wait
unfoldable pub joins : Jobs → ℕ → Queue → ℕ → Bool
joins jobs minute l e = not (jobs.boot e) && calls jobs l.mark minute e && not (is_waiting e l.waiting)

-- Q3: those that join, in file order
unfoldable pub joiners : Jobs → ℕ → Queue → List ℕ
joiners jobs minute l = pick (joins jobs minute l) jobs.count

-- Q3, Q8: they join at the back, and the mark moves
unfoldable pub ticked : Jobs → ℕ → Queue → Queue
ticked jobs minute l = record { mark = mark_after l.mark minute; waiting = l.waiting ++ joiners jobs minute l }

-- Q3, Q14, R28, R14: the answer is how many joined
unfoldable pub tick_step : Jobs → ℕ → List ℕ → Step (Result ℕ Refusal)
tick_step jobs minute room =
    cond (is_queue jobs.count room)
    (cond (leb minute last_minute)
    (record { answer = Ok (length (joiners jobs minute (queue_of room))); room = stored (ticked jobs minute (queue_of room)) room })
    (record { answer = Err not_on_calendar; room = room }))
    (record { answer = Err not_a_queue; room = room })

-- ---- a request

-- Q9: the front entry, or that nothing waits
unfoldable pub front : List ℕ → Option ℕ
front [] = Nothing
front (e ∷ l) = Some e

-- Q9: the entries after the front
unfoldable pub behind : List ℕ → List ℕ
behind [] = []
behind (e ∷ l) = l

-- Q9: the queue without its front
unfoldable pub popped : Queue → Queue
popped l = record { mark = l.mark; waiting = behind l.waiting }

-- Q9, R28: the answer is the front entry
unfoldable pub pop_step : ℕ → List ℕ → Step (Result (Option ℕ) Refusal)
pop_step n room =
    cond (is_queue n room)
    (record { answer = Ok (front (queue_of room).waiting); room = stored (popped (queue_of room)) room })
    (record { answer = Err not_a_queue; room = room })

-- ---- a look, which changes nothing

-- Q10: the entry at a place, 0 the front
unfoldable pub standing : ℕ → List ℕ → Option ℕ
standing place l = front (drop place l)

-- Q10, R28: the answer is the entry at a place
unfoldable pub entry_step : ℕ → ℕ → List ℕ → Result (Option ℕ) Refusal
entry_step n place room = cond (is_queue n room) (Ok (standing place (queue_of room).waiting)) (Err not_a_queue)

-- ---- other entries

-- L4, L5: other entries wait; the mark stays
unfoldable pub refilled : List ℕ → List ℕ → List ℕ
refilled entries room = stored (record { mark = (queue_of room).mark; waiting = entries }) room
