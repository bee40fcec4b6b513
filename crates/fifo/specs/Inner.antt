-- The small steps that a fresh queue, an announcement and a request are made of: a number stored, one entry more, the entries that are called.
-- Only the contracts of the functions that take them cite these; what a reader must believe is in Steps.
-- Assumes nothing.
use Rattle.std.specs.Prelude.{◌≡◌, ℕ, suc, ◌+◌, ◌*◌, ◌/◌, ◌%◌, ◌≤◌, ◌<◌, not, cond, ◌&&◌, List, [], ◌∷◌, ◌++◌, leb, length, set, Option, None, Result, Ok, Err}
use Rattle.refusal.specs.declared.Refusal.{Refusal}
use Rattle.octets.specs.BitSets.{has_member}
use Rattle.calendar.specs.Dates.{last_minute}
use Rattle.calendar.specs.Refusals.{not_on_calendar}
use Rattle.schedule.specs.Jumps.{mark_after}
use Rattle.fifo.specs.Queues.{Queue, is_waiting, pick}
use Rattle.fifo.specs.Layout.{limit, queue_of, stored, queue_size, roomy, is_queue}
use Rattle.fifo.specs.Refusals.{not_a_queue}
use Rattle.fifo.specs.Steps.{Step}

-- the bytes with the number x at place i
unfoldable pub with_number : ℕ → ℕ → List ℕ → List ℕ
with_number i x s = set (set s (2 * i) (x % 256)) (2 * i + 1) (x / 256 % 256)

-- the buffer holds its queue, has room for one entry more, and the count can grow
abbrev pub CanPush : List ℕ → Type 0
CanPush buffer =
    (stored (queue_of buffer) buffer ≡ buffer)
    × (queue_size (suc (length (queue_of buffer).waiting)) ≤ length buffer)
    × (suc (length (queue_of buffer).waiting) < limit)

-- an entry more at the back
unfoldable pub pushed : ℕ → Queue → Queue
pushed e l = record { mark = l.mark; waiting = l.waiting ++ e ∷ [] }

-- ---- which entries are called, by a bit set in words of 64 bits

-- a bit set has just the waiting entries
abbrev pub WaitingBits : List ℕ → List ℕ → Type 0
WaitingBits seen l = (e : ℕ) → has_member seen e ≡ is_waiting e l

-- those of n entries that are called and don't wait, in file order
unfoldable pub callees : ℕ → List ℕ → List ℕ → List ℕ
callees n called l = pick (λ e. has_member called e && not (is_waiting e l)) n

-- a fresh line of them, and an announcement that calls them
unfoldable pub init_called : ℕ → List ℕ → List ℕ → Step (Result ℕ Refusal)
init_called n called room =
    cond (roomy n room)
    (record { answer = Ok (length (callees n called [])); room = stored (record { mark = None; waiting = callees n called [] }) room })
    (record { answer = Err not_a_queue; room = room })

unfoldable pub joined : ℕ → List ℕ → Option ℕ → Queue → Queue
joined n called mark l = record { mark = mark; waiting = l.waiting ++ callees n called l.waiting }

unfoldable pub tick_called : ℕ → List ℕ → ℕ → List ℕ → Step (Result ℕ Refusal)
tick_called n called minute room =
    let l = queue_of room in
    cond (is_queue n room)
    (cond (leb minute last_minute)
    (record { answer = Ok (length (callees n called l.waiting)); room = stored (joined n called (mark_after l.mark minute) l) room })
    (record { answer = Err not_on_calendar; room = room }))
    (record { answer = Err not_a_queue; room = room })
