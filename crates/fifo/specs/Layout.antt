-- A queue in the bytes of a buffer (Q11, Q12): numbers of 16 bits, the low byte first. They are the format number and the mark, two places
-- each, the count, and the waiting entries. The bytes after them stay. A buffer in which no queue was made, of zeros or other bytes, lacks
-- the format number.
-- Assumes nothing.
use Rattle.std.specs.Prelude.{ℕ, zero, suc, ◌+◌, ◌*◌, ◌/◌, ◌%◌, Bool, ◌&&◌, List, [], ◌∷◌, leb, eqb, length, get_or, take, drop, Option, Some, None}
use Rattle.octets.specs.OverFront as front
use Rattle.schedule.specs.Jumps.{is_mark}
use Rattle.fifo.specs.Queues.{Queue, entries_of}

-- ---- numbers in bytes

-- Q11: 16 bits hold what is below this
abbrev pub limit : ℕ
limit = 65536

-- Q11: the numbers that bytes hold, two bytes each; an odd byte at the end is part of none
unfoldable pub numbers : List ℕ → List ℕ
numbers [] = []
numbers (a ∷ []) = []
numbers (a ∷ b ∷ s) = (a + 256 * b) ∷ numbers s

-- Q11: the bytes of numbers
unfoldable pub bytes : List ℕ → List ℕ
bytes [] = []
bytes (x ∷ l) = x % 256 ∷ x / 256 % 256 ∷ bytes l

-- Q11: the number of 32 bits at a place and the next, the low half first
unfoldable pub number32 : List ℕ → ℕ → ℕ
number32 ns i = get_or ns i 0 + limit * get_or ns (i + 1) 0

-- ---- a queue as numbers

-- Q11: the bytes of `ERQ1`
abbrev pub format_number : ℕ
format_number = 827413061

-- Q11: no mark is 0, and a minute one more than itself
abbrev pub mark_number : Option ℕ → ℕ
mark_number None = 0
mark_number (Some h) = h + 1

-- Q11: the mark of a number
abbrev pub mark_from : ℕ → Option ℕ
mark_from zero = None
mark_from (suc h) = Some h

-- Q11: a queue as numbers
unfoldable pub layout : Queue → List ℕ
layout l =
    format_number % limit ∷ format_number / limit ∷ mark_number l.mark % limit ∷ mark_number l.mark / limit ∷ length l.waiting ∷ l.waiting

-- ---- read from a buffer

-- Q11: the format number of a buffer
unfoldable pub format_of : List ℕ → ℕ
format_of buffer = number32 (numbers buffer) 0

-- Q11: its mark
unfoldable pub mark_of : List ℕ → Option ℕ
mark_of buffer = mark_from (number32 (numbers buffer) 2)

-- Q11: its count
unfoldable pub count_of : List ℕ → ℕ
count_of buffer = get_or (numbers buffer) 4 0

-- Q11: its queue; as many entries as the count says, if there are so many
unfoldable pub queue_of : List ℕ → Queue
queue_of buffer = record { mark = mark_of buffer; waiting = take (count_of buffer) (drop 5 (numbers buffer)) }

-- ---- written to a buffer

-- Q11: a queue as bytes
unfoldable pub image : Queue → List ℕ
image l = bytes (layout l)

-- Q11: the buffer with a queue written over its front
unfoldable pub stored : Queue → List ℕ → List ℕ
stored l buffer = front.over_front (image l) buffer

-- Q12: the bytes that a queue of n entries takes
abbrev pub queue_size : ℕ → ℕ
queue_size n = 10 + 2 * n

-- Q12: whether a buffer has bytes for all n entries
unfoldable pub roomy : ℕ → List ℕ → Bool
roomy n buffer = leb (queue_size n) (length buffer)

-- Q12: the buffer starts as a queue does, and its mark is on the calendar
unfoldable pub is_head : List ℕ → Bool
is_head buffer = eqb (format_of buffer) format_number && is_mark (mark_of buffer)

-- Q12: the buffer holds a queue of a table of n entries. One with a count above n doesn't, though it may have as many numbers.
unfoldable pub is_queue : ℕ → List ℕ → Bool
is_queue n buffer = roomy n buffer && is_head buffer && leb (count_of buffer) n && entries_of n (queue_of buffer).waiting
