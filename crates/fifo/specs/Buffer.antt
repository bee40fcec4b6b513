-- Demand 3 for one buffer in memory, as a C caller has it: the queue is made in it, and each call is lent its first bytes, as many as the
-- call likes. What the calls find there is then what the calls before left, by the very steps, and D2 needs no hypothesis. That the claim
-- holds is proved in proofs/Theorems.
-- Assumes nothing.
use Rattle.std.specs.Prelude.{◌≡◌, ℕ, ◌+◌, ◌<◌, true, false, List, [], ◌∷◌, ◌++◌, take, drop}
use Rattle.fifo.specs.Layout.{limit, roomy}
use Rattle.fifo.specs.Steps.{Jobs, init_step}
use Rattle.fifo.specs.Fairness.{Call, tick, pop, room_after, unrefused, ConsecutiveTicks, up_to, Names, CalledWithin, bound}

-- D2: an announcement of a minute, or a request, and how many bytes of the buffer it is lent
pub data Use : Type 0 where
  tick_in : ℕ → ℕ → Use
  pop_in : ℕ → Use

-- D2: how many bytes
unfoldable pub lent : Use → ℕ
lent (tick_in minute size) = size
lent (pop_in size) = size

-- D2: the call that it makes on a buffer
unfoldable pub call_on : List ℕ → Use → Call
call_on buffer (tick_in minute size) = tick minute (take size buffer)
call_on buffer (pop_in size) = pop (take size buffer)

-- D2, R40: the buffer after it; bytes that were not lent stay
unfoldable pub buffer_after : Jobs → List ℕ → Use → List ℕ
buffer_after jobs buffer u = room_after jobs (call_on buffer u) ++ drop (lent u) buffer

-- D2: the calls, one after the other
unfoldable pub calls_on : Jobs → List ℕ → List Use → List Call
calls_on jobs buffer [] = []
calls_on jobs buffer (u ∷ us) = call_on buffer u ∷ calls_on jobs (buffer_after jobs buffer u) us

-- D2: the buffer after all of them
unfoldable pub buffer_after_all : Jobs → List ℕ → List Use → List ℕ
buffer_after_all jobs buffer [] = buffer
buffer_after_all jobs buffer (u ∷ us) = buffer_after_all jobs (buffer_after jobs buffer u) us

-- D2, Q2: the buffer after a fresh queue is made in its first bytes
unfoldable pub started : Jobs → ℕ → List ℕ → List ℕ
started jobs size buffer = (init_step jobs (take size buffer)).room ++ drop size buffer

-- D1, D2: the claim
abbrev pub FairInBuffer : Type 0
FairInBuffer = (jobs : Jobs) (gap e t : ℕ) (size : ℕ) (buffer : List ℕ) (first second : List Use)
    → jobs.count < limit
    → e < jobs.count → jobs.boot e ≡ false → CalledWithin jobs gap e t
    → roomy jobs.count (take size buffer) ≡ true
    → let calls = unrefused jobs (calls_on jobs (buffer_after_all jobs (started jobs size buffer) first) second) in
    ConsecutiveTicks (t + 1) (bound jobs gap) true calls → Names jobs e (up_to (bound jobs gap) calls)
