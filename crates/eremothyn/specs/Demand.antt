-- Demand 3 (D1, D8), and how long a queued entry waits (D9, D10), over the calls that C makes: one buffer, of which each
-- `eremothyn_queue_tick` and `eremothyn_queue_pop` is lent the first bytes. What they answer and leave is what the functions promise
-- (Calls), and a call is refused if its answer is above 4,294,967,296. `ConsecutiveTicks`, `ConsecutiveTicksEvery`, `up_to` and `up_to_request` are fifo's, which
-- speak of the order of the calls alone. That the claims hold is proved in proofs/Theorems.
-- Assumes nothing.
use Rattle.std.specs.Prelude.{◌≡◌, refl, ◌⊎◌, ℕ, suc, ◌+◌, ◌-◌, ◌*◌, ◌≤◌, ◌<◌, true, cond, List, [], ◌∷◌, ◌++◌, map, leb, take, drop, get_or, replicate}
use Rattle.std.proofs.Common.{inl, inr, arith}
use Rattle.octets.specs.Texts.{text}
use Rattle.fifo.specs.Fairness.{Call, tick, pop, ConsecutiveTicks, up_to}
use Rattle.fifo.specs.FairEvery.{ConsecutiveTicksEvery, steady_every}
use Rattle.fifo.specs.Waits.{requests, up_to_request}
use Rattle.fifo.specs.Buffer.{Use, tick_in, pop_in, lent, call_on}
use Rattle.runqueue.specs.Demand.{CanFire, bound_from, OnCalendar, bound_every_from, OnCalendarEvery}
use Rattle.eremothyn.specs.Answer.{refused_from}
use Rattle.eremothyn.specs.Rules.{rules_of}
use Rattle.eremothyn.specs.Calls.{check_call, queue_init_call, queue_init_room, queue_tick_call, queue_tick_room, queue_pop_call, queue_pop_room, queue_entry_call}
use Rattle.eremothyn.specs.Computing.{answering}

-- ---- calls on one buffer

-- D2: what a call answers
unfoldable pub answer_to : List ℕ → ℕ → ℕ → Call → ℕ
answer_to table kind dialect (tick minute lent) = queue_tick_call table kind dialect lent minute
answer_to table kind dialect (pop lent) = queue_pop_call table kind dialect lent

-- D2: the bytes that it was lent, after it
unfoldable pub bytes_after : List ℕ → ℕ → ℕ → Call → List ℕ
bytes_after table kind dialect (tick minute lent) = queue_tick_room table kind dialect lent minute
bytes_after table kind dialect (pop lent) = queue_pop_room table kind dialect lent

-- D2, Q2: the buffer after `eremothyn_queue_init` with its first bytes; those that were not lent stay
unfoldable pub buffer_made : List ℕ → ℕ → ℕ → ℕ → List ℕ → List ℕ
buffer_made table kind dialect size buffer = queue_init_room table kind dialect (take size buffer) ++ drop size buffer

-- D2: the buffer after a call
unfoldable pub buffer_left : List ℕ → ℕ → ℕ → List ℕ → Use → List ℕ
buffer_left table kind dialect buffer u = bytes_after table kind dialect (call_on buffer u) ++ drop (lent u) buffer

-- D2: the buffer after some calls
unfoldable pub buffer_left_by : List ℕ → ℕ → ℕ → List ℕ → List Use → List ℕ
buffer_left_by table kind dialect buffer [] = buffer
buffer_left_by table kind dialect buffer (u ∷ us) = buffer_left_by table kind dialect (buffer_left table kind dialect buffer u) us

-- D2: the calls, each with the bytes that it is lent
unfoldable pub calls_made : List ℕ → ℕ → ℕ → List ℕ → List Use → List Call
calls_made table kind dialect buffer [] = []
calls_made table kind dialect buffer (u ∷ us) = call_on buffer u ∷ calls_made table kind dialect (buffer_left table kind dialect buffer u) us

-- D2, A5: those that aren't refused
unfoldable pub answered : List ℕ → ℕ → ℕ → List Call → List Call
answered table kind dialect [] = []
answered table kind dialect (c ∷ cs) =
    let rest = answered table kind dialect cs in cond (leb (answer_to table kind dialect c) refused_from) (c ∷ rest) rest

-- D1: a request among the calls answers e
abbrev pub Answers : List ℕ → ℕ → ℕ → ℕ → List Call → Type 0
Answers table kind dialect e [] = ⊥
Answers table kind dialect e (tick minute lent ∷ cs) = Answers table kind dialect e cs
Answers table kind dialect e (pop lent ∷ cs) = (queue_pop_call table kind dialect lent ≡ e) ⊎ Answers table kind dialect e cs

-- ---- the third demand

-- D1: a queue is made in the buffer, any calls follow, then those of `second`
abbrev pub QueueFair : Type 0
QueueFair = (table : List ℕ) (kind dialect e t size : ℕ) (buffer : List ℕ) (first second : List Use)
    → let rules = rules_of kind dialect in
    CanFire rules table e
    → queue_init_call table kind dialect (take size buffer) ≤ refused_from
    → OnCalendar rules table e t
    → let before = buffer_left_by table kind dialect (buffer_made table kind dialect size buffer) first in
    let calls = answered table kind dialect (calls_made table kind dialect before second) in
    ConsecutiveTicks (t + 1) (bound_from rules table e t) true calls → Answers table kind dialect e (up_to (bound_from rules table e t) calls)

-- D8: the same where requests are fewer
abbrev pub QueueFairEvery : Type 0
QueueFairEvery = (table : List ℕ) (kind dialect k e t size : ℕ) (buffer : List ℕ) (first second : List Use)
    → let rules = rules_of kind dialect in
    CanFire rules table e
    → queue_init_call table kind dialect (take size buffer) ≤ refused_from
    → OnCalendarEvery rules table k e t
    → let before = buffer_left_by table kind dialect (buffer_made table kind dialect size buffer) first in
    let calls = answered table kind dialect (calls_made table kind dialect before second) in
    ConsecutiveTicksEvery k (t + 1) (bound_every_from rules table k e t) 0 calls → Answers table kind dialect e (up_to (bound_every_from rules table k e t) calls)

-- D8: the same with no hypothesis about calls: each minute is announced, and a request follows each k-th
abbrev pub QueueFairSteady : Type 0
QueueFairSteady = (table : List ℕ) (kind dialect k e t size : ℕ) (buffer : List ℕ) (first : List Use)
    → let rules = rules_of kind dialect in
    CanFire rules table e
    → queue_init_call table kind dialect (take size buffer) ≤ refused_from
    → OnCalendarEvery rules table k e t
    → 0 < k
    → let before = buffer_left_by table kind dialect (buffer_made table kind dialect size buffer) first in
    let n = bound_every_from rules table k e t in
    Answers table kind dialect e (up_to n (calls_made table kind dialect before (steady_every size k (t + 1) n 0)))

-- ---- how long a queued entry waits

-- D9: `eremothyn_queue_entry` answers e for place p. Then none of the next p unrefused requests answers e, and the one after them does.
abbrev pub QueueWaitsExactly : Type 0
QueueWaitsExactly = (table : List ℕ) (kind dialect e p size : ℕ) (buffer : List ℕ) (us : List Use)
    → ((i : ℕ) → get_or buffer i 0 < 256)
    → queue_entry_call table kind dialect (take size buffer) p ≡ e
    → e < refused_from
    → let calls = answered table kind dialect (calls_made table kind dialect buffer us) in
    (Answers table kind dialect e (up_to_request p calls) → ⊥) × (p < requests calls → Answers table kind dialect e (up_to_request (suc p) calls))

-- D9: so it is named by the N-th at the latest, where N is what `eremothyn_check` answers
abbrev pub QueueWaitsAtMost : Type 0
QueueWaitsAtMost = (table : List ℕ) (kind dialect e p size : ℕ) (buffer : List ℕ) (us : List Use)
    → ((i : ℕ) → get_or buffer i 0 < 256)
    → queue_entry_call table kind dialect (take size buffer) p ≡ e
    → e < refused_from
    → let calls = answered table kind dialect (calls_made table kind dialect buffer us) in
    check_call table kind dialect ≤ requests calls → Answers table kind dialect e (up_to_request (check_call table kind dialect) calls)

-- D10: in minutes, if those after the last announcement go on one by one, with a request every k announcements
abbrev pub QueueWaitsEvery : Type 0
QueueWaitsEvery = (table : List ℕ) (kind dialect k e p m size : ℕ) (buffer : List ℕ) (us : List Use)
    → ((i : ℕ) → get_or buffer i 0 < 256)
    → queue_entry_call table kind dialect (take size buffer) p ≡ e
    → e < refused_from
    → let calls = answered table kind dialect (calls_made table kind dialect buffer us) in
    let n = k * suc p - 1 in
    ConsecutiveTicksEvery k m n 1 calls → Answers table kind dialect e (up_to n calls)

-- ---- worked: a table of three entries, in a buffer of 90 bytes

-- D2: one entry of every minute, a boot entry, and one of every hour
abbrev pub whole : List ℕ
whole = text "* * * * * a\n@reboot b\n0 * * * * c\n"

-- A minute off the calendar is refused with 14, and 15 bytes, one too few for three entries, with 28: these change nothing and don't count.
-- "Nothing waits" counts. The bytes that aren't lent stay.
calls-run :
    let made = buffer_made whole 0 0 88 (replicate 90 7) in
    let us = pop_in 88 ∷ tick_in 59 90 ∷ tick_in 4223371680 88 ∷ pop_in 15 ∷ tick_in 60 88 ∷ pop_in 16 ∷ pop_in 90 ∷ pop_in 88 ∷ [] in
    let calls = calls_made whole 0 0 made us in
    (map (answer_to whole 0 0) calls ≡ 1 ∷ 1 ∷ 4294967310 ∷ 4294967324 ∷ 1 ∷ 0 ∷ 2 ∷ 4294967296 ∷ [])
    × (map (answer_to whole 0 0) (answered whole 0 0 calls) ≡ 1 ∷ 1 ∷ 1 ∷ 0 ∷ 2 ∷ 4294967296 ∷ [])
    × (drop 16 (buffer_left_by whole 0 0 made us) ≡ replicate 74 7)
unfolding answering answer_to bytes_after buffer_made buffer_left buffer_left_by calls_made answered
calls-run = (refl, refl, refl)

-- Only a request answers an entry: 1 is what the announcement of minute 59 answers, too, and doesn't count.
answers-run : let made = buffer_made whole 0 0 88 (replicate 90 7) in
    Answers whole 0 0 1 (tick 59 made ∷ pop made ∷ [])
    × (Answers whole 0 0 1 (tick 59 made ∷ []) → ⊥)
    × (Answers whole 0 0 0 (tick 59 made ∷ pop made ∷ []) → ⊥)
unfolding answering buffer_made
answers-run = (inl refl, (λ a. a), (λ a. elim a [ inl q ↦ absurd (omega (arith, q)) | inr a ↦ a ]))
