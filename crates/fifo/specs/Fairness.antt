-- Demand 3 for any jobs: the words of its claim about whole lists of calls (D2, D3), and the claim (D1). docs/PROMISES.md puts the demand's
-- own words beside it. That it holds is proved in proofs/Theorems.
-- Assumes nothing.
use Rattle.std.specs.Prelude.{◌≡◌, ◌⊎◌, ℕ, zero, suc, ◌+◌, ◌-◌, ◌<◌, Bool, true, false, not, cond, List, [], ◌∷◌, ◌++◌, eqb, Option, Some, Ok}
use Rattle.schedule.specs.Jumps.{mark_after}
use Rattle.fifo.specs.Queues.{Queue, proper}
use Rattle.fifo.specs.Layout.{limit, queue_of, stored, roomy}
use Rattle.fifo.specs.Refusals.{tick_refusal, pop_refusal}
use Rattle.fifo.specs.Steps.{Jobs, fresh, calls, tick_step, pop_step}

-- ---- calls

-- D2: an announcement of a minute, or a request, each with the buffer that it is lent
pub data Call : Type 0 where
  tick : ℕ → List ℕ → Call
  pop : List ℕ → Call

-- D2: that buffer
unfoldable pub room_of : Call → List ℕ
room_of (tick minute room) = room
room_of (pop room) = room

-- D2: the buffer after the call
unfoldable pub room_after : Jobs → Call → List ℕ
room_after jobs (tick minute room) = (tick_step jobs minute room).room
room_after jobs (pop room) = (pop_step jobs.count room).room

-- D2: the number of its refusal, 0 if it isn't refused
unfoldable pub refusal : Jobs → Call → ℕ
refusal jobs (tick minute room) = tick_refusal (tick_step jobs minute room).answer
refusal jobs (pop room) = pop_refusal (pop_step jobs.count room).answer

-- D2: whether it is refused
unfoldable pub is_refused : Jobs → Call → Bool
is_refused jobs c = not (eqb (refusal jobs c) 0)

-- D2: a list without its refused calls, by what they really answer
unfoldable pub unrefused : Jobs → List Call → List Call
unrefused jobs [] = []
unrefused jobs (c ∷ cs) = let rest = unrefused jobs cs in cond (is_refused jobs c) rest (c ∷ rest)

-- ---- each call gets the queue that the last one left

-- D2: the queue after a call; a refused call leaves it
unfoldable pub queue_after : Jobs → Queue → Call → Queue
queue_after jobs l c = cond (is_refused jobs c) l (queue_of (room_after jobs c))

-- D2: the buffer holds the queue l, and any bytes after it: to write l there would change nothing
abbrev pub Holds : Queue → List ℕ → Type 0
Holds l room = stored l room ≡ room

-- D2: a list of calls that goes on from the queue l. Each buffer that is long enough holds the queue that the last unrefused call left. One
-- that is too short may hold anything.
abbrev pub Follows : Jobs → Queue → List Call → Type 0
Follows jobs l [] = Unit {0}
Follows jobs l (c ∷ cs) = (roomy jobs.count (room_of c) ≡ true → Holds l (room_of c)) × Follows jobs (queue_after jobs l c) cs

-- ---- the second list

-- D3: the minutes m, m + 1 and on are announced, n of them, one by one and no other, and after each, before the next, come one or more
-- requests. `asked` says whether a request came since the last announcement: with `true` at the start, requests may come before the first
-- announcement, but needn't.
abbrev pub ConsecutiveTicks : ℕ → ℕ → Bool → List Call → Type 0
ConsecutiveTicks m n asked [] = (n ≡ 0) × (asked ≡ true)
ConsecutiveTicks m n asked (pop room ∷ cs) = ConsecutiveTicks m n true cs
ConsecutiveTicks m zero asked (tick minute room ∷ cs) = ⊥
ConsecutiveTicks m (suc n) asked (tick minute room ∷ cs) = (asked ≡ true) × (minute ≡ m) × ConsecutiveTicks (m + 1) n false cs

-- D1: the calls up to the first request after the n-th announcement
abbrev pub up_to : ℕ → List Call → List Call
up_to n [] = []
up_to zero (tick minute room ∷ cs) = tick minute room ∷ up_to zero cs
up_to zero (pop room ∷ cs) = pop room ∷ []
up_to (suc n) (tick minute room ∷ cs) = tick minute room ∷ up_to n cs
up_to (suc n) (pop room ∷ cs) = pop room ∷ up_to (suc n) cs

-- D1: a request among the calls names entry e
abbrev pub Names : Jobs → ℕ → List Call → Type 0
Names jobs e [] = ⊥
Names jobs e (tick minute room ∷ cs) = Names jobs e cs
Names jobs e (pop room ∷ cs) = ((pop_step jobs.count room).answer ≡ Ok (Some e)) ⊎ Names jobs e cs

-- ---- the claim

-- Q4, Q5, Q6: the mark after n minutes from m on, announced one by one
abbrev pub marks : Option ℕ → ℕ → ℕ → Option ℕ
marks mark m zero = mark
marks mark m (suc n) = marks (mark_after mark m) (m + 1) n

-- D4: whatever the mark, one of the `gap` minutes after t calls the entry, when they are announced one by one. That it is so is shown where
-- the schedule is known.
unfoldable pub CalledWithin : Jobs → ℕ → ℕ → ℕ → Type 0
CalledWithin jobs gap e t = (mark : Option ℕ) → (j : ℕ) × (j < gap) × (calls jobs (marks mark (t + 1) j) (t + 1 + j) e ≡ true)

-- D4: how many minutes the second list announces
abbrev pub bound : Jobs → ℕ → ℕ
bound jobs gap = gap + jobs.count - 1

-- D7: from any queue of the jobs. That the minutes are on the calendar needn't be said: an announcement of one that isn't is refused.
abbrev pub FairFrom : Type 0
FairFrom = (jobs : Jobs) (gap e t : ℕ) (l : Queue) (second : List Call)
    → jobs.count < limit
    → e < jobs.count → jobs.boot e ≡ false → CalledWithin jobs gap e t
    → proper jobs.count l ≡ true
    → Follows jobs l second
    → ConsecutiveTicks (t + 1) (bound jobs gap) true (unrefused jobs second)
    → Names jobs e (up_to (bound jobs gap) (unrefused jobs second))

-- D1: from the fresh queue, through any first list
abbrev pub Fair : Type 0
Fair = (jobs : Jobs) (gap e t : ℕ) (first second : List Call)
    → jobs.count < limit
    → e < jobs.count → jobs.boot e ≡ false → CalledWithin jobs gap e t
    → Follows jobs (fresh jobs) (first ++ second)
    → ConsecutiveTicks (t + 1) (bound jobs gap) true (unrefused jobs second)
    → Names jobs e (up_to (bound jobs gap) (unrefused jobs second))
