-- How long a queued entry waits, counted in requests (D9): as many as there are entries before it, and one more. Announcements don't
-- matter, since those that join come after it. That the claims hold is proved in proofs/Theorems.
-- Assumes nothing.
use Rattle.std.specs.Prelude.{◌≡◌, ℕ, zero, suc, ◌-◌, ◌*◌, ◌≤◌, ◌<◌, true, false, List, [], ◌∷◌, Some}
use Rattle.fifo.specs.Queues.{Queue, is_waiting, proper}
use Rattle.fifo.specs.Layout.{limit}
use Rattle.fifo.specs.Steps.{Jobs, calls, standing}
use Rattle.fifo.specs.Fairness.{Call, tick, pop, is_refused, unrefused, Follows, up_to, Names}
use Rattle.fifo.specs.FairEvery.{ConsecutiveTicksEvery}

-- D9: how many requests there are among the calls
abbrev pub requests : List Call → ℕ
requests [] = 0
requests (tick minute room ∷ cs) = requests cs
requests (pop room ∷ cs) = suc (requests cs)

-- D9: the calls up to the n-th request
abbrev pub up_to_request : ℕ → List Call → List Call
up_to_request n [] = []
up_to_request zero (c ∷ cs) = []
up_to_request (suc n) (tick minute room ∷ cs) = tick minute room ∷ up_to_request (suc n) cs
up_to_request (suc n) (pop room ∷ cs) = pop room ∷ up_to_request n cs

-- D9: entry e is at place p of a queue of the jobs, 0 the front. Of the unrefused requests that go on from it none of the first p names e,
-- and if there are more, the next one does.
abbrev pub WaitsExactly : Type 0
WaitsExactly = (jobs : Jobs) (e p : ℕ) (l : Queue) (cs : List Call)
    → jobs.count < limit
    → proper jobs.count l ≡ true
    → standing p l.waiting ≡ Some e
    → Follows jobs l cs
    → (Names jobs e (up_to_request p (unrefused jobs cs)) → ⊥)
    × (p < requests (unrefused jobs cs) → Names jobs e (up_to_request (suc p) (unrefused jobs cs)))

-- D9: so a waiting entry is named by the N-th request at the latest
abbrev pub WaitsAtMost : Type 0
WaitsAtMost = (jobs : Jobs) (e : ℕ) (l : Queue) (cs : List Call)
    → jobs.count < limit
    → proper jobs.count l ≡ true
    → is_waiting e l.waiting ≡ true
    → Follows jobs l cs
    → jobs.count ≤ requests (unrefused jobs cs)
    → Names jobs e (up_to_request jobs.count (unrefused jobs cs))

-- D9: and so is one that an unrefused announcement calls, whatever is announced after it
abbrev pub CalledWaits : Type 0
CalledWaits = (jobs : Jobs) (e minute : ℕ) (l : Queue) (room : List ℕ) (cs : List Call)
    → jobs.count < limit
    → proper jobs.count l ≡ true
    → e < jobs.count → jobs.boot e ≡ false → calls jobs l.mark minute e ≡ true
    → Follows jobs l (tick minute room ∷ cs)
    → is_refused jobs (tick minute room) ≡ false
    → jobs.count ≤ requests (unrefused jobs cs)
    → Names jobs e (up_to_request jobs.count (unrefused jobs cs))

-- D10: in minutes, if those after the last announcement go on one by one, with a request every k announcements
abbrev pub WaitsEvery : Type 0
WaitsEvery = (jobs : Jobs) (k e p m : ℕ) (l : Queue) (cs : List Call)
    → jobs.count < limit
    → proper jobs.count l ≡ true
    → standing p l.waiting ≡ Some e
    → Follows jobs l cs
    → let n = k * suc p - 1 in
    ConsecutiveTicksEvery k m n 1 (unrefused jobs cs) → Names jobs e (up_to n (unrefused jobs cs))
