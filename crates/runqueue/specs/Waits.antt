-- How long a queued entry of a table waits (D9, D10): the claims of fifo's Waits and FairEvery, in their words, where the jobs are a
-- table's. That they hold is proved in proofs/Theorems.
-- Assumes nothing.
use Rattle.std.specs.Prelude.{◌≡◌, ℕ, suc, ◌+◌, ◌-◌, ◌*◌, ◌≤◌, ◌<◌, true, false, List, ◌∷◌, Some}
use Rattle.line.specs.declared.Rules.{Rules}
use Rattle.fifo.specs.Queues.{Queue, is_waiting, proper}
use Rattle.fifo.specs.Steps.{calls, standing}
use Rattle.fifo.specs.Fairness.{Call, tick, is_refused, unrefused, Follows, up_to, Names}
use Rattle.fifo.specs.FairEvery.{ConsecutiveTicksEvery}
use Rattle.fifo.specs.Waits.{requests, up_to_request}
use Rattle.runqueue.specs.Demand.{jobs_in}

-- D9: entry e is at place p of a queue of the table, 0 the front: none of the first p unrefused requests that go on from it names e, and
-- the next one does.
abbrev pub TableWaitsExactly : Type 0
TableWaitsExactly = (rules : Rules) (table : List ℕ) (e p : ℕ) (l : Queue) (cs : List Call)
    → let jobs = jobs_in rules table in
    proper jobs.count l ≡ true
    → standing p l.waiting ≡ Some e
    → Follows jobs l cs
    → (Names jobs e (up_to_request p (unrefused jobs cs)) → ⊥)
    × (p < requests (unrefused jobs cs) → Names jobs e (up_to_request (suc p) (unrefused jobs cs)))

-- D9: so a waiting entry is named by the N-th request at the latest
abbrev pub TableWaitsAtMost : Type 0
TableWaitsAtMost = (rules : Rules) (table : List ℕ) (e : ℕ) (l : Queue) (cs : List Call)
    → let jobs = jobs_in rules table in
    proper jobs.count l ≡ true
    → is_waiting e l.waiting ≡ true
    → Follows jobs l cs
    → jobs.count ≤ requests (unrefused jobs cs)
    → Names jobs e (up_to_request jobs.count (unrefused jobs cs))

-- D9: a timed entry that an unrefused announcement calls, beside the queue's mark, is named by the N-th request after it at the latest,
-- whatever is announced meanwhile
abbrev pub TableCalledWaits : Type 0
TableCalledWaits = (rules : Rules) (table : List ℕ) (e minute : ℕ) (l : Queue) (room : List ℕ) (cs : List Call)
    → let jobs = jobs_in rules table in
    proper jobs.count l ≡ true
    → e < jobs.count → jobs.boot e ≡ false → calls jobs l.mark minute e ≡ true
    → Follows jobs l (tick minute room ∷ cs)
    → is_refused jobs (tick minute room) ≡ false
    → jobs.count ≤ requests (unrefused jobs cs)
    → Names jobs e (up_to_request jobs.count (unrefused jobs cs))

-- D10: in minutes, if those after the last announcement go on one by one, with a request every k announcements
abbrev pub TableWaitsEvery : Type 0
TableWaitsEvery = (rules : Rules) (table : List ℕ) (k e p m : ℕ) (l : Queue) (cs : List Call)
    → let jobs = jobs_in rules table in
    proper jobs.count l ≡ true
    → standing p l.waiting ≡ Some e
    → Follows jobs l cs
    → let n = k * suc p - 1 in
    ConsecutiveTicksEvery k m n 1 (unrefused jobs cs) → Names jobs e (up_to n (unrefused jobs cs))

-- D10: so an entry that an announcement calls is named by the first request after k * N - 1 more. For 27 entries and a request each minute,
-- that is at most 26 minutes later.
abbrev pub TableCalledEvery : Type 0
TableCalledEvery = (rules : Rules) (table : List ℕ) (k e minute : ℕ) (l : Queue) (room : List ℕ) (second : List Call)
    → let jobs = jobs_in rules table in
    proper jobs.count l ≡ true
    → e < jobs.count → jobs.boot e ≡ false → calls jobs l.mark minute e ≡ true
    → Follows jobs l (tick minute room ∷ second)
    → is_refused jobs (tick minute room) ≡ false
    → let n = k * jobs.count - 1 in
    ConsecutiveTicksEvery k (minute + 1) n 1 (unrefused jobs second) → Names jobs e (up_to n (unrefused jobs second))
