-- Demand 3 where requests are fewer (D8, D10): any k announcements in a row have a request among them or before the next announcement. So
-- it is at a site with several tables, or where a job takes minutes to start. With k = 1 it is the demand itself (Fairness, whose words
-- these claims use). That the claims hold is proved in proofs/Theorems.
-- Assumes nothing.
use Rattle.std.specs.Prelude.{◌≡◌, ℕ, zero, suc, ◌+◌, ◌-◌, ◌*◌, ◌≤◌, ◌<◌, true, false, cond, List, [], ◌∷◌, ◌++◌, leb, take}
use Rattle.calendar.specs.Dates.{last_minute}
use Rattle.fifo.specs.Queues.{Queue, proper}
use Rattle.fifo.specs.Layout.{limit, roomy}
use Rattle.fifo.specs.Steps.{Jobs, fresh, calls}
use Rattle.fifo.specs.Fairness.{Call, tick, pop, is_refused, unrefused, Follows, up_to, Names, CalledWithin}
use Rattle.fifo.specs.Buffer.{Use, tick_in, pop_in, calls_on, buffer_after_all, started}

-- ---- the second list

-- D8: the minutes m, m + 1 and on are announced, n of them, one by one and no other, and of any k announcements in a row one has a request
-- after it, before the next announcement. `since` is how many were announced since the last request: with 0 at the start, requests may come
-- before the first announcement, but needn't.
abbrev pub ConsecutiveTicksEvery : ℕ → ℕ → ℕ → ℕ → List Call → Type 0
ConsecutiveTicksEvery k m n since [] = (n ≡ 0) × (since < k)
ConsecutiveTicksEvery k m n since (pop room ∷ cs) = ConsecutiveTicksEvery k m n 0 cs
ConsecutiveTicksEvery k m zero since (tick minute room ∷ cs) = ⊥
ConsecutiveTicksEvery k m (suc n) since (tick minute room ∷ cs) = (since < k) × (minute ≡ m) × ConsecutiveTicksEvery k (m + 1) n (since + 1) cs

-- ---- the claims

-- D8: how many minutes the second list announces
abbrev pub bound_every : Jobs → ℕ → ℕ → ℕ
bound_every jobs k gap = gap + k * jobs.count - 1

-- D7, D8: from any queue of the jobs
abbrev pub FairEveryFrom : Type 0
FairEveryFrom = (jobs : Jobs) (k gap e t : ℕ) (l : Queue) (second : List Call)
    → jobs.count < limit
    → e < jobs.count → jobs.boot e ≡ false → CalledWithin jobs gap e t
    → proper jobs.count l ≡ true
    → Follows jobs l second
    → ConsecutiveTicksEvery k (t + 1) (bound_every jobs k gap) 0 (unrefused jobs second)
    → Names jobs e (up_to (bound_every jobs k gap) (unrefused jobs second))

-- D8: from the fresh queue, through any first list
abbrev pub FairEvery : Type 0
FairEvery = (jobs : Jobs) (k gap e t : ℕ) (first second : List Call)
    → jobs.count < limit
    → e < jobs.count → jobs.boot e ≡ false → CalledWithin jobs gap e t
    → Follows jobs (fresh jobs) (first ++ second)
    → ConsecutiveTicksEvery k (t + 1) (bound_every jobs k gap) 0 (unrefused jobs second)
    → Names jobs e (up_to (bound_every jobs k gap) (unrefused jobs second))

-- D10: an entry that an unrefused announcement calls. For 27 entries and a request each minute, it is named at most 26 minutes later.
abbrev pub CalledEvery : Type 0
CalledEvery = (jobs : Jobs) (k e minute : ℕ) (l : Queue) (room : List ℕ) (second : List Call)
    → jobs.count < limit
    → e < jobs.count → jobs.boot e ≡ false → calls jobs l.mark minute e ≡ true
    → proper jobs.count l ≡ true
    → Follows jobs l (tick minute room ∷ second)
    → is_refused jobs (tick minute room) ≡ false
    → let n = k * jobs.count - 1 in
    ConsecutiveTicksEvery k (minute + 1) n 1 (unrefused jobs second) → Names jobs e (up_to n (unrefused jobs second))

-- ---- a list of this kind

-- D8: n minutes from m on, each announced, with a request after each k-th; `since` were announced since the last
unfoldable pub steady_every : ℕ → ℕ → ℕ → ℕ → ℕ → List Use
steady_every size k m zero since = []
steady_every size k m (suc n) since =
    let full = leb k (since + 1) in
    tick_in m size ∷ (cond full (pop_in size ∷ []) [] ++ steady_every size k (m + 1) n (cond full 0 (since + 1)))

-- D8: whatever calls went before, none of these is refused, and they are paced as the claims ask
abbrev pub SteadyEveryPaced : Type 0
SteadyEveryPaced = (jobs : Jobs) (k t n size : ℕ) (buffer : List ℕ) (first : List Use)
    → jobs.count < limit → roomy jobs.count (take size buffer) ≡ true → t + n ≤ last_minute → 0 < k
    → let calls = calls_on jobs (buffer_after_all jobs (started jobs size buffer) first) (steady_every size k (t + 1) n 0) in
    (unrefused jobs calls ≡ calls) × ConsecutiveTicksEvery k (t + 1) n 0 calls
