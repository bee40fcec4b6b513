-- A second list (D3) that there is, so that the claim isn't empty: each minute is announced, one request follows, and all are lent the same
-- part of one buffer. Whatever calls went before, none of these is refused, and D3 holds (`SteadyPaced`); so for them the claim of Buffer
-- has no hypothesis about calls (`FairSteady`). Proved in proofs/Theorems.
-- Assumes nothing.
use Rattle.std.specs.Prelude.{◌≡◌, ℕ, zero, suc, ◌+◌, ◌≤◌, ◌<◌, true, false, List, [], ◌∷◌, take}
use Rattle.calendar.specs.Dates.{last_minute}
use Rattle.fifo.specs.Layout.{limit, roomy}
use Rattle.fifo.specs.Steps.{Jobs}
use Rattle.fifo.specs.Fairness.{unrefused, ConsecutiveTicks, up_to, Names, CalledWithin, bound}
use Rattle.fifo.specs.Buffer.{Use, tick_in, pop_in, calls_on, buffer_after_all, started}

-- D3: n minutes from m on
unfoldable pub steady : ℕ → ℕ → ℕ → List Use
steady size m zero = []
steady size m (suc n) = tick_in m size ∷ pop_in size ∷ steady size (m + 1) n

-- D3: none is refused, and they are paced
abbrev pub SteadyPaced : Type 0
SteadyPaced = (jobs : Jobs) (t n size : ℕ) (buffer : List ℕ) (first : List Use)
    → jobs.count < limit → roomy jobs.count (take size buffer) ≡ true → t + n ≤ last_minute
    → let calls = calls_on jobs (buffer_after_all jobs (started jobs size buffer) first) (steady size (t + 1) n) in
    (unrefused jobs calls ≡ calls) × ConsecutiveTicks (t + 1) n true calls

-- D1, D3: the claim for them
abbrev pub FairSteady : Type 0
FairSteady = (jobs : Jobs) (gap e t size : ℕ) (buffer : List ℕ) (first : List Use)
    → jobs.count < limit
    → e < jobs.count → jobs.boot e ≡ false → CalledWithin jobs gap e t
    → roomy jobs.count (take size buffer) ≡ true
    → t + bound jobs gap ≤ last_minute
    → Names jobs e (up_to (bound jobs gap) (calls_on jobs (buffer_after_all jobs (started jobs size buffer) first) (steady size (t + 1) (bound jobs gap))))
