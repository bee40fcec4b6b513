-- Minutes that are announced one by one outrun any hold: the mark is at most 179 after the first of them where it holds fixed entries
-- back, and it stays until they have passed it. So an entry that matches a minute more than 180 after t is called by it.
-- Assumes nothing.
use mathlib.Core.Path.{◌≡◌, refl, sym, ◌∙◌}
use Rattle.std.specs.Prelude.{Option, Some, None}
use Rattle.schedule.specs.Jumps.{catch_up_limit}
use mathlib.Core.Bool.{Bool, true, false, cond}
use Prim.Native.Nat.{ℕ, zero, suc, ◌+◌, ◌-◌, ◌≤◌, ◌<◌}
use native.Mathlib.Nat.{lt_of_not-le}
use native.Mathlib.Decide.{dec_le}
use native.Mathlib.Omega.{arith}
use Rattle.octets.specs.Search.{passes}
use Rattle.octets.proofs.Search.{some-passes, none_passes}
use Rattle.schedule.specs.Jumps.{case_of, judged, mark_after}
use Rattle.schedule.proofs.Theorems.{case-above, case-below, case-after, case-held}
use Rattle.fifo.specs.Steps.{Jobs, calls}
use Rattle.fifo.specs.Fairness.{marks, CalledWithin}

-- ---- the mark as the minutes go on

module _ (x m : ℕ) where
  after-above : x + catch_up_limit < m → mark_after (Some x) m ≡ Some m
  unfolding mark_after
  after-above h = rw (case-above x m h)

  after-below : m + catch_up_limit ≤ x → mark_after (Some x) m ≡ Some m
  unfolding mark_after
  after-below h = rw (case-below x m h)

  pub after_next : x < m → m ≤ x + catch_up_limit → mark_after (Some x) m ≡ Some m
  unfolding mark_after
  after_next h k = rw (case-after x m h k)

  after-held : m ≤ x → x < m + catch_up_limit → mark_after (Some x) m ≡ Some x
  unfolding mark_after
  after-held h k = rw (case-held x m h k)

pub after_none : (m : ℕ) → mark_after None m ≡ Some m
unfolding mark_after case_of
after_none m = refl

-- minutes from the one after the mark on carry it along
followed : (j x m : ℕ) → m ≡ x + 1 → marks (Some x) m j ≡ Some (x + j)
followed zero x m e = let z : x ≡ x + 0 = omega arith in rw (← z)
followed (suc j) x m e =
    let next : m + j ≡ x + suc j = omega arith in
    rw (after_next x m (omega arith) (omega arith)) (followed j m (m + 1) refl ∙ rw next)

-- a mark that holds stays while the minutes come up to it
pub held_stays : (j x m : ℕ) → x < m + catch_up_limit → m + j ≤ x + 1 → marks (Some x) m j ≡ Some x
held_stays zero x m h k = refl
held_stays (suc j) x m h k = rw (after-held x m (omega arith) h) (held_stays j x (m + 1) (omega arith) (omega arith))

-- and is carried along from then on
held-followed : (d j x m n : ℕ) → x ≡ m + d → d < catch_up_limit → n ≡ d + j → marks (Some x) m (suc n) ≡ Some (x + j)
held-followed zero j x m n e h q =
    let same : n ≡ j = omega arith in
    rw (after-held x m (omega arith) (omega arith), same) (followed j x (m + 1) (omega arith))
held-followed (suc d) j x m zero e h q = absurd (omega arith)
held-followed (suc d) j x m (suc n) e h q =
    rw (after-held x m (omega arith) (omega arith)) (held-followed d j x (m + 1) n (omega arith) (omega arith) (omega arith))

-- so the mark is the last minute after 180 of them
pub outrun : (mark : Option ℕ) (t j : ℕ) → catch_up_limit ≤ j → marks mark (t + 1) j ≡ Some (t + j)
outrun mark t zero h = absurd (omega arith)
outrun None t (suc j) h = rw (after_none (t + 1)) (first t j)
  where
    first : (t j : ℕ) → marks (Some (t + 1)) (t + 1 + 1) j ≡ Some (t + suc j)
    first t j = let e : t + 1 + j ≡ t + suc j = omega arith in followed j (t + 1) (t + 1 + 1) refl ∙ rw e
outrun (Some x) t (suc j) h = elim (dec_le (t + 1) x) [ yes p ↦ elim (dec_le (t + 181) x) [ yes q ↦ rw (after-below x (t + 1) (omega arith)) first | no q ↦ within p (lt_of_not-le q) ] | no p ↦ above (lt_of_not-le p) ]
  where
    first : marks (Some (t + 1)) (t + 1 + 1) j ≡ Some (t + suc j)
    first = let e : t + 1 + j ≡ t + suc j = omega arith in followed j (t + 1) (t + 1 + 1) refl ∙ rw e

    above : x < t + 1 → marks (Some x) (t + 1) (suc j) ≡ Some (t + suc j)
    above p = elim (dec_le (t + 1) (x + catch_up_limit)) [ yes q ↦ rw (after_next x (t + 1) p q) first | no q ↦ rw (after-above x (t + 1) (lt_of_not-le q)) first ]

    within : t + 1 ≤ x → x < t + 181 → marks (Some x) (t + 1) (suc j) ≡ Some (t + suc j)
    within p q =
        let d = x - (t + 1) in
        let l : x + (j - d) ≡ t + suc j = omega arith in
        held-followed d (j - d) x (t + 1) j (omega arith) (omega arith) (omega arith) ∙ rw l

-- ---- who is called

-- beside the minute before it, a minute calls just where it matches
pub follows-calls : (jobs : Jobs) (x m e : ℕ) → m ≡ x + 1 → calls jobs (Some x) m e ≡ jobs.matches e m
unfolding calls judged
follows-calls jobs x m e q = rw (case-after x m (omega arith) (omega arith)) (go (jobs.fixed e) (jobs.matches e m) refl)
  where
    go : (b c : Bool) → jobs.matches e m ≡ c → cond b (passes (jobs.matches e) x m) (jobs.matches e m) ≡ jobs.matches e m
    go true true t = some-passes (jobs.matches e) x m m (omega arith) (omega arith) t ∙ sym t
    go true false t = none_passes (jobs.matches e) x m (λ k u v. let here : k ≡ m = omega arith in rw here t) ∙ sym t
    go false c t = refl

pub called-past-limit : (jobs : Jobs) (gap e t m : ℕ) → t + catch_up_limit < m → m ≤ t + gap → jobs.matches e m ≡ true → CalledWithin jobs gap e t
unfolding CalledWithin
called-past-limit jobs gap e t m after within matched mark =
    let j = m - (t + 1) in
    let at : t + 1 + j ≡ m = omega arith in
    (j, omega arith, rw (at, outrun mark t j (omega arith)) (follows-calls jobs (t + j) m e (omega arith) ∙ matched))
