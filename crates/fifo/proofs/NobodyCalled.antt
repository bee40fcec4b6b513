-- Where no minute calls anybody, nobody is named: so a bound can be shown to be met exactly.
-- Assumes nothing.
use mathlib.Core.Path.{◌≡◌, refl, sym, ap, ◌∙◌}
use mathlib.Core.Logic.{inl, inr}
use mathlib.Core.Bool.{Bool, true, false, not, cond, and-false, false≢true}
use mathlib.Core.List.{List, [], ◌∷◌, ◌++◌}
use Prim.Native.Nat.{ℕ, zero, suc, ◌+◌, ◌≤◌, ◌<◌}
use native.Mathlib.Omega.{arith}
use lib.ListN.{take}
use Rattle.std.specs.Prelude.{Option}
use Rattle.calendar.specs.Dates.{last_minute}
use Rattle.schedule.specs.Jumps.{mark_after}
use Rattle.std.specs.Prelude.{Option, Some, Result, Ok}
use Rattle.refusal.specs.declared.Refusal.{Refusal}
use Rattle.fifo.specs.Queues.{Queue, pick}
use Rattle.fifo.specs.Layout.{limit, roomy}
use Rattle.fifo.specs.Steps.{Jobs, fresh, calls, joins, joiners, ticked, front, behind, popped}
use Rattle.fifo.specs.Fairness.{Call, tick, pop, is_refused, unrefused, ConsecutiveTicks, up_to, Names, marks}
use Rattle.fifo.specs.Buffer.{calls_on, buffer_after_all, started}
use Rattle.fifo.specs.Steady.{steady}
use Rattle.fifo.proofs.Calls.{fresh-proper}
use Rattle.fifo.proofs.Fair.{Runs, runs}
use Rattle.fifo.proofs.Buffer.{on-follows, started-holds, calls-append}
use Rattle.fifo.proofs.Steady.{steady-from}

-- ---- nobody is called, and nobody is named

pick-none : (p : ℕ → Bool) (n : ℕ) → ((e : ℕ) → e < n → p e ≡ false) → pick p n ≡ []
unfolding pick
pick-none p zero h = refl
pick-none p (suc n) h = rw (pick-none p n (λ e k. h e (omega arith)), h n (omega arith))

joiners-none : (jobs : Jobs) (minute : ℕ) (l : Queue) → ((e : ℕ) → e < jobs.count → calls jobs l.mark minute e ≡ false) → joiners jobs minute l ≡ []
unfolding joiners joins
joiners-none jobs minute l none = pick-none (joins jobs minute l) jobs.count (λ e k. rw (none e k, and-false (not (jobs.boot e))))

nobody : {e : ℕ} {a : Result (Option ℕ) Refusal} → a ≡ Ok (front []) → a ≡ Ok (Some e) → ⊥
unfolding front
nobody is named = let z : ◌≡◌ {A = ℕ} 0 1 = cc in omega arith

-- the first k minutes call nobody, and nobody waits
module _ (jobs : Jobs) (e : ℕ) where
  pub quiet : (cs : List Call) (mark : Option ℕ) (m n k : ℕ) (asked : Bool)
      → ((j : ℕ) → j < k → (x : ℕ) → x < jobs.count → calls jobs (marks mark m j) (m + j) x ≡ false)
      → (k ≡ 0 → asked ≡ false) → Runs jobs (record { mark = mark; waiting = [] }) cs → ConsecutiveTicks m n asked cs → Names jobs e (up_to k cs) → ⊥
  unfolding ticked behind popped
  quiet [] mark m n k asked none start r consecutive named = named
  quiet (pop room ∷ cs) mark m n zero asked none start r consecutive (inl named) = nobody r.0 named
  quiet (pop room ∷ cs) mark m n zero asked none start r consecutive (inr named) = named
  quiet (pop room ∷ cs) mark m n (suc k) asked none start r consecutive (inl named) = nobody r.0 named
  quiet (pop room ∷ cs) mark m n (suc k) asked none start r consecutive (inr named) =
      quiet cs mark m n (suc k) true none (λ z. absurd (omega arith)) r.1 consecutive named
  quiet (tick minute room ∷ cs) mark m zero k asked none start r consecutive named = absurd consecutive
  quiet (tick minute room ∷ cs) mark m (suc n) zero asked none start r consecutive named = false≢true (sym (start refl) ∙ consecutive.0)
  quiet (tick minute room ∷ cs) mark m (suc n) (suc k) asked none start r consecutive named =
      let now : m + 0 ≡ minute = omega (arith, consecutive.1) in
      let nobody-joins = joiners-none jobs minute (record { mark = mark; waiting = [] }) (λ x h. rw now at (none 0 (omega arith) x h)) in
      quiet cs (mark_after mark minute) (m + 1) n k false later (λ z. refl) (rw nobody-joins at r) consecutive.2 named
    where
      later : (j : ℕ) → j < k → (x : ℕ) → x < jobs.count → calls jobs (marks (mark_after mark minute) (m + 1) j) (m + 1 + j) x ≡ false
      later j h x b =
          let next : m + suc j ≡ m + 1 + j = omega arith in
          rw (consecutive.1, ← next) (none (suc j) (omega arith) x b)

-- ---- two steady lists, one behind the other

unrefused-append : (jobs : Jobs) (first second : List Call) → unrefused jobs (first ++ second) ≡ unrefused jobs first ++ unrefused jobs second
unfolding unrefused
unrefused-append jobs [] second = refl
unrefused-append jobs (c ∷ cs) second = go (is_refused jobs c) (unrefused-append jobs cs second)
  where
    go : (b : Bool) → unrefused jobs (cs ++ second) ≡ unrefused jobs cs ++ unrefused jobs second
        → cond b (unrefused jobs (cs ++ second)) (c ∷ unrefused jobs (cs ++ second)) ≡ cond b (unrefused jobs cs) (c ∷ unrefused jobs cs) ++ unrefused jobs second
    go true h = h
    go false h = rw h

module _ (jobs : Jobs) (h : jobs.count < limit) (size : ℕ) (buffer : List ℕ) (r : roomy jobs.count (take size buffer) ≡ true) where
  pub two_run : (s k t n : ℕ) → s + k ≤ last_minute → t + n ≤ last_minute
      → let begun = started jobs size buffer in
      let first = steady size (s + 1) k in
      Runs jobs (fresh jobs) (calls_on jobs begun first ++ calls_on jobs (buffer_after_all jobs begun first) (steady size (t + 1) n))
  unfolding buffer_after_all
  two_run s k t n a b =
      let begun = started jobs size buffer in
      let first = steady size (s + 1) k in
      let second = steady size (t + 1) n in
      let all = calls_on jobs begun (first ++ second) in
      let run = runs jobs h all (fresh jobs) (fresh-proper jobs) (on-follows jobs h (first ++ second) begun (fresh jobs) (fresh-proper jobs) (started-holds jobs h size buffer r)) in
      let one = (steady-from jobs h size buffer r s k [] a).0 in
      let two = (steady-from jobs h size buffer r t n first b).0 in
      let taken : unrefused jobs all ≡ calls_on jobs begun first ++ calls_on jobs (buffer_after_all jobs begun first) second =
      ap (unrefused jobs) (calls-append jobs first second begun)
      ∙ unrefused-append jobs (calls_on jobs begun first) (calls_on jobs (buffer_after_all jobs begun first) second)
      ∙ rw (one, two) in
      rw taken at run
