-- A queued entry waits for as many requests as there are entries before it: an announcement only appends, and a request removes the front.
-- Assumes nothing.
use mathlib.Core.Path.{◌≡◌, refl, sym, ◌∙◌}
use mathlib.Core.Logic.{inl, inr}
use mathlib.Core.Bool.{Bool, true, false, ◌||◌, false≢true}
use mathlib.Core.List.{List, [], ◌∷◌, ◌++◌}
use Prim.Native.Nat.{ℕ, zero, suc, ◌-◌, ◌*◌, ◌≤◌, ◌<◌}
use native.Mathlib.Omega.{arith}
use lib.Dec.{eqb}
use borrow.Author.Tests.{eq-eqb}
use Rattle.std.specs.Prelude.{Option}
use Rattle.schedule.specs.Jumps.{mark_after}
use Rattle.std.specs.Prelude.{Some}
use Rattle.fifo.specs.Queues.{Queue, is_waiting, entries_of}
use Rattle.fifo.specs.Steps.{Jobs, joiners, ticked, front, behind, popped, standing}
use Rattle.fifo.specs.Fairness.{Call, tick, pop, unrefused, Names}
use Rattle.fifo.specs.Waits.{requests, up_to_request, WaitsExactly, WaitsAtMost, CalledWaits, WaitsEvery}
use Rattle.fifo.proofs.WaitingEntries.{entries-cons, entries-length}
use Rattle.fifo.proofs.Queues.{is-proper}
use Rattle.fifo.proofs.Calls.{ticked-entries}
use Rattle.fifo.proofs.Fair.{At, here, there, at-append, at_length, at-waits, ticked-waits, Runs, runs, runs-ticked, consecutive-some, times-next, waiting-named}

-- ---- places

at-standing : (e p : ℕ) (l : List ℕ) → standing p l ≡ Some e → At e p l
unfolding standing front
at-standing e zero [] q = absurd (let z : ◌≡◌ {A = ℕ} 0 1 = cc in omega arith)
at-standing e zero (x ∷ l) q = let same : x ≡ e = cc in rw same here
at-standing e (suc p) [] q = absurd (let z : ◌≡◌ {A = ℕ} 0 1 = cc in omega arith)
at-standing e (suc p) (x ∷ l) q = there (at-standing e p l q)

at_in : (e p : ℕ) (l : List ℕ) → At e p l → is_waiting e l ≡ true
unfolding is_waiting
at_in e zero [] x'' = elim x'' [ ]
at_in e (suc p) [] x3 = elim x3 [ ]
at_in e zero (x ∷ l) here = rw (eq-eqb e e refl)
at_in e (suc p) (x ∷ l) (there a) = rw (at_in e p l a) (either (eqb x e))
  where
    either : (b : Bool) → (b || true) ≡ true
    either true = refl
    either false = refl

pub standing-in : (e p : ℕ) (l : List ℕ) → standing p l ≡ Some e → is_waiting e l ≡ true
standing-in e p l q = at_in e p l (at-standing e p l q)

-- ---- requests

module _ (jobs : Jobs) (e : ℕ) where
  -- none of the first p
  not-before : (cs : List Call) (mark : Option ℕ) (l : List ℕ) (p : ℕ) → entries_of jobs.count l ≡ true → At e p l
      → Runs jobs (record { mark = mark; waiting = l }) cs → Names jobs e (up_to_request p cs) → ⊥
  unfolding ticked front behind popped
  not-before (pop room ∷ cs) mark [] (suc p) g a r named = elim a [ ]
  not-before [] mark l p g a r named = named
  not-before (c ∷ cs) mark l zero g a r named = named
  not-before (tick minute room ∷ cs) mark l (suc p) g a r named =
      let queue : Queue = record { mark = mark; waiting = l } in
      not-before cs (mark_after mark minute) (l ++ joiners jobs minute queue) (suc p) (ticked-entries jobs queue minute g) (at-append (joiners jobs minute queue) a) r named
  not-before (pop room ∷ cs) mark (x ∷ l) (suc p) g (there a) r (inl named) =
      let same : x ≡ e = cc in
      false≢true (sym (entries-cons jobs.count x l g).1 ∙ rw same (at_in e p l a))
  not-before (pop room ∷ cs) mark (x ∷ l) (suc p) g (there a) r (inr named) =
      not-before cs mark l p (entries-cons jobs.count x l g).2 a r.1 named

  -- the next one
  pub named-then : (cs : List Call) (mark : Option ℕ) (l : List ℕ) (p n : ℕ) → At e p l → p < n → p < requests cs
      → Runs jobs (record { mark = mark; waiting = l }) cs → Names jobs e (up_to_request n cs)
  unfolding ticked front behind popped
  named-then (pop room ∷ cs) mark [] p (suc n) a h more r = elim a [ ]
  named-then cs mark l p zero a h more r = absurd (omega arith)
  named-then [] mark l p (suc n) a h more r = absurd (omega arith)
  named-then (tick minute room ∷ cs) mark l p (suc n) a h more r =
      let joining = joiners jobs minute (record { mark = mark; waiting = l }) in
      named-then cs (mark_after mark minute) (l ++ joining) p (suc n) (at-append joining a) h more r
  named-then (pop room ∷ cs) mark (x ∷ l) zero (suc n) here h more r = inl r.0
  named-then (pop room ∷ cs) mark (x ∷ l) (suc p) (suc n) (there a) h more r = inr (named-then cs mark l p n a (omega arith) (omega arith) r.1)

  -- by the N-th at the latest
  named-last : (cs : List Call) (l : Queue) → entries_of jobs.count l.waiting ≡ true → is_waiting e l.waiting ≡ true → jobs.count ≤ requests cs
      → Runs jobs l cs → Names jobs e (up_to_request jobs.count cs)
  named-last cs l g q enough r =
      let (p, a) = at-waits e l.waiting q in
      let short : p < jobs.count = omega (arith, at_length a, entries-length jobs.count l.waiting g) in
      named-then cs l.mark l.waiting p jobs.count a short (omega arith) r

-- ---- the claims

pub waits-exactly : WaitsExactly
waits-exactly jobs e p l cs h good at follows =
    let a = at-standing e p l.waiting at in
    let r = runs jobs h cs l good follows in (
      not-before jobs e (unrefused jobs cs) l.mark l.waiting p (is-proper jobs.count l good).1 a r,
      λ more. named-then jobs e (unrefused jobs cs) l.mark l.waiting p (suc p) a (omega arith) more r,
    )

pub waits-at-most : WaitsAtMost
waits-at-most jobs e l cs h good waits follows enough =
    named-last jobs e (unrefused jobs cs) l (is-proper jobs.count l good).1 waits enough (runs jobs h cs l good follows)

pub called-waits : CalledWaits
called-waits jobs e minute l room cs h good below timed called follows taken enough =
    named-last jobs e (unrefused jobs cs) (ticked jobs minute l) (ticked-entries jobs l minute (is-proper jobs.count l good).1)
    (ticked-waits jobs e minute l below timed called) enough (runs-ticked jobs h minute room cs l good follows taken)

pub waits-every : WaitsEvery
waits-every jobs k e p m l cs h good at follows consecutive =
    let n = k * suc p - 1 in
    let some = consecutive-some k (unrefused jobs cs) m n 1 consecutive in
    waiting-named jobs e k some (unrefused jobs cs) l.mark l.waiting p m n 1 (at-standing e p l.waiting at) (omega arith)
    (omega (arith, times-next k p)) (runs jobs h cs l good follows) consecutive
