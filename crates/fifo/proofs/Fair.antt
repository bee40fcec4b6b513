-- The third demand: an entry that a minute calls soon is named in time. Within the first `gap` announcements one calls it, and
-- from then on it waits. At most count - 1 others stand before it, those that join stand behind it, and each minute brings a
-- request.
-- Assumes nothing.
use mathlib.Core.Path.{◌≡◌, refl, ◌∙◌}
use mathlib.Core.Logic.{◌⊎◌, inl, inr}
use mathlib.Core.Bool.{Bool, true, false, not, cond, ◌||◌, false≢true}
use mathlib.Core.List.{List, [], ◌∷◌, ◌++◌}
use Prim.Native.Nat.{ℕ, zero, suc, ◌+◌, ◌*◌, ◌≤◌, ◌<◌}
use native.Mathlib.Nat.{mul-le-mul_left}
use native.Mathlib.Omega.{arith}
use lib.Dec.{eqb}
use lib.ListN.{length}
use borrow.Author.Tests.{eqb-true, lt-ltb}
use Rattle.std.specs.Prelude.{Option, Ok}
use Rattle.schedule.specs.Jumps.{mark_after}
use Rattle.fifo.specs.Queues.{Queue, is_waiting, entries_of, proper}
use Rattle.fifo.specs.Layout.{limit}
use Rattle.fifo.specs.Steps.{Jobs, calls, joins, joiners, ticked, front, behind, popped, pop_step}
use Rattle.fifo.specs.Fairness.{Call, tick, pop, room_of, is_refused, unrefused, queue_after, Follows, ConsecutiveTicks, up_to, Names, marks}
use Rattle.fifo.specs.FairEvery.{ConsecutiveTicksEvery}
use Rattle.fifo.proofs.WaitingEntries.{waits-append, waits-pick, entries-length, entries-behind}
use Rattle.fifo.proofs.Queues.{queue_of-laid}
use Rattle.fifo.proofs.Calls.{Undone, Done, effect, outcome, ticked-entries, after-proper}

-- ---- where an entry stands

pub data At (e : ℕ) : ℕ → List ℕ → Type 0 where
  here : {l : List ℕ} → At e zero (e ∷ l)
  there : {x p : ℕ} {l : List ℕ} → At e p l → At e (suc p) (x ∷ l)

pub at-append : {e p : ℕ} {l : List ℕ} (k : List ℕ) → At e p l → At e p (l ++ k)
at-append k here = here
at-append k (there a) = there (at-append k a)

pub at_length : {e p : ℕ} {l : List ℕ} → At e p l → p < length l
at_length here = omega arith
at_length (there a) = omega (arith, at_length a)

pub at-waits : (e : ℕ) (l : List ℕ) → is_waiting e l ≡ true → (p : ℕ) × At e p l
unfolding is_waiting
at-waits e [] q = absurd (false≢true q)
at-waits e (x ∷ l) q = go (eqb x e) refl q (λ k. at-waits e l k)
  where
    go : (b : Bool) → eqb x e ≡ b → (b || is_waiting e l) ≡ true → (is_waiting e l ≡ true → (p : ℕ) × At e p l) → (p : ℕ) × At e p (x ∷ l)
    go true r k later = (0, rw (eqb-true x e r) here)
    go false r k later = let a = later k in (suc a.0, there a.1)

-- ---- a list of unrefused calls, by the lines alone

abbrev pub Runs : Jobs → Queue → List Call → Type 0
Runs jobs l [] = Unit {0}
Runs jobs l (tick minute room ∷ cs) = Runs jobs (ticked jobs minute l) cs
Runs jobs l (pop room ∷ cs) = ((pop_step jobs.count room).answer ≡ Ok (front l.waiting)) × Runs jobs (popped l) cs

module _ (jobs : Jobs) (h : jobs.count < limit) where
  runs_done : (c : Call) (cs : List Call) (l : Queue) → Done jobs l c → Runs jobs (effect jobs l c) cs → Runs jobs l (c ∷ cs)
  unfolding effect
  runs_done (tick minute room) cs l d r = r
  runs_done (pop room) cs l d r = (d.answer, r)

  pub runs : (cs : List Call) (l : Queue) → proper jobs.count l ≡ true → Follows jobs l cs → Runs jobs l (unrefused jobs cs)
  unfolding unrefused queue_after
  runs [] l e f = tt
  runs (c ∷ cs) l e f = go (outcome jobs h l e c f.0) (runs cs (queue_after jobs l c) (after-proper jobs h l c e f.0) f.1)
    where
      go : Undone jobs c ⊎ Done jobs l c → Runs jobs (queue_after jobs l c) (unrefused jobs cs) → Runs jobs l (unrefused jobs (c ∷ cs))
      go (inl u) r = rw u.was (rw u.was at r)
      go (inr d) r =
          rw d.was
          (runs_done c (unrefused jobs cs) l d
          (rw (d.was, d.room, queue_of-laid jobs.count (effect jobs l c) (room_of c) h d.leaves) at r))

  -- after an announcement that isn't refused
  pub runs-ticked : (minute : ℕ) (room : List ℕ) (cs : List Call) (l : Queue) → proper jobs.count l ≡ true → Follows jobs l (tick minute room ∷ cs)
      → is_refused jobs (tick minute room) ≡ false → Runs jobs (ticked jobs minute l) (unrefused jobs cs)
  unfolding unrefused
  runs-ticked minute room cs l e f taken = rw taken at (runs (tick minute room ∷ cs) l e f)

-- ---- requests that come every k announcements

-- after each announcement, where k is 1
pub consecutive-one : (cs : List Call) (m n : ℕ) (asked : Bool) → ConsecutiveTicks m n asked cs → ConsecutiveTicksEvery 1 m n (cond asked 0 1) cs
consecutive-one [] m n true consecutive = (consecutive.0, omega arith)
consecutive-one [] m n false consecutive = absurd (false≢true consecutive.1)
consecutive-one (pop room ∷ cs) m n asked consecutive = consecutive-one cs m n true consecutive
consecutive-one (tick minute room ∷ cs) m zero asked consecutive = absurd consecutive
consecutive-one (tick minute room ∷ cs) m (suc n) true consecutive = (omega arith, consecutive.1, consecutive-one cs (m + 1) n false consecutive.2)
consecutive-one (tick minute room ∷ cs) m (suc n) false consecutive = absurd (false≢true consecutive.0)

pub one-consecutive : (cs : List Call) (m n : ℕ) (asked : Bool) → ConsecutiveTicksEvery 1 m n (cond asked 0 1) cs → ConsecutiveTicks m n asked cs
one-consecutive [] m n true consecutive = (consecutive.0, refl)
one-consecutive [] m n false consecutive = absurd (omega (arith, consecutive.1))
one-consecutive (pop room ∷ cs) m n asked consecutive = one-consecutive cs m n true consecutive
one-consecutive (tick minute room ∷ cs) m zero asked consecutive = absurd consecutive
one-consecutive (tick minute room ∷ cs) m (suc n) true consecutive = (refl, consecutive.1, one-consecutive cs (m + 1) n false consecutive.2)
one-consecutive (tick minute room ∷ cs) m (suc n) false consecutive = absurd (omega (arith, consecutive.0))

-- k isn't 0
pub consecutive-some : (k : ℕ) (cs : List Call) (m n since : ℕ) → ConsecutiveTicksEvery k m n since cs → 0 < k
consecutive-some k [] m n since consecutive = omega (arith, consecutive.1)
consecutive-some k (pop room ∷ cs) m n since consecutive = consecutive-some k cs m n 0 consecutive
consecutive-some k (tick minute room ∷ cs) m zero since consecutive = absurd consecutive
consecutive-some k (tick minute room ∷ cs) m (suc n) since consecutive = omega (arith, consecutive.0)

-- ---- an entry that waits is named

pub times-next : (k p : ℕ) → k * suc p ≡ k + k * p
times-next k p = omega arith

module _ (jobs : Jobs) (e k : ℕ) (some : 0 < k) where
  -- With p before it, n minutes to come and `since` announced since the last request: a request comes within k - since announcements, and each of
  -- the p after it within k more.
  pub waiting-named : (cs : List Call) (mark : Option ℕ) (l : List ℕ) (p m n since : ℕ) → At e p l → since ≤ k → k + k * p ≤ n + since
      → Runs jobs (record { mark = mark; waiting = l }) cs → ConsecutiveTicksEvery k m n since cs → Names jobs e (up_to n cs)
  unfolding ticked front behind popped
  waiting-named (pop room ∷ cs) mark [] p m n since a h near r consecutive = elim a [ ]
  waiting-named [] mark l p m n since a h near r consecutive = absurd (omega (arith, consecutive.0, consecutive.1))
  waiting-named (tick minute room ∷ cs) mark l p m zero since a h near r consecutive = absurd consecutive
  waiting-named (tick minute room ∷ cs) mark l p m (suc n) since a h near r consecutive =
      let joining = joiners jobs minute (record { mark = mark; waiting = l }) in
      waiting-named cs (mark_after mark minute) (l ++ joining) p (m + 1) n (since + 1) (at-append joining a) (omega (arith, consecutive.0)) (omega arith) r consecutive.2
  waiting-named (pop room ∷ cs) mark (x ∷ l) zero m zero since here h near r consecutive = inl r.0
  waiting-named (pop room ∷ cs) mark (x ∷ l) zero m (suc n) since here h near r consecutive = inl r.0
  waiting-named (pop room ∷ cs) mark (x ∷ l) (suc p) m zero since (there a) h near r consecutive = absurd (omega (arith, some, times-next k p))
  waiting-named (pop room ∷ cs) mark (x ∷ l) (suc p) m (suc n) since (there a) h near r consecutive =
      inr (waiting-named cs mark l p m (suc n) 0 a (omega arith) (omega (arith, times-next k p)) r.1 consecutive)

-- ---- an entry joins where a minute calls it

-- after the announcement it waits, whether it joined or waited before
pub ticked-waits : (jobs : Jobs) (e minute : ℕ) (l : Queue) → e < jobs.count → jobs.boot e ≡ false → calls jobs l.mark minute e ≡ true
    → is_waiting e (ticked jobs minute l).waiting ≡ true
unfolding ticked joiners joins
ticked-waits jobs e minute l h b q =
    waits-append e l.waiting (joiners jobs minute l)
    ∙ rw (waits-pick (joins jobs minute l) jobs.count e, lt-ltb e jobs.count h, b, q) (either (is_waiting e l.waiting))
  where
    either : (b : Bool) → (b || not b) ≡ true
    either true = refl
    either false = refl

module _ (jobs : Jobs) (e k : ℕ) (some : 0 < k) (below : e < jobs.count) (timed : jobs.boot e ≡ false) where
  -- requests for a whole queue
  whole : (p : ℕ) → p < jobs.count → k + k * p ≤ k * jobs.count
  whole p h = omega (arith, times-next k p, mul-le-mul_left k (let q : suc p ≤ jobs.count = omega arith in q))

  -- the announcement after which it waits
  pub waits-named : (cs : List Call) (l : Queue) (minute m n since : ℕ) → entries_of jobs.count l.waiting ≡ true
      → calls jobs l.mark minute e ≡ true → 0 < since → since ≤ k → k * jobs.count ≤ suc n → Runs jobs (ticked jobs minute l) cs
      → ConsecutiveTicksEvery k m n since cs → Names jobs e (up_to n cs)
  unfolding ticked
  waits-named cs l minute m n since g q after h enough r consecutive =
      let queue = ticked jobs minute l in
      let waits = at-waits e queue.waiting (ticked-waits jobs e minute l below timed q) in
      let short = entries-length jobs.count queue.waiting (ticked-entries jobs l minute g) in
      let need = whole waits.0 (omega (arith, at_length waits.1)) in
      waiting-named jobs e k some cs queue.mark queue.waiting waits.0 m n since waits.1 h (omega (arith, need)) r consecutive

  -- Minute m is next, m + j calls, and n minutes are to come, enough for those before that one and for a whole queue after.
  pub called-named : (cs : List Call) (l : Queue) (m n j since : ℕ) → entries_of jobs.count l.waiting ≡ true
      → calls jobs (marks l.mark m j) (m + j) e ≡ true → j + k * jobs.count ≤ n → Runs jobs l cs → ConsecutiveTicksEvery k m n since cs → Names jobs e (up_to n cs)
  unfolding ticked behind popped
  called-named [] l m n j since g q h r consecutive = absurd (omega (arith, some, consecutive.0, whole e below))
  called-named (pop room ∷ cs) l m zero j since g q h r consecutive = absurd (omega (arith, some, whole e below))
  called-named (pop room ∷ cs) l m (suc n) j since g q h r consecutive =
      inr (called-named cs (popped l) m (suc n) j 0 (entries-behind jobs.count l.waiting g) q h r.1 consecutive)
  called-named (tick minute room ∷ cs) l m zero j since g q h r consecutive = absurd consecutive
  called-named (tick minute room ∷ cs) l m (suc n) zero since g q h r consecutive =
      let now : m + 0 ≡ minute = omega (arith, consecutive.1) in
      waits-named cs l minute (m + 1) n (since + 1) g (rw now at q) (omega arith) (omega (arith, consecutive.0)) (omega arith) r consecutive.2
  called-named (tick minute room ∷ cs) l m (suc n) (suc j) since g q h r consecutive =
      let next : m + suc j ≡ m + 1 + j = omega arith in
      let q' : calls jobs (marks (mark_after l.mark minute) (m + 1) j) (m + 1 + j) e ≡ true = rw (consecutive.1, ← next) q in
      called-named cs (ticked jobs minute l) (m + 1) n j (since + 1) (ticked-entries jobs l minute g) q' (omega arith) r consecutive.2
