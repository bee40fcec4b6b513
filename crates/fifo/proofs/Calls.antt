-- What a call does in a list that goes on from a line of entries: it is refused as it should be and leaves the room, or it
-- leaves the line that it should.
-- Assumes nothing.
use mathlib.Core.Path.{◌≡◌, refl, sym, ap, ◌∙◌}
use mathlib.Core.Logic.{◌⊎◌, inl, inr}
use mathlib.Core.Bool.{Bool, true, false, cond}
use mathlib.Core.List.{List, [], ◌∷◌, ◌++◌}
use Prim.Native.Nat.{ℕ, ◌≤◌, ◌<◌}
use native.Mathlib.Nat.{le_refl}
use lib.Dec.{leb}
use lib.Seq.{drop-append_seam}
use borrow.Author.Tests.{leb-true}
use Rattle.std.specs.Prelude.{Ok}
use Rattle.refusal.specs.Numbers.{number_of}
use Rattle.octets.specs.OverFront as front
use Rattle.calendar.specs.Dates.{last_minute}
use Rattle.schedule.proofs.Theorems.{mark-stays}
use Rattle.fifo.specs.Queues.{Queue, is_waiting, entries_of, proper}
use Rattle.fifo.specs.Layout.{limit, queue_of, image, stored, roomy, is_queue}
use Rattle.fifo.specs.Refusals.{tick_refusal, pop_refusal}
use Rattle.fifo.specs.Steps.{Jobs, fresh, joins, joiners, ticked, tick_step, front, popped, pop_step}
use Rattle.fifo.specs.Fairness.{Call, tick, pop, room_of, room_after, refusal, is_refused, queue_after, Holds, Follows}
use Rattle.fifo.specs.RefusedCalls.{expected, Expected}
use Rattle.fifo.proofs.WaitingEntries.{entries-behind, entries-pick}
use Rattle.fifo.proofs.Filling.{joins-new}
use Rattle.fifo.proofs.Queues.{queue_of-laid, is_queue-laid, small-queue, is-proper, make-proper}

-- ---- rooms that hold a line

pub holds-front : (l : Queue) (s : List ℕ) → Holds l (image l ++ s)
unfolding stored front.over_front
holds-front l s = rw (drop-append_seam (image l) s)

module _ (n : ℕ) (l : Queue) (room : List ℕ) (h : n < limit) (e : proper n l ≡ true) (held : Holds l room) where
  pub holds-queue : queue_of room ≡ l
  holds-queue = ap queue_of (sym held) ∙ queue_of-laid n l room h e

  pub holds-is : roomy n room ≡ true → is_queue n room ≡ true
  holds-is r = ap (is_queue n) (sym held) ∙ is_queue-laid n l room h e r

-- ---- lines of entries stay so

pub fresh-proper : (jobs : Jobs) → proper jobs.count (fresh jobs) ≡ true
unfolding fresh entries_of is_waiting
fresh-proper jobs = make-proper jobs.count (fresh jobs) refl (entries-pick jobs.count [] jobs.boot (λ e q. refl) refl jobs.count (le_refl jobs.count))

module _ (jobs : Jobs) (l : Queue) where
  pub ticked-entries : (minute : ℕ) → entries_of jobs.count l.waiting ≡ true → entries_of jobs.count (ticked jobs minute l).waiting ≡ true
  unfolding ticked joiners
  ticked-entries minute e =
      entries-pick jobs.count l.waiting (joins jobs minute l) (joins-new jobs minute l) e jobs.count (le_refl jobs.count)

  pub ticked-proper : (minute : ℕ) → minute ≤ last_minute → proper jobs.count l ≡ true → proper jobs.count (ticked jobs minute l) ≡ true
  unfolding ticked
  ticked-proper minute on e =
      let p = is-proper jobs.count l e in
      make-proper jobs.count (ticked jobs minute l) (mark-stays l.mark minute p.0 on) (ticked-entries minute p.1)

  popped-proper : proper jobs.count l ≡ true → proper jobs.count (popped l) ≡ true
  unfolding popped
  popped-proper e =
      let p = is-proper jobs.count l e in
      make-proper jobs.count (popped l) p.0 (entries-behind jobs.count l.waiting p.1)

-- ---- one call

-- the line that a call leaves, if it isn't refused
unfoldable pub effect : Jobs → Queue → Call → Queue
effect jobs l (tick minute room) = ticked jobs minute l
effect jobs l (pop room) = popped l

-- what an unrefused request answers
abbrev pub Answered : Jobs → Queue → Call → Type 0
Answered jobs l (tick minute room) = Unit {0}
Answered jobs l (pop room) = (pop_step jobs.count room).answer ≡ Ok (front l.waiting)

pub record Undone (jobs : Jobs) (c : Call) : Type 0 where
  pub was : is_refused jobs c ≡ true
  pub why : refusal jobs c ≡ expected jobs c
  pub room : room_after jobs c ≡ room_of c

pub record Done (jobs : Jobs) (l : Queue) (c : Call) : Type 0 where
  pub was : is_refused jobs c ≡ false
  pub why : refusal jobs c ≡ expected jobs c
  pub room : room_after jobs c ≡ stored (effect jobs l c) (room_of c)
  pub answer : Answered jobs l c
  -- the line that it leaves is one of the jobs
  pub leaves : proper jobs.count (effect jobs l c) ≡ true

module _ (jobs : Jobs) (h : jobs.count < limit) (l : Queue) (e : proper jobs.count l ≡ true) where
  tick-outcome : (minute : ℕ) (room : List ℕ) → (roomy jobs.count room ≡ true → Holds l room)
      → Undone jobs (tick minute room) ⊎ Done jobs l (tick minute room)
  unfolding is_refused refusal room_after room_of expected tick_step tick_refusal effect number_of
  tick-outcome minute room f = go (roomy jobs.count room) refl (leb minute last_minute) refl
    where
      go : (b : Bool) → roomy jobs.count room ≡ b → (d : Bool) → leb minute last_minute ≡ d
          → Undone jobs (tick minute room) ⊎ Done jobs l (tick minute room)
      go false r d q =
          let i = small-queue jobs.count room r in
          inl (record { was = rw i; why = rw (i, r); room = rw (i, room_after) })
      go true r false q =
          let i = holds-is jobs.count l room h e (f r) r in
          inl (record { was = rw (i, q); why = rw (i, q, r); room = rw (i, q, room_after) })
      go true r true q =
          let i = holds-is jobs.count l room h e (f r) r in
          let k = holds-queue jobs.count l room h e (f r) in
          inr (record { was = rw (i, q); why = rw (i, q, r); room = rw (i, q, k, room_after); answer = tt; leaves = ticked-proper jobs l minute (leb-true minute last_minute q) e })

  pop-outcome : (room : List ℕ) → (roomy jobs.count room ≡ true → Holds l room) → Undone jobs (pop room) ⊎ Done jobs l (pop room)
  unfolding is_refused refusal room_after room_of expected pop_step pop_refusal front effect number_of
  pop-outcome room f = go (roomy jobs.count room) refl
    where
      front-is : (k : List ℕ) → pop_refusal (Ok (front k)) ≡ 0
      front-is [] = refl
      front-is (x ∷ k) = refl

      go : (b : Bool) → roomy jobs.count room ≡ b → Undone jobs (pop room) ⊎ Done jobs l (pop room)
      go false r =
          let i = small-queue jobs.count room r in
          inl (record { was = rw i; why = rw (i, r); room = rw (i, room_after) })
      go true r =
          let i = holds-is jobs.count l room h e (f r) r in
          let k = holds-queue jobs.count l room h e (f r) in
          inr (record { was = rw (i, front-is (queue_of room).waiting); why = rw (i, r, front-is (queue_of room).waiting); room = rw (i, k, room_after); answer = rw (i, k); leaves = popped-proper jobs l e })

  pub outcome : (c : Call) → (roomy jobs.count (room_of c) ≡ true → Holds l (room_of c)) → Undone jobs c ⊎ Done jobs l c
  unfolding room_of
  outcome (tick minute room) f = tick-outcome minute room f
  outcome (pop room) f = pop-outcome room f

-- ---- lists of calls

module _ (jobs : Jobs) (h : jobs.count < limit) where
  -- the line after a call is one of the jobs again
  pub after-proper : (l : Queue) (c : Call) → proper jobs.count l ≡ true → (roomy jobs.count (room_of c) ≡ true → Holds l (room_of c))
      → proper jobs.count (queue_after jobs l c) ≡ true
  unfolding queue_after
  after-proper l c e f = elim (outcome jobs h l e c f) [ inl u ↦ rw u.was e | inr d ↦ done d ]
    where
      done : Done jobs l c → proper jobs.count (cond (is_refused jobs c) l (queue_of (room_after jobs c))) ≡ true
      done d = rw (d.was, d.room, queue_of-laid jobs.count (effect jobs l c) (room_of c) h d.leaves) d.leaves

  -- a second list goes on from some line of the jobs
  pub goes_on : (first second : List Call) (l : Queue) → proper jobs.count l ≡ true → Follows jobs l (first ++ second)
      → (k : Queue) × (proper jobs.count k ≡ true) × Follows jobs k second
  goes_on [] second l e f = (l, e, f)
  goes_on (c ∷ cs) second l e f = goes_on cs second (queue_after jobs l c) (after-proper l c e f.0) f.1

  -- each call is refused just as it should be
  pub expected-all : (cs : List Call) (l : Queue) → proper jobs.count l ≡ true → Follows jobs l cs → Expected jobs cs
  expected-all [] l e f = tt
  expected-all (c ∷ cs) l e f = (
    elim (outcome jobs h l e c f.0) [ inl u ↦ u.why | inr d ↦ d.why ],
    expected-all cs (queue_after jobs l c) (after-proper l c e f.0) f.1,
  )
