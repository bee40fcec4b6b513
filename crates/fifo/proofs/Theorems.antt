-- What is proved of the line in bytes and of lists of calls, for any jobs. The claims are in specs/Fairness, FairEvery, Waits,
-- RefusedCalls, Buffer and Steady; the lemmas in the files beside this one.
-- QueueChanges says in other words who is queued after each call and in which order: init-leaves, tick-leaves, tick-queues, pop-leaves, pop-nothing, in-file-order.
-- Refusing has an equation for each way that an answer can go: no-queue, look-says, no-queue-tick, off-tick, tick-says, init-short, init-says.
-- Assumes nothing.
use mathlib.Core.Path.{◌≡◌, refl, sym, ap, ◌∙◌}
use mathlib.Core.Bool.{Bool, true, false, cond, true≢false}
use mathlib.Core.List.{List, [], ◌∷◌}
use Prim.Native.Nat.{ℕ, zero, suc, ◌+◌, ◌-◌, ◌*◌, ◌≤◌, ◌<◌}
use native.Mathlib.Omega.{arith}
use lib.Dec.{leb}
use lib.ListN.{length, drop}
use borrow.Author.Tests.{le-leb}
use Rattle.std.specs.Prelude.{Option, Some, None, Result, Ok, Err}
use Rattle.refusal.specs.declared.Refusal.{Refusal}
use Rattle.refusal.specs.declared.Refusal.TheVariants.{NotOnCalendar, NotAQueue}
use Rattle.refusal.specs.Numbers.{number_of, IsRefusal}
use Rattle.refusal.proofs.Numbers.{number-small}
use Rattle.calendar.specs.Dates.{last_minute}
use Rattle.fifo.specs.Queues.{Queue, entries_of, proper}
use Rattle.fifo.specs.Layout.{limit, queue_of, stored, queue_size, roomy, is_queue}
use Rattle.fifo.specs.Steps.{Jobs, Step, fresh, init_step, joins, joiners, ticked, tick_step, front, behind, popped, pop_step, standing, entry_step}
use Rattle.fifo.specs.Fairness.{unrefused, CalledWithin, bound, FairFrom, Fair}
use Rattle.fifo.specs.RefusedCalls.{RefusedOnly}
use Rattle.fifo.specs.Buffer.{calls_on, buffer_after_all, started, FairInBuffer}
use Rattle.fifo.specs.Steady.{steady, SteadyPaced, FairSteady}
use Rattle.fifo.specs.FairEvery.{bound_every, FairEveryFrom, FairEvery, CalledEvery, SteadyEveryPaced}
use Rattle.fifo.proofs.WaitingEntries.{entries-cons, entries-behind, pick-length}
use Rattle.fifo.proofs.Queues.{is-queue, is-proper, make-proper, small-queue, queue_of-laid, is_queue-laid}
use Rattle.fifo.proofs.Calls.{fresh-proper, goes_on, expected-all}
use Rattle.fifo.proofs.Fair.{runs, runs-ticked, waits-named, called-named}
use Rattle.fifo.proofs.Steady.{every-from, steady-from}
-- minutes that are announced one by one outrun any hold
pub use Rattle.fifo.proofs.MarkCatchesUp.{held_stays, outrun, called-past-limit}
-- announced one by one, on a line that is emptied before each, they let just those join that they match
unfoldable pub use Rattle.fifo.proofs.SingleTicks.{is_called}
pub use Rattle.fifo.proofs.SingleTicks.{Before, fresh-queue, without, emptied-queue, emptied-is, announced-is, announced-queue, announced-mark, announced-waits}
-- a queued entry is named after those before it, and by the N-th request at the latest
pub use Rattle.fifo.proofs.Waits.{standing-in, waits-exactly, waits-at-most, called-waits, waits-every}
-- what calls on one buffer follow from: the queue that was made in it, or the one that is found there
pub use Rattle.fifo.proofs.Buffer.{buffer-follows, found-follows}
-- a request after each announcement, or every 1: the same
pub use Rattle.fifo.proofs.Fair.{consecutive-one, one-consecutive, consecutive-some}
-- where no minute calls anybody, nobody is named
pub use Rattle.fifo.proofs.Fair.{Runs}
pub use Rattle.fifo.proofs.NobodyCalled.{quiet, two_run}
-- lines of entries, and rooms that hold them
pub use Rattle.fifo.proofs.WaitingEntries.{entries-cons, entries-snoc, entries-length, waits-append, take_next}
pub use Rattle.fifo.proofs.Queues.{is-queue, make-proper, laid-queue}
pub use Rattle.fifo.proofs.Queues.{holds-laid}
pub use Rattle.fifo.proofs.Peek.{standing-at, entry-there}
-- init and tick over a set of those that are called, where it has just those of which the jobs speak
pub use Rattle.fifo.proofs.Filling.{init-called, tick-called}

-- eight bytes for each entry and 64 more are always room enough
pub room-enough : (n : ℕ) (s : List ℕ) → 8 * n + 64 ≤ length s → roomy n s ≡ true
unfolding roomy
room-enough n s h = le-leb (queue_size n) (length s) (omega arith)

-- ---- what a call of a table of n entries comes back with: no more than n join, and an entry that is named is one of them

abbrev pub TickedWithin : ℕ → Result ℕ Refusal → Type 0
TickedWithin n (Ok k) = k ≤ n
TickedWithin n (Err refusal) = IsRefusal (number_of refusal)

abbrev pub PoppedWithin : ℕ → Result (Option ℕ) Refusal → Type 0
PoppedWithin n (Ok (Some e)) = e < n
PoppedWithin n (Ok None) = Unit {0}
PoppedWithin n (Err refusal) = IsRefusal (number_of refusal)

pub init-within : (jobs : Jobs) (room : List ℕ) → TickedWithin jobs.count (init_step jobs room).answer
unfolding init_step fresh
init-within jobs room = go (roomy jobs.count room)
  where
    go : (b : Bool)
        → TickedWithin jobs.count
        (cond {A = Step (Result ℕ Refusal)} b (record { answer = Ok (length (fresh jobs).waiting); room = stored (fresh jobs) room }) (record { answer = Err NotAQueue; room = room })).answer
    go true = pick-length jobs.boot jobs.count
    go false = number-small NotAQueue

pub tick-within : (jobs : Jobs) (minute : ℕ) (room : List ℕ) → TickedWithin jobs.count (tick_step jobs minute room).answer
unfolding tick_step joiners
tick-within jobs minute room = go (is_queue jobs.count room) (leb minute last_minute)
  where
    go : (b c : Bool)
        → TickedWithin jobs.count
        (cond {A = Step (Result ℕ Refusal)} b
        (cond c
        (record { answer = Ok (length (joiners jobs minute (queue_of room))); room = stored (ticked jobs minute (queue_of room)) room })
        (record { answer = Err NotOnCalendar; room = room }))
        (record { answer = Err NotAQueue; room = room })
        ).answer
    go true true = pick-length (joins jobs minute (queue_of room)) jobs.count
    go true false = number-small NotOnCalendar
    go false c = number-small NotAQueue

front-within : (n : ℕ) (l : List ℕ) → entries_of n l ≡ true → PoppedWithin n (Ok (front l))
unfolding front
front-within n [] h = tt
front-within n (e ∷ l) h = (entries-cons n e l h).0

pub pop-within : (n : ℕ) (room : List ℕ) → PoppedWithin n (pop_step n room).answer
unfolding pop_step
pop-within n room = go (is_queue n room) refl
  where
    go : (b : Bool) → is_queue n room ≡ b
        → PoppedWithin n
        (cond {A = Step (Result (Option ℕ) Refusal)} b (record { answer = Ok (front (queue_of room).waiting); room = stored (popped (queue_of room)) room }) (record { answer = Err NotAQueue; room = room })).answer
    go true e = front-within n (queue_of room).waiting (is-queue n room e).1
    go false e = number-small NotAQueue

-- ---- a look at the line

entries-drop : (n place : ℕ) (l : List ℕ) → entries_of n l ≡ true → entries_of n (drop place l) ≡ true
entries-drop n zero l h = h
entries-drop n (suc place) [] h = h
entries-drop n (suc place) (e ∷ l) h = entries-drop n place l (entries-cons n e l h).2

pub entry-within : (n place : ℕ) (room : List ℕ) → PoppedWithin n (entry_step n place room)
unfolding entry_step standing
entry-within n place room = go (is_queue n room) refl
  where
    go : (b : Bool) → is_queue n room ≡ b → PoppedWithin n (cond b (Ok (front (drop place (queue_of room).waiting))) (Err NotAQueue))
    go true e = front-within n (drop place (queue_of room).waiting) (entries-drop n place (queue_of room).waiting (is-queue n room e).1)
    go false e = number-small NotAQueue

-- at place 0 stands who a request names
pub front-waits : (n : ℕ) (room : List ℕ) → entry_step n 0 room ≡ (pop_step n room).answer
unfolding entry_step standing pop_step
front-waits n room = go (is_queue n room)
  where
    go : (b : Bool)
        → cond b (Ok (front (queue_of room).waiting)) (Err NotAQueue)
        ≡ (cond {A = Step (Result (Option ℕ) Refusal)} b (record { answer = Ok (front (queue_of room).waiting); room = stored (popped (queue_of room)) room }) (record { answer = Err NotAQueue; room = room })).answer
    go true = refl
    go false = refl

behind-waits : (place : ℕ) (l : List ℕ) → standing place (behind l) ≡ standing (suc place) l
unfolding standing behind
behind-waits zero [] = refl
behind-waits (suc place) [] = refl
behind-waits place (e ∷ l) = refl

behind-proper : (n : ℕ) (room : List ℕ) → is_queue n room ≡ true → proper n (popped (queue_of room)) ≡ true
unfolding popped queue_of
behind-proper n room e =
    make-proper n (popped (queue_of room)) (is-queue n room e).0 (entries-behind n (queue_of room).waiting (is-queue n room e).1)

-- and a request moves everybody a place on
pub request-moves : (n place : ℕ) (room : List ℕ) → n < limit → is_queue n room ≡ true → entry_step n place (pop_step n room).room ≡ entry_step n (suc place) room
unfolding entry_step pop_step popped
request-moves n place room few e =
    rw (e, is_queue-laid n (popped l) room few proper-is (go (roomy n room) refl), queue_of-laid n (popped l) room few proper-is) (ap Ok (behind-waits place l.waiting))
  where
    l : Queue
    l = queue_of room

    proper-is : proper n (popped l) ≡ true
    proper-is = behind-proper n room e

    go : (b : Bool) → roomy n room ≡ b → b ≡ true
    go true r = refl
    go false r = absurd (true≢false (sym e ∙ small-queue n room r))

-- ---- a refused call leaves the room as it was

pub init-stays : (jobs : Jobs) (room : List ℕ) (why : Refusal) → (init_step jobs room).answer ≡ Err why → (init_step jobs room).room ≡ room
unfolding init_step
init-stays jobs room why = go (roomy jobs.count room)
  where
    go : (b : Bool)
        → let s : Step (Result ℕ Refusal) =
        cond b (record { answer = Ok (length (fresh jobs).waiting); room = stored (fresh jobs) room }) (record { answer = Err NotAQueue; room = room })
        in
        s.answer ≡ Err why → s.room ≡ room
    go true e = absurd (let z : ◌≡◌ {A = ℕ} 0 1 = cc in omega arith)
    go false e = refl

pub tick-stays : (jobs : Jobs) (minute : ℕ) (room : List ℕ) (why : Refusal)
    → (tick_step jobs minute room).answer ≡ Err why → (tick_step jobs minute room).room ≡ room
unfolding tick_step
tick-stays jobs minute room why = go (is_queue jobs.count room) (leb minute last_minute)
  where
    go : (b c : Bool)
        → let s : Step (Result ℕ Refusal) =
        cond b
        (cond c
        (record { answer = Ok (length (joiners jobs minute (queue_of room))); room = stored (ticked jobs minute (queue_of room)) room })
        (record { answer = Err NotOnCalendar; room = room }))
        (record { answer = Err NotAQueue; room = room })
        in
        s.answer ≡ Err why → s.room ≡ room
    go true true e = absurd (let z : ◌≡◌ {A = ℕ} 0 1 = cc in omega arith)
    go true false e = refl
    go false c e = refl

pub pop-stays : (count : ℕ) (room : List ℕ) (why : Refusal) → (pop_step count room).answer ≡ Err why → (pop_step count room).room ≡ room
unfolding pop_step
pop-stays count room why = go (is_queue count room)
  where
    go : (b : Bool)
        → let s : Step (Result (Option ℕ) Refusal) =
        cond b (record { answer = Ok (front (queue_of room).waiting); room = stored (popped (queue_of room)) room }) (record { answer = Err NotAQueue; room = room })
        in
        s.answer ≡ Err why → s.room ≡ room
    go true e = absurd (let z : ◌≡◌ {A = ℕ} 0 1 = cc in omega arith)
    go false e = refl

-- ---- fairness

-- an entry that a minute calls soon is named in time, from any queue, where a request comes every k announcements
pub fair-every-from : FairEveryFrom
unfolding CalledWithin
fair-every-from jobs k gap e t l second h below timed soon good follows consecutive =
    let (j, within, called) = soon l.mark in
    called-named jobs e k (consecutive-some k (unrefused jobs second) (t + 1) (bound_every jobs k gap) 0 consecutive) below timed (unrefused jobs second) l (t + 1) (bound_every jobs k gap) j 0
    (is-proper jobs.count l good).1 called (omega arith) (runs jobs h second l good follows) consecutive

pub fair-every : FairEvery
fair-every jobs k gap e t first second h below timed soon follows consecutive =
    let (l, good, goes) = goes_on jobs h first second (fresh jobs) (fresh-proper jobs) follows in
    fair-every-from jobs k gap e t l second h below timed soon good goes consecutive

pub called-every : CalledEvery
called-every jobs k e minute l room second h below timed called good follows taken consecutive =
    let n = k * jobs.count - 1 in
    let some = consecutive-some k (unrefused jobs second) (minute + 1) n 1 consecutive in
    waits-named jobs e k some below timed (unrefused jobs second) l minute (minute + 1) n 1 (is-proper jobs.count l good).1 called (omega arith) (omega arith)
    (omega arith) (runs-ticked jobs h minute room second l good follows taken) consecutive

-- with k = 1 it is the demand, from any queue
pub fair-from : FairFrom
fair-from jobs gap e t l second h below timed soon good follows consecutive =
    let same : bound_every jobs 1 gap ≡ bound jobs gap = omega arith in
    let every = rw (← same) at (consecutive-one (unrefused jobs second) (t + 1) (bound jobs gap) true consecutive) in
    rw same at (fair-every-from jobs 1 gap e t l second h below timed soon good follows every)

-- from the fresh line
pub fair : Fair
fair jobs gap e t first second h below timed soon follows consecutive =
    let (l, good, goes) = goes_on jobs h first second (fresh jobs) (fresh-proper jobs) follows in
    fair-from jobs gap e t l second h below timed soon good goes consecutive

-- a call is refused only for too little room or for a minute off the calendar
pub refused-only : RefusedOnly
refused-only jobs cs h f = expected-all jobs h cs (fresh jobs) (fresh-proper jobs) f

-- in one buffer
pub fair-in-buffer : FairInBuffer
fair-in-buffer jobs gap e t size buffer first second h below timed soon r consecutive =
    let b = started jobs size buffer in
    fair jobs gap e t (calls_on jobs b first) (calls_on jobs (buffer_after_all jobs b first) second) h below timed soon (buffer-follows jobs h size buffer r first second) consecutive

-- the steady lists are paced as the demand has it, and none of their calls is refused
pub steady-every-consecutive : SteadyEveryPaced
steady-every-consecutive jobs k t n size buffer first h r b some = every-from jobs h size buffer r k t n first b some

pub steady-consecutive : SteadyPaced
steady-consecutive jobs t n size buffer first h r b = steady-from jobs h size buffer r t n first b

-- in the steady list
pub fair-steady : FairSteady
fair-steady jobs gap e t size buffer first h below timed soon r end =
    let p = steady-consecutive jobs t (bound jobs gap) size buffer first h r end in
    rw p.0 at (fair-in-buffer jobs gap e t size buffer first (steady size (t + 1) (bound jobs gap)) h below timed soon r (rw p.0 p.1))
