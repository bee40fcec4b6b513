-- Q2, Q3: the count is the growth of the queue. What a fresh queue and an announcement answer is how many entries more are queued after it.
-- Assumes nothing.
use mathlib.Core.Path.{◌≡◌, refl, ap, ◌∙◌}
use mathlib.Core.Bool.{Bool, true, false, cond}
use mathlib.Core.List.{List, ◌++◌}
use Prim.Native.Nat.{ℕ, ◌+◌, ◌<◌}
use native.Mathlib.Omega.{arith}
use lib.Dec.{leb}
use lib.ListN.{length, length-append}
use borrow.Author.Tests.{leb-true}
use Rattle.refusal.specs.declared.Refusal.{Refusal}
use Rattle.refusal.specs.declared.Refusal.TheVariants.{NotOnCalendar, NotAQueue}
use Rattle.calendar.specs.Dates.{last_minute}
use Rattle.std.specs.Prelude.{Result, Ok, Err}
use Rattle.fifo.specs.Queues.{Queue, proper}
use Rattle.fifo.specs.Layout.{limit}
use Rattle.fifo.specs.Layout.{queue_of, stored, roomy, is_queue}
use Rattle.fifo.specs.Steps.{Jobs, Step, fresh, init_step, joiners, ticked, tick_step}
use Rattle.fifo.proofs.Queues.{is-queue, make-proper, queue_of-laid}
use Rattle.fifo.proofs.Calls.{fresh-proper, ticked-proper}

joined_is : (n k : ℕ) → ◌≡◌ {A = Result ℕ Refusal} (Ok n) (Ok k) → n ≡ k
joined_is n k e = cc

queue-proper : (n : ℕ) (room : List ℕ) → is_queue n room ≡ true → proper n (queue_of room) ≡ true
unfolding queue_of
queue-proper n room is = make-proper n (queue_of room) (is-queue n room is).0 (is-queue n room is).1

module _ (jobs : Jobs) (few : jobs.count < limit) (room : List ℕ) (k : ℕ) where
  -- as many are queued, whatever the bytes held
  pub init-counts : (init_step jobs room).answer ≡ Ok k → length (queue_of (init_step jobs room).room).waiting ≡ k
  unfolding init_step
  init-counts = go (roomy jobs.count room)
    where
      go : (b : Bool)
          → let s : Step (Result ℕ Refusal) =
          cond b (record { answer = Ok (length (fresh jobs).waiting); room = stored (fresh jobs) room }) (record { answer = Err NotAQueue; room = room })
          in
          s.answer ≡ Ok k → length (queue_of s.room).waiting ≡ k
      go true e = ap (λ (l : Queue). length l.waiting) (queue_of-laid jobs.count (fresh jobs) room few (fresh-proper jobs)) ∙ joined_is (length (fresh jobs).waiting) k e
      go false e = absurd (let z : ◌≡◌ {A = ℕ} 0 1 = cc in omega arith)

  -- those that were queued come first, as they were, and as many more after them
  pub tick-counts : (minute : ℕ) → (tick_step jobs minute room).answer ≡ Ok k
      → (more : List ℕ) × (length more ≡ k) × ((queue_of (tick_step jobs minute room).room).waiting ≡ (queue_of room).waiting ++ more)
  unfolding tick_step ticked
  tick-counts minute = go (is_queue jobs.count room) refl (leb minute last_minute) refl
    where
      go : (b : Bool) → is_queue jobs.count room ≡ b → (c : Bool) → leb minute last_minute ≡ c
          → let s : Step (Result ℕ Refusal) =
          cond b
          (cond c
          (record { answer = Ok (length (joiners jobs minute (queue_of room))); room = stored (ticked jobs minute (queue_of room)) room })
          (record { answer = Err NotOnCalendar; room = room }))
          (record { answer = Err NotAQueue; room = room })
          in
          s.answer ≡ Ok k → (more : List ℕ) × (length more ≡ k) × ((queue_of s.room).waiting ≡ (queue_of room).waiting ++ more)
      go true is true on e =
          let after = ticked-proper jobs (queue_of room) minute (leb-true minute last_minute on) (queue-proper jobs.count room is) in (
            joiners jobs minute (queue_of room),
            joined_is (length (joiners jobs minute (queue_of room))) k e,
            ap (λ (x : Queue). x.waiting) (queue_of-laid jobs.count (ticked jobs minute (queue_of room)) room few after),
          )
      go true is false on e = absurd (let z : ◌≡◌ {A = ℕ} 0 1 = cc in omega arith)
      go false is c on e = absurd (let z : ◌≡◌ {A = ℕ} 0 1 = cc in omega arith)

-- used: 65,535 boot entries of as many jobs, and a queue that grows by 65,535
pub counts-65535 : (jobs : Jobs) (room : List ℕ) → jobs.count ≡ 65535
    → ((init_step jobs room).answer ≡ Ok 65535 → length (queue_of (init_step jobs room).room).waiting ≡ 65535)
    × ((tick_step jobs 4223371679 room).answer ≡ Ok 65535 → length (queue_of (tick_step jobs 4223371679 room).room).waiting ≡ length (queue_of room).waiting + 65535)
counts-65535 jobs room all = (
  init-counts jobs (omega (arith, all)) room 65535,
  (λ e.
      let (more, is, queue) = tick-counts jobs (omega (arith, all)) room 65535 4223371679 e in
      ap length queue ∙ length-append (queue_of room).waiting more ∙ omega (arith, is)),
)
