-- What the calls do to a queue, said in other words than their definitions, for any jobs: who is queued after a call, in which order, and what the mark is.
-- Assumes nothing.
use mathlib.Core.Path.{◌≡◌, refl, sym, ap, ◌∙◌}
use mathlib.Core.Bool.{Bool, true, false, cond, not, ◌&&◌, ◌||◌, true≢false}
use mathlib.Core.Logic.{◌⊎◌, inl, inr}
use mathlib.Core.List.{List, [], ◌∷◌, ◌++◌}
use Prim.Native.Nat.{ℕ, zero, suc, ◌+◌, ◌≤◌, ◌<◌}
use native.Mathlib.Omega.{arith}
use lib.Dec.{ltb}
use borrow.Author.Tests.{le-leb, ltb-true, lt-ltb}
use Rattle.std.specs.Prelude.{None}
use Rattle.octets.specs.Passing.{passing}
use Rattle.calendar.specs.Dates.{last_minute}
use Rattle.schedule.specs.Jumps.{mark_after}
use Rattle.std.specs.Prelude.{Some, None as Nothing, Ok}
use Rattle.fifo.specs.Queues.{Queue, is_waiting, pick}
use Rattle.fifo.specs.Layout.{limit, queue_of, roomy, is_queue}
use Rattle.fifo.specs.Steps.{Jobs, fresh, init_step, calls, joins, joiners, ticked, tick_step, front, behind, popped, pop_step}
use Rattle.fifo.proofs.WaitingEntries.{waits-append, waits-pick, entries-behind}
use Rattle.fifo.proofs.Queues.{IsQueue, is-proper, queue-known, queue_of-laid, make-proper}
use Rattle.fifo.proofs.Calls.{fresh-proper, ticked-proper}

-- ---- in file order: rising, and none twice

passing-last : (p : ℕ → Bool) (n a : ℕ) → passing p (suc n) a ≡ passing p n a ++ cond (p (a + n)) ((a + n) ∷ []) []
unfolding passing
passing-last p zero a = let e : a + 0 ≡ a = omega arith in rw e
passing-last p (suc n) a = go (p a) (passing-last p n (suc a))
  where
    go : (b : Bool) → passing p (suc n) (suc a) ≡ passing p n (suc a) ++ cond (p (suc a + n)) ((suc a + n) ∷ []) []
        → cond b (a ∷ passing p (suc n) (suc a)) (passing p (suc n) (suc a))
        ≡ cond b (a ∷ passing p n (suc a)) (passing p n (suc a)) ++ cond (p (a + suc n)) ((a + suc n) ∷ []) []
    go b e = let s : a + suc n ≡ suc a + n = omega arith in rw s (last b e)
      where
        last : (b : Bool) → passing p (suc n) (suc a) ≡ passing p n (suc a) ++ cond (p (suc a + n)) ((suc a + n) ∷ []) []
            → cond b (a ∷ passing p (suc n) (suc a)) (passing p (suc n) (suc a))
            ≡ cond b (a ∷ passing p n (suc a)) (passing p n (suc a)) ++ cond (p (suc a + n)) ((suc a + n) ∷ []) []
        last true e = ap (λ (l : List ℕ). a ∷ l) e
        last false e = e

none-passing : (p : ℕ → Bool) → passing p 0 0 ≡ []
unfolding passing
none-passing p = refl

pub in-file-order : (p : ℕ → Bool) (n : ℕ) → pick p n ≡ passing p n 0
unfolding pick
in-file-order p zero = sym (none-passing p)
in-file-order p (suc n) = let e : 0 + n ≡ n = omega arith in rw (in-file-order p n, passing-last p n 0, e)

module _ (jobs : Jobs) (few : jobs.count < limit) (room : List ℕ) where
  -- a fresh queue has no mark and holds just the boot jobs
  pub init-leaves : roomy jobs.count room ≡ true → queue_of (init_step jobs room).room ≡ record { mark = None; waiting = passing jobs.boot jobs.count 0 }
  unfolding init_step fresh
  init-leaves enough = rw (enough, ← in-file-order jobs.boot jobs.count) (queue_of-laid jobs.count (fresh jobs) room few (fresh-proper jobs))

  module _ (queue : is_queue jobs.count room ≡ true) where
    abbrev queued : List ℕ
    queued = (queue_of room).waiting

    known : IsQueue jobs.count room
    known = queue-known jobs.count room queue

    -- ---- an announced minute

    module _ (minute : ℕ) (on : minute ≤ last_minute) where
      abbrev after : Queue
      after = queue_of (tick_step jobs minute room).room

      tick_is : after ≡ ticked jobs minute (queue_of room)
      unfolding tick_step
      tick_is =
          rw (queue, le-leb minute last_minute on)
          (queue_of-laid jobs.count (ticked jobs minute (queue_of room)) room few (ticked-proper jobs (queue_of room) minute on known.proper-is))

      -- those that were queued stay as they are, and those that join follow in file order
      pub tick-leaves : after ≡ record { mark = mark_after (queue_of room).mark minute; waiting = queued ++ passing (joins jobs minute (queue_of room)) jobs.count 0 }
      unfolding ticked joiners
      tick-leaves = tick_is ∙ rw (in-file-order (joins jobs minute (queue_of room)) jobs.count)

      waits : (e : ℕ) → is_waiting e after.waiting ≡ (is_waiting e queued || (ltb e jobs.count && joins jobs minute (queue_of room) e))
      unfolding ticked joiners
      waits e =
          ap (λ (l : Queue). is_waiting e l.waiting) tick_is
          ∙ waits-append e queued (pick (joins jobs minute (queue_of room)) jobs.count)
          ∙ rw (waits-pick (joins jobs minute (queue_of room)) jobs.count e)

      -- queued is who was queued, and every time-based entry that the minute calls; nobody else
      pub tick-queues : (e : ℕ)
          → (is_waiting e after.waiting ≡ true → (is_waiting e queued ≡ true) ⊎ ((e < jobs.count) × (jobs.boot e ≡ false) × (calls jobs (queue_of room).mark minute e ≡ true)))
          × (is_waiting e queued ≡ true → is_waiting e after.waiting ≡ true)
          × (e < jobs.count → jobs.boot e ≡ false → calls jobs (queue_of room).mark minute e ≡ true → is_waiting e after.waiting ≡ true)
      unfolding joins
      tick-queues e = rw (waits e) (go (is_waiting e queued) (ltb e jobs.count) refl (jobs.boot e) (calls jobs (queue_of room).mark minute e))
        where
          go : (q b : Bool) → ltb e jobs.count ≡ b → (t c : Bool)
              → ((q || (b && (not t && c && not q))) ≡ true → (q ≡ true) ⊎ ((e < jobs.count) × (t ≡ false) × (c ≡ true)))
              × (q ≡ true → (q || (b && (not t && c && not q))) ≡ true)
              × (e < jobs.count → t ≡ false → c ≡ true → (q || (b && (not t && c && not q))) ≡ true)
          go true b l t c = ((λ _. inl refl), (λ _. refl), (λ _ _ _. refl))
          go false true l false true = ((λ _. inr (ltb-true e jobs.count l, refl, refl)), (λ _. refl), (λ _ _ _. refl))
          go false true l false false = ((λ z. absurd (true≢false (sym z))), (λ z. z), (λ _ _ z. z))
          go false true l true c = ((λ z. absurd (true≢false (sym z))), (λ z. z), (λ _ z _. absurd (true≢false z)))
          go false false l t c = ((λ z. absurd (true≢false (sym z))), (λ z. z), (λ h _ _. sym l ∙ lt-ltb e jobs.count h))

    -- ---- a request

    pub pop-leaves : (e : ℕ) (l : List ℕ) → queued ≡ e ∷ l
        → ((pop_step jobs.count room).answer ≡ Ok (Some e)) × (queue_of (pop_step jobs.count room).room ≡ record { mark = (queue_of room).mark; waiting = l })
    unfolding pop_step popped front behind
    pop-leaves e l is =
        rw (queue, is) (
          refl,
          queue_of-laid jobs.count (record { mark = (queue_of room).mark; waiting = l }) room few
              (make-proper jobs.count (record { mark = (queue_of room).mark; waiting = l }) (is-proper jobs.count (queue_of room) known.proper-is).0 (rw is at (entries-behind jobs.count queued (is-proper jobs.count (queue_of room) known.proper-is).1))),
        )

    pub pop-nothing : queued ≡ [] → ((pop_step jobs.count room).answer ≡ Ok Nothing) × (queue_of (pop_step jobs.count room).room ≡ queue_of room)
    unfolding pop_step popped front behind
    pop-nothing is = rw (queue, is) (
      refl,
      queue_of-laid jobs.count (record { mark = (queue_of room).mark; waiting = [] }) room few
          (make-proper jobs.count (record { mark = (queue_of room).mark; waiting = [] }) (is-proper jobs.count (queue_of room) known.proper-is).0 (rw is at (is-proper jobs.count (queue_of room) known.proper-is).1)) ∙ rw (← is),
    )
