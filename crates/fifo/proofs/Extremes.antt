-- The theorems of calls used at their edges: as many jobs as a queue can number, the last of them, and a first list of calls. An added hypothesis, or a
-- part less of a conclusion, breaks one of these.
-- Assumes nothing.
use mathlib.Core.Path.{◌≡◌, sym, subst, ◌∙◌}
use mathlib.Core.Bool.{true, false}
use mathlib.Core.List.{List, [], ◌∷◌}
use Prim.Native.Nat.{ℕ, ◌+◌, ◌≤◌, ◌<◌}
use native.Mathlib.Omega.{arith}
use lib.ListN.{length}
use Rattle.std.specs.Prelude.{Option, Some, Ok}
use Rattle.fifo.specs.Queues.{Queue, is_waiting, proper}
use Rattle.fifo.specs.Layout.{roomy, is_queue}
use Rattle.fifo.specs.Steps.{Jobs, fresh, calls, pop_step, standing, entry_step}
use Rattle.fifo.specs.Fairness.{Call, tick, pop, refusal, unrefused, Follows, ConsecutiveTicks, up_to, Names, CalledWithin}
use Rattle.fifo.specs.FairEvery.{ConsecutiveTicksEvery}
use Rattle.fifo.specs.RefusedCalls.{expected}
use Rattle.fifo.specs.Waits.{requests, up_to_request}
use Rattle.fifo.proofs.Theorems.{room-enough, fair, fair-every, refused-only, waits-exactly, waits-at-most, front-waits, request-moves}

module _ (jobs : Jobs) (all : jobs.count ≡ 65535) where
  -- The last of 65,535 jobs, after an announcement and a request: if the minute after t calls it, whatever the mark, it is named by the first request
  -- after 1 + 65,535 - 1 minutes; with a request every two announcements, after 1 + 2 * 65,535 - 1.
  pub fair-65534 : (t : ℕ) (one two : List ℕ) (second : List Call)
      → jobs.boot 65534 ≡ false → ((mark : Option ℕ) → calls jobs mark (t + 1) 65534 ≡ true)
      → Follows jobs (fresh jobs) (tick 4223371679 one ∷ pop two ∷ second)
      → (ConsecutiveTicks (t + 1) 65535 true (unrefused jobs second) → Names jobs 65534 (up_to 65535 (unrefused jobs second)))
      × (ConsecutiveTicksEvery 2 (t + 1) 131070 0 (unrefused jobs second) → Names jobs 65534 (up_to 131070 (unrefused jobs second)))
  unfolding CalledWithin
  fair-65534 t one two second timed called follows =
      let first = tick 4223371679 one ∷ pop two ∷ [] in
      let soon : CalledWithin jobs 1 65534 t = (λ mark. (0, omega arith, rw (let z : t + 1 + 0 ≡ t + 1 = omega arith in z) (called mark))) in (
        subst (λ (n : ℕ). ConsecutiveTicks (t + 1) n true (unrefused jobs second) → Names jobs 65534 (up_to n (unrefused jobs second))) (omega (arith, all))
            (fair jobs 1 65534 t first second (omega (arith, all)) (omega (arith, all)) timed soon follows),
        subst (λ (n : ℕ). ConsecutiveTicksEvery 2 (t + 1) n 0 (unrefused jobs second) → Names jobs 65534 (up_to n (unrefused jobs second))) (omega (arith, all))
            (fair-every jobs 2 1 65534 t first second (omega (arith, all)) (omega (arith, all)) timed soon follows),
      )

  -- at the last place: none of 65,534 requests names it, the next one does
  pub waits-65534 : (e : ℕ) (l : Queue) (cs : List Call)
      → proper 65535 l ≡ true → standing 65534 l.waiting ≡ Some e → Follows jobs l cs
      → (Names jobs e (up_to_request 65534 (unrefused jobs cs)) → ⊥)
      × (65534 < requests (unrefused jobs cs) → Names jobs e (up_to_request 65535 (unrefused jobs cs)))
  waits-65534 e l cs good at follows = waits-exactly jobs e 65534 l cs (omega (arith, all)) (rw all good) at follows

  pub waits-by-65535 : (e : ℕ) (l : Queue) (cs : List Call)
      → proper 65535 l ≡ true → is_waiting e l.waiting ≡ true → Follows jobs l cs
      → 65535 ≤ requests (unrefused jobs cs) → Names jobs e (up_to_request 65535 (unrefused jobs cs))
  waits-by-65535 e l cs good in-it follows = subst (λ (n : ℕ). n ≤ requests (unrefused jobs cs) → Names jobs e (up_to_request n (unrefused jobs cs))) all
      (waits-at-most jobs e l cs (omega (arith, all)) (rw all good) in-it follows)

  -- of two calls each is refused for its room or its minute, and for nothing else
  pub refused-two : (m : ℕ) (one two : List ℕ) → Follows jobs (fresh jobs) (tick m one ∷ pop two ∷ [])
      → (refusal jobs (tick m one) ≡ expected jobs (tick m one)) × (refusal jobs (pop two) ≡ expected jobs (pop two))
  refused-two m one two follows = let x = refused-only jobs (tick m one ∷ pop two ∷ []) (omega (arith, all)) follows in (x.0, x.1.0)

-- who is at place 1 is named by the second request, and who is at place 65,534 moves on
pub moves-65534 : (room : List ℕ) (e : ℕ) → is_queue 65535 room ≡ true
    → (entry_step 65535 1 room ≡ Ok (Some e) → (pop_step 65535 (pop_step 65535 room).room).answer ≡ Ok (Some e))
    × (entry_step 65535 65534 room ≡ Ok (Some e) → entry_step 65535 65533 (pop_step 65535 room).room ≡ Ok (Some e))
moves-65534 room e queue = (
  (λ at. sym (front-waits 65535 (pop_step 65535 room).room) ∙ request-moves 65535 0 room (omega arith) queue ∙ at),
  (λ at. request-moves 65535 65533 room (omega arith) queue ∙ at),
)

-- eight bytes for each entry and 64 more, for as many entries as a queue can number
pub enough-65535 : (s : List ℕ) → 524344 ≤ length s → roomy 65535 s ≡ true
enough-65535 s h = room-enough 65535 s (omega arith)
