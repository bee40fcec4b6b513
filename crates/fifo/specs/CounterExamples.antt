-- What the claims about calls are made of, where it doesn't hold: each word is refused for each of its parts.
-- Assumes nothing.
use Rattle.std.specs.Prelude.{◌≡◌, refl, true, false, List, [], ◌∷◌, ℕ, zero, suc, ◌+◌, ◌<◌, get_or, replicate, Some, None}
use Rattle.std.proofs.Common.{sym, ap, true≢false, inl, inr, arith}
use Rattle.refusal.specs.Numbers.{number_of}
use Rattle.fifo.specs.Steps.{Jobs, fresh, calls}
use Rattle.fifo.specs.Refusals.{tick_refusal, pop_refusal}
use Rattle.fifo.specs.Fairness.{tick, pop, room_of, refusal, is_refused, queue_after, Holds, Follows, ConsecutiveTicks, Names, marks, CalledWithin}
use Rattle.fifo.specs.RefusedCalls.{expected, Expected}
use Rattle.fifo.specs.Examples.{running}

-- No request between two announcements, or after the last; another minute, first or later; one too few, and one too many.
not-consecutive :
    (ConsecutiveTicks 5 2 true (tick 5 [] ∷ tick 6 [] ∷ pop [] ∷ []) → ⊥)
    × (ConsecutiveTicks 5 1 true (tick 5 [] ∷ []) → ⊥)
    × (ConsecutiveTicks 5 1 false (tick 5 [] ∷ pop [] ∷ []) → ⊥)
    × (ConsecutiveTicks 5 1 true (tick 6 [] ∷ pop [] ∷ []) → ⊥)
    × (ConsecutiveTicks 5 2 true (tick 5 [] ∷ pop [] ∷ tick 5 [] ∷ pop [] ∷ []) → ⊥)
    × (ConsecutiveTicks 5 2 true (tick 5 [] ∷ pop [] ∷ []) → ⊥)
    × (ConsecutiveTicks 5 1 true (tick 5 [] ∷ pop [] ∷ tick 6 [] ∷ pop [] ∷ []) → ⊥)
not-consecutive = (
  (λ p. true≢false (sym p.2.0)),
  (λ p. true≢false (sym p.2.1)),
  (λ p. true≢false (sym p.0)),
  (λ p. omega (arith, p.1)),
  (λ p. omega (arith, p.2.1)),
  (λ p. omega (arith, p.2.0)),
  (λ p. p.2),
)

-- ---- two jobs, both fixed and of every minute

two : Jobs
two = record { count = 2; boot = λ e. false; fixed = λ e. true; matches = λ e minute. true }

-- the bytes of a queue with a mark's number and entries, and other bytes after it
abbrev bytes : ℕ → List ℕ → List ℕ
bytes mark rest = 69 ∷ 82 ∷ 81 ∷ 49 ∷ mark ∷ 0 ∷ 0 ∷ 0 ∷ rest

-- another mark, another count, another entry, another order, another format number
not-held :
    (Holds (record { mark = Some 4; waiting = 1 ∷ 0 ∷ [] }) (bytes 6 (2 ∷ 0 ∷ 1 ∷ 0 ∷ 0 ∷ 0 ∷ [])) → ⊥)
    × (Holds (record { mark = None; waiting = 1 ∷ 0 ∷ [] }) (bytes 1 (2 ∷ 0 ∷ 1 ∷ 0 ∷ 0 ∷ 0 ∷ [])) → ⊥)
    × (Holds (record { mark = Some 4; waiting = 1 ∷ [] }) (bytes 5 (2 ∷ 0 ∷ 1 ∷ 0 ∷ 0 ∷ 0 ∷ [])) → ⊥)
    × (Holds (record { mark = Some 4; waiting = 1 ∷ 0 ∷ [] }) (bytes 5 (2 ∷ 0 ∷ 0 ∷ 0 ∷ 1 ∷ 0 ∷ [])) → ⊥)
    × (Holds (record { mark = Some 4; waiting = 257 ∷ [] }) (bytes 5 (1 ∷ 0 ∷ 1 ∷ 0 ∷ 7 ∷ 7 ∷ [])) → ⊥)
    × (Holds (record { mark = None; waiting = [] }) (replicate 14 0) → ⊥)
unfolding running
not-held = (
  (λ h. omega (arith, ap (λ (l : List ℕ). get_or l 4 0) h)),
  (λ h. omega (arith, ap (λ (l : List ℕ). get_or l 4 0) h)),
  (λ h. omega (arith, ap (λ (l : List ℕ). get_or l 8 0) h)),
  (λ h. omega (arith, ap (λ (l : List ℕ). get_or l 10 0) h)),
  (λ h. omega (arith, ap (λ (l : List ℕ). get_or l 11 0) h)),
  (λ h. omega (arith, ap (λ (l : List ℕ). get_or l 0 0) h)),
)

-- The first call, and one after it, whose buffer holds another queue than the last one left: minute 4 queues both entries.
not-following :
    (Follows two (fresh two) (pop (bytes 0 (1 ∷ 0 ∷ 1 ∷ 0 ∷ 0 ∷ 0 ∷ [])) ∷ []) → ⊥)
    × (Follows two (fresh two) (tick 4 (bytes 0 (0 ∷ 0 ∷ 7 ∷ 7 ∷ 7 ∷ 7 ∷ [])) ∷ pop (bytes 0 (0 ∷ 0 ∷ 7 ∷ 7 ∷ 7 ∷ 7 ∷ [])) ∷ []) → ⊥)
unfolding two running room_of queue_after is_refused refusal tick_refusal pop_refusal number_of
not-following = (
  (λ f. omega (arith, ap (λ (l : List ℕ). get_or l 8 0) (f.0 refl))),
  (λ f. omega (arith, ap (λ (l : List ℕ). get_or l 8 0) (f.1.0 refl))),
)

-- A fixed entry isn't called soon where a mark holds it back, though every minute matches; nor is one within no minutes.
not-soon : (CalledWithin two 1 0 4 → ⊥) × (CalledWithin two 0 0 4 → ⊥)
unfolding two running CalledWithin
not-soon = ((λ s. held (s (Some 10))), (λ s. let (j, h, c) = s None in omega arith))
  where
    held : (j : ℕ) × (j < 1) × (calls two (marks (Some 10) 5 j) (5 + j) 0 ≡ true) → ⊥
    held (zero, h, c) = true≢false (sym c)
    held (suc j, h, c) = omega arith

-- no call names an entry, an announcement doesn't, and a request only the front
not_named :
    (Names two 0 [] → ⊥)
    × (Names two 0 (tick 4 (bytes 0 (1 ∷ 0 ∷ 0 ∷ 0 ∷ 7 ∷ 7 ∷ [])) ∷ []) → ⊥)
    × (Names two 0 (pop (bytes 0 (2 ∷ 0 ∷ 1 ∷ 0 ∷ 0 ∷ 0 ∷ [])) ∷ []) → ⊥)
    × (Names two 0 (pop (bytes 0 (0 ∷ 0 ∷ 0 ∷ 0 ∷ 0 ∷ 0 ∷ [])) ∷ []) → ⊥)
unfolding two running
not_named = (
  (λ n. n),
  (λ n. n),
  (λ n. elim n [ inl e ↦ absurd (let z : ◌≡◌ {A = ℕ} 1 0 = cc in omega arith) | inr e ↦ e ]),
  (λ n. elim n [ inl e ↦ absurd (let z : ◌≡◌ {A = ℕ} 1 0 = cc in omega arith) | inr e ↦ e ]),
)

-- the first call, and a later one, refused for bytes that hold no queue
not-expected :
    (Expected two (tick 4 (replicate 14 0) ∷ []) → ⊥) × (Expected two (pop (bytes 0 (0 ∷ 0 ∷ 0 ∷ 0 ∷ 0 ∷ 0 ∷ [])) ∷ pop (replicate 14 0) ∷ []) → ⊥)
unfolding two running expected refusal tick_refusal pop_refusal number_of
not-expected = ((λ x. omega (arith, x.0)), (λ x. omega (arith, x.1.0)))
