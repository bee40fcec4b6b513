-- The theorems of next firings used at their edges: the first and the last minute of the calendar, -12:00 and +14:00, which are 0 and 1,560, and past the
-- calendar's end. An added hypothesis, or a part less of a conclusion, breaks one of these.
-- Assumes nothing.
use mathlib.Core.Path.{◌≡◌, sym, ◌∙◌}
use mathlib.Core.Bool.{true, false, ◌&&◌}
use Prim.Native.Nat.{ℕ, ◌≤◌, ◌<◌}
use native.Mathlib.Omega.{arith}
use lib.Dec.{ltb}
use Rattle.std.specs.Prelude.{Ok, Err}
use Rattle.schedule.specs.declared.Schedule.{Schedule}
use Rattle.schedule.specs.Match.{matches, matches_at}
use Rattle.schedule.specs.Search.{from}
use Rattle.schedule.specs.Days.{some_day}
use Rattle.schedule.specs.Next.{can_fire, next_after}
use Rattle.schedule.specs.Local.{matches_in, next_after_in}
use Rattle.schedule.specs.Clocks.{clock_after_in}
use Rattle.schedule.proofs.Theorems.{can-fire, next-at, next-never, next_past, next-at-in, next-is-in, next-never-in, next-past-in, next-within-in, fires-within-in, slow-agrees}
use Rattle.schedule.specs.Refusals.{never_fires, past_the_end}

module _ (s : Schedule) where
  -- the calendar's first minute that can be answered, and its last, under each offset
  pub next-ends :
      (matches_in s 1560 1 ≡ true → next_after_in s 1560 0 ≡ Ok 1)
      × (matches_in s 0 4223371679 ≡ true → next_after_in s 0 4223371678 ≡ Ok 4223371679)
      × (matches s 4223371679 ≡ true → next_after s 4223371678 ≡ Ok 4223371679)
      × (can_fire s ≡ true → next_after_in s 1560 4223371679 ≡ Err past_the_end)
      × (can_fire s ≡ true → next_after_in s 0 18446744073709551615 ≡ Err past_the_end)
      × (can_fire s ≡ true → next_after s 4223371679 ≡ Err past_the_end)
  next-ends = (
    (λ t. next-at-in s 1560 0 1 (omega arith) (omega arith) t (λ k h i. absurd (omega arith))),
    (λ t. next-at-in s 0 4223371678 4223371679 (omega arith) (omega arith) t (λ k h i. absurd (omega arith))),
    (λ t. next-at s 4223371678 4223371679 (omega arith) (omega arith) t (λ k h i. absurd (omega arith))),
    (λ f. next-past-in s 1560 4223371679 f (λ k h i. absurd (omega arith))),
    (λ f. next-past-in s 0 18446744073709551615 f (λ k h i. absurd (omega arith))),
    (λ f. next_past s 4223371679 f (λ k h i. absurd (omega arith))),
  )

  -- what is answered from before 1970 locally
  pub next-is-west : (n : ℕ) → next_after_in s 0 0 ≡ Ok n
      → (0 < n) × (n ≤ 4223371679) × (matches_in s 0 n ≡ true) × ((k : ℕ) → 0 < k → k < n → matches_in s 0 k ≡ false) × (n ≤ 21036960)
  next-is-west n e = let (u, v, t, none) = next-is-in s 0 0 n e in (u, v, t, none, next-within-in s 0 0 n e)

  -- none of the cycle's minutes matches: never, from any number
  pub never_ends : ((k : ℕ) → k < 210379680 → matches s k ≡ false)
      → (next_after_in s 1560 0 ≡ Err never_fires) × (next_after_in s 0 18446744073709551615 ≡ Err never_fires) × (next_after s 4223371680 ≡ Err never_fires)
  never_ends none = (next-never-in s 1560 0 none, next-never-in s 0 18446744073709551615 none, next-never s 4223371680 none)

  -- the closed test of any sets of bits, both ways
  pub fires-both : (can_fire s ≡ true → (ltb (from (matches_at s) 1440 0) 1440 && some_day s) ≡ true)
      × ((ltb (from (matches_at s) 1440 0) 1440 && some_day s) ≡ true → can_fire s ≡ true)
  fires-both = ((λ f. sym (can-fire s) ∙ f), (λ t. can-fire s ∙ t))

  -- the clock walk agrees at each of these
  pub slow-ends :
      (clock_after_in s 0 0 ≡ next_after_in s 0 0)
      × (clock_after_in s 1560 4223371679 ≡ next_after_in s 1560 4223371679)
      × (clock_after_in s 1560 18446744073709551615 ≡ next_after_in s 1560 18446744073709551615)
  slow-ends = (slow-agrees s 0 0, slow-agrees s 1560 4223371679, slow-agrees s 1560 18446744073709551615)

  -- silent for at most 40 years, up to the calendar's last minute locally; and 720 minutes more from before 1970 locally
  pub within-ends : can_fire s ≡ true
      → ((m : ℕ) × (4202333879 < m) × (m ≤ 4223370839) × (matches_in s 1560 m ≡ true)) × ((m : ℕ) × (0 < m) × (m ≤ 21037680) × (matches_in s 0 m ≡ true))
  within-ends f = (fires-within-in s 1560 f 4202333879 (omega arith), fires-within-in s 0 f 0 (omega arith))
