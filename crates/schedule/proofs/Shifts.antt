-- The calendar comes round after 400 years, and firings with it (G9, I8).
-- Assumes nothing.
use mathlib.Core.Path.{◌≡◌, sym, ◌∙◌}
use Rattle.std.specs.Prelude.{Ok}
use Rattle.schedule.specs.Local.{max_west}
use mathlib.Core.Logic.{◌↔◌}
use mathlib.Core.Bool.{false}
use Prim.Native.Nat.{ℕ, ◌+◌, ◌-◌, ◌≤◌, ◌<◌}
use native.Mathlib.Omega.{arith}
use Rattle.calendar.specs.Dates.{last_minute, cycle_minutes}
use Rattle.calendar.proofs.Theorems.{cycle}
use Rattle.schedule.specs.declared.Schedule.{Schedule}
use Rattle.schedule.specs.Match.{matches_date, matches}
use Rattle.schedule.specs.Local.{matches_in, next_after_in}
use Rattle.schedule.proofs.LocalMinutes.{matches-at}
use Rattle.schedule.proofs.LocalTheorems.{next-at-in, next-is-in}

-- a minute matches just where the one a cycle later does
pub matches-shifts : (s : Schedule) (m : ℕ) → m + cycle_minutes ≤ last_minute → matches s (m + cycle_minutes) ≡ matches s m
unfolding matches matches_date
matches-shifts s m h = rw (cycle m h)

module _ (s : Schedule) (o : ℕ) where
  -- under an offset too, where both are on the calendar locally
  pub matches-shifts-in : (m : ℕ) → max_west ≤ m + o → m + cycle_minutes + o ≤ last_minute + max_west → matches_in s o (m + cycle_minutes) ≡ matches_in s o m
  matches-shifts-in m h k =
      let l = m + o - max_west in
      matches-at o (m + cycle_minutes) s (l + cycle_minutes) (omega arith) (omega arith)
      ∙ matches-shifts s l (omega arith)
      ∙ sym (matches-at o m s l (omega arith) (omega arith))

  module _ (m n : ℕ) (from : max_west ≤ m + o) (utc : n + cycle_minutes ≤ last_minute) (to : n + cycle_minutes + o ≤ last_minute + max_west) where
    pub next-shifts-in : (next_after_in s o m ≡ Ok n) ↔ (next_after_in s o (m + cycle_minutes) ≡ Ok (n + cycle_minutes))
    next-shifts-in = (later, sooner)
      where
        later : next_after_in s o m ≡ Ok n → next_after_in s o (m + cycle_minutes) ≡ Ok (n + cycle_minutes)
        later e =
            let (u, v, t, none) = next-is-in s o m n e in
            next-at-in s o (m + cycle_minutes) (n + cycle_minutes) (omega arith) utc (matches-shifts-in n (omega arith) to ∙ t) (quiet none)
          where
            quiet : ((k : ℕ) → m < k → k < n → matches_in s o k ≡ false)
                → (k : ℕ) → m + cycle_minutes < k → k < n + cycle_minutes → matches_in s o k ≡ false
            quiet none k h i =
                let e : k - cycle_minutes + cycle_minutes ≡ k = omega arith in
                rw e at (matches-shifts-in (k - cycle_minutes) (omega arith) (omega arith) ∙ none (k - cycle_minutes) (omega arith) (omega arith))

        sooner : next_after_in s o (m + cycle_minutes) ≡ Ok (n + cycle_minutes) → next_after_in s o m ≡ Ok n
        sooner e =
            let (u, v, t, none) = next-is-in s o (m + cycle_minutes) (n + cycle_minutes) e in
            next-at-in s o m n (omega arith) (omega arith) (sym (matches-shifts-in n (omega arith) to) ∙ t)
            (λ k h i. sym (matches-shifts-in k (omega arith) (omega arith)) ∙ none (k + cycle_minutes) (omega arith) (omega arith))
