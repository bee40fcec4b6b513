-- The next firing under an offset where it falls on the local day of the one before.
-- Assumes nothing.
use mathlib.Core.Path.{◌≡◌, refl, sym, ◌∙◌}
use Rattle.std.specs.Prelude.{Ok}
use Rattle.schedule.specs.Local.{max_west}
use mathlib.Core.Bool.{Bool, true, false, ◌&&◌}
use Prim.Native.Nat.{ℕ, ◌+◌, ◌-◌, ◌*◌, ◌/◌, ◌%◌, ◌≤◌, ◌<◌}
use native.Mathlib.Omega.{arith}
use Rattle.calendar.specs.Dates.{last_minute}
use Rattle.calendar.proofs.Tests.{and-true}
use Rattle.schedule.specs.declared.Schedule.{Schedule}
use Rattle.schedule.specs.Match.{matches, matches_on, matches_at}
use Rattle.schedule.specs.Search.{from}
use Rattle.schedule.specs.Local.{matches_in, next_after_in}
use Rattle.schedule.proofs.Search.{Least, from-least}
use Rattle.schedule.proofs.Gap.{matches-parts, parts-match}
use Rattle.schedule.proofs.LocalMinutes.{matches-at}
use Rattle.schedule.proofs.LocalTheorems.{next-at-in}

and_last : (a b : Bool) → b ≡ false → (a && b) ≡ false
and_last true b e = e
and_last false b e = refl

-- the least time after that of a minute
pub later-least : (s : Schedule) (t later : ℕ) → t < 1440 → later ≡ from (matches_at s) 1440 (t + 1) → Least (matches_at s) 1440 (t + 1) later
later-least s t later h e = rw (sym e) at (from-least (matches_at s) 1440 (t + 1) (omega arith))

module _ (s : Schedule) (o m l later : ℕ) (e : m + o ≡ l + max_west) (h : l ≤ last_minute) (fires : matches s l ≡ true) where
  -- the local minute of the day of l at another time
  at-time : (t : ℕ) → t < 1440 → (t ≡ (l / 1440 * 1440 + t) % 1440) × (l / 1440 ≡ (l / 1440 * 1440 + t) / 1440) × (l / 1440 * 1440 + t ≤ last_minute)
  at-time t k = (omega arith, omega arith, omega arith)

  pub same-day : later ≡ from (matches_at s) 1440 (l % 1440 + 1) → later < 1440 → m + (later - l % 1440) ≤ last_minute
      → Ok (m + (later - l % 1440)) ≡ next_after_in s o m
  same-day f k on = sym (next-at-in s o m (m + (later - l % 1440)) (omega (arith, least.low)) on here none)
    where
      least : Least (matches_at s) 1440 (l % 1440 + 1) later
      least = later-least s (l % 1440) later (omega arith) f

      day : matches_on s (l / 1440) ≡ true
      day = (and-true (matches_on s (l / 1440)) (matches_at s (l % 1440)) (sym (matches-parts s l) ∙ fires)).0

      here : matches_in s o (m + (later - l % 1440)) ≡ true
      here =
          matches-at o (m + (later - l % 1440)) s (l / 1440 * 1440 + later) (omega (arith, least.low)) (at-time later k).2
          ∙ parts-match s (l / 1440) later k day (least.passes k)

      none : (i : ℕ) → m < i → i < m + (later - l % 1440) → matches_in s o i ≡ false
      none i u v = go (l % 1440 + (i - m)) refl
        where
          go : (t : ℕ) → l % 1440 + (i - m) ≡ t → matches_in s o i ≡ false
          go t q =
              let (x, y, z) = at-time t (omega (arith, least.low)) in
              matches-at o i s (l / 1440 * 1440 + t) (omega arith) z
              ∙ matches-parts s (l / 1440 * 1440 + t)
              ∙ rw (← x) (and_last (matches_on s ((l / 1440 * 1440 + t) / 1440)) (matches_at s t) (least.none t (omega arith) (omega arith)))
