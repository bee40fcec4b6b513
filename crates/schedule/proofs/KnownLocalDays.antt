-- Next firings under an offset, around the ends of the local calendar.
-- Assumes nothing.
use mathlib.Core.Path.{◌≡◌, refl}
use mathlib.Core.Bool.{Bool, true, false, ◌&&◌}
use Prim.Native.Nat.{ℕ, ◌+◌, ◌≤◌}
use native.Mathlib.Omega.{arith}
use lib.Dec.{T, leb, ltb, eqb, eqb→eq, ltb→lt, leb→le}
use mir.Facts.{and_yes}
use Rattle.std.specs.Prelude.{Ok, Err}
use Rattle.calendar.specs.Dates.{last_minute}
use Rattle.schedule.specs.declared.Schedule.{Schedule}
use Rattle.schedule.specs.Search.{from}
use Rattle.schedule.specs.Local.{matches_in, next_after_in}
use Rattle.schedule.specs.Examples.{february30, mondays, evenings, every_minute, schedules}
use Rattle.schedule.proofs.Search.{from-least}
use Rattle.schedule.proofs.Gap.{can-fire}
use Rattle.schedule.proofs.KnownDays.{ever, T_true}
use Rattle.schedule.proofs.LocalMinutes.{matches-after}
use Rattle.schedule.proofs.LocalTheorems.{next-at-in, next-past-in}
use Rattle.schedule.specs.Refusals.{never_fires, past_the_end}

-- ---- a test that antt computes, and what it shows

unfoldable pub fires_in : Schedule → ℕ → ℕ → ℕ → Bool
fires_in s o m n = ltb m n && (leb n last_minute && (matches_in s o n && eqb (from (matches_in s o) n (m + 1)) n))

fires : (s : Schedule) (o m n : ℕ) → T (fires_in s o m n) → next_after_in s o m ≡ Ok n
unfolding fires_in
fires s o m n t =
    let a = and_yes (ltb m n) _ t in
    let b = and_yes (leb n last_minute) _ a.1 in
    let c = and_yes (matches_in s o n) _ b.1 in
    let h = ltb→lt m n a.0 in
    let e = eqb→eq (from (matches_in s o) n (m + 1)) n c.1 in
    next-at-in s o m n h (leb→le n last_minute b.0) (T_true (matches_in s o n) c.0)
    (λ k u v. (from-least (matches_in s o) n (m + 1) (omega arith)).none k (omega arith) (omega arith))

-- past the calendar locally nothing is left
past : (s : Schedule) (o m : ℕ) → ever s ≡ true → last_minute + 720 ≤ m + o → next_after_in s o m ≡ Err past_the_end
unfolding ever
past s o m e h = next-past-in s o m (rw (can-fire s, e)) (λ k u v. matches-after o k s (omega arith))

never : (s : Schedule) (o m : ℕ) → ever s ≡ false → next_after_in s o m ≡ Err never_fires
unfolding ever next_after_in
never s o m e = rw (can-fire s, e)

-- ---- the days

pub known-days-in :
    -- at -12:00 the local calendar begins with minute 720
    (next_after_in every_minute 0 0 ≡ Ok 720)
    × (next_after_in every_minute 0 719 ≡ Ok 720)
    × (next_after_in every_minute 0 720 ≡ Ok 721)
    × (next_after_in evenings 0 0 ≡ Ok 1800)
    -- 400 years later minute 0 is on the local calendar, and has an evening before it
    × (next_after_in evenings 0 210379680 ≡ Ok 210380040)
    -- at +14:00 it ends 840 minutes before the last
    × (next_after_in mondays 1560 0 ≡ Ok 4920)
    × (next_after_in every_minute 1560 4223370838 ≡ Ok 4223370839)
    × (next_after_in every_minute 1560 4223370839 ≡ Err past_the_end)
    -- 16 doesn't look at the offset
    × (next_after_in february30 1560 4223370839 ≡ Err never_fires)
unfolding fires_in ever schedules
known-days-in = (
  fires every_minute 0 0 720 tt,
  fires every_minute 0 719 720 tt,
  fires every_minute 0 720 721 tt,
  fires evenings 0 0 1800 tt,
  fires evenings 0 210379680 210380040 tt,
  fires mondays 1560 0 4920 tt,
  fires every_minute 1560 4223370838 4223370839 tt,
  past every_minute 1560 4223370839 refl (omega arith),
  never february30 1560 4223370839 refl,
)
