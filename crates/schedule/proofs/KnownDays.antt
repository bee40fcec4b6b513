-- The next firings among the known days, by the definitions that the promises cite, and that the gap's number is exactly
-- reached: `0 0 29 2 */7` is silent from 2088-02-29 to 2128-02-29.
-- Assumes nothing.
use mathlib.Core.Path.{◌≡◌, refl, sym, ap, ◌∙◌}
use mathlib.Core.Bool.{Bool, true, false, ◌&&◌}
use Prim.Native.Nat.{ℕ, ◌+◌, ◌/◌, ◌<◌}
use lib.Dec.{T, ltb, eqb, eqb→eq, ltb→lt, lit≤}
use mir.Facts.{and_yes}
use Rattle.std.specs.Prelude.{Ok, Err}
use Rattle.calendar.specs.Dates.{calendar_days, last_minute}
use Rattle.calendar.proofs.Months.{length_of}
use Rattle.schedule.specs.declared.Schedule.{Schedule}
use Rattle.schedule.specs.Match.{matches, matches_at}
use Rattle.schedule.specs.Search.{from}
use Rattle.schedule.specs.Days.{some_day}
use Rattle.schedule.specs.Next.{firing_after, next_after}
use Rattle.schedule.specs.Gap.{gap}
use Rattle.schedule.specs.Examples.{leap_day, fridays, february30, mondays30, last_day, leap_sundays, schedules}
use Rattle.schedule.proofs.Search.{from_past}
use Rattle.schedule.proofs.Gap.{can-fire}
use Rattle.schedule.proofs.Quick.{months_from, day_from, quick, quick-right}
use Rattle.schedule.specs.Refusals.{never_fires, past_the_end}

-- ---- tests that antt computes, and what they show

unfoldable pub ever : Schedule → Bool
ever s = ltb (from (matches_at s) 1440 0) 1440 && some_day s

-- 500 months are more than 40 years
unfoldable pub fires_at : Schedule → ℕ → ℕ → Bool
fires_at s m n =
    ever s && (ltb m last_minute && (ltb ((m + 1) / 1440 + 1) calendar_days && (ltb (day_from s 500 ((m + 1) / 1440 + 1)) calendar_days && eqb (quick s 500 m) n)))

pub T_true : (b : Bool) → T b → b ≡ true
T_true true t = refl
T_true false t = absurd t

pub fires : (s : Schedule) (m n : ℕ) → T (fires_at s m n) → next_after s m ≡ Ok n
unfolding fires_at ever next_after
fires s m n t =
    let e = and_yes (ltb (from (matches_at s) 1440 0) 1440 && some_day s) _ t in
    let a = and_yes (ltb m last_minute) _ e.1 in
    let b = and_yes (ltb ((m + 1) / 1440 + 1) calendar_days) _ a.1 in
    let c = and_yes (ltb (day_from s 500 ((m + 1) / 1440 + 1)) calendar_days) _ b.1 in
    let time = and_yes (ltb (from (matches_at s) 1440 0) 1440) (some_day s) e.0 in
    let h : m < last_minute = ltb→lt _ _ a.0 in
    rw (can-fire s, T_true (ltb (from (matches_at s) 1440 0) 1440 && some_day s) e.0)
    (quick-right s 500 m h (ltb→lt _ _ b.0) (ltb→lt _ _ c.0) (ltb→lt _ _ time.0) ∙ ap Ok (eqb→eq _ _ c.1))

pub never : (s : Schedule) (m : ℕ) → ever s ≡ false → next_after s m ≡ Err never_fires
unfolding ever next_after
never s m e = rw (can-fire s, e)

-- nothing is left after the last minute
pub past : (s : Schedule) → ever s ≡ true → next_after s last_minute ≡ Err past_the_end
unfolding ever next_after firing_after
past s e = rw (can-fire s, e, sym (from_past (matches s) (last_minute + 1) (last_minute + 1) (lit≤ tt)))

-- ---- the known days

pub known-days :
    (next_after leap_day 66355200 ≡ Ok 70561440)
    × (next_after fridays 0 ≡ Ok 270)
    × (next_after fridays 270 ≡ Ok 1710)
    × (next_after february30 0 ≡ Err never_fires)
    × (next_after mondays30 0 ≡ Ok 46080)
    × (next_after last_day 4223371679 ≡ Err past_the_end)
unfolding fires_at ever schedules quick day_from months_from length_of
known-days = (
  fires leap_day 66355200 70561440 tt,
  fires fridays 0 270 tt,
  fires fridays 270 1710 tt,
  never february30 0 refl,
  fires mondays30 0 46080 tt,
  past last_day refl,
)

-- the gap, and that it is reached
pub gap_is : gap ≡ 21036960
gap_is = refl

pub gap-reached : next_after leap_sundays 62147520 ≡ Ok (62147520 + gap)
unfolding fires_at ever schedules quick day_from months_from length_of
gap-reached = fires leap_sundays 62147520 83184480 tt
