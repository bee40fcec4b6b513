-- The gap theorem: how long a schedule that fires at all can be silent, and the closed test for whether it does.
-- Assumes nothing.
use mathlib.Core.Path.{◌≡◌, sym, ◌∙◌}
use mathlib.Core.Bool.{Bool, true, ◌&&◌}
use Prim.Native.Nat.{ℕ, ◌+◌, ◌*◌, ◌/◌, ◌%◌, ◌≤◌, ◌<◌}
use native.Mathlib.Nat.{lt_of_not-le}
use native.Mathlib.Decide.{dec_le}
use native.Mathlib.Omega.{arith}
use lib.Dec.{ltb}
use borrow.Author.Tests.{ltb-true, lt-ltb}
use Rattle.calendar.specs.Dates.{last_minute, cycle_minutes, calendar_days, date_at}
use Rattle.calendar.proofs.Tests.{and-true, same_test}
use Rattle.schedule.specs.declared.Schedule.{Schedule}
use Rattle.schedule.specs.Match.{matches_date, matches, matches_on, matches_at}
use Rattle.schedule.specs.Search.{from}
use Rattle.schedule.specs.Days.{some_day}
use Rattle.schedule.specs.Next.{can_fire}
use Rattle.schedule.specs.Gap.{gap_days, gap}
use Rattle.schedule.proofs.Search.{from_some, some-from}
use Rattle.schedule.proofs.LeapYears.{first_days}
use Rattle.schedule.proofs.Recurrence.{Within, gap-covers, first-covers}
use Rattle.schedule.proofs.Possible.{some-within, matching-some}

-- a minute matches by its day and its time of day
pub matches-parts : (s : Schedule) (n : ℕ) → matches s n ≡ (matches_on s (n / 1440) && matches_at s (n % 1440))
unfolding matches matches_date matches_on matches_at date_at
matches-parts s n =
    let e : n / 1440 * 1440 / 1440 ≡ n / 1440 = omega arith in
    let f : n % 1440 % 60 ≡ n % 60 = omega arith in
    rw (e, f)

-- and so does a day with a time of day
pub parts-match : (s : Schedule) (d t : ℕ) → t < 1440 → matches_on s d ≡ true → matches_at s t ≡ true → matches s (d * 1440 + t) ≡ true
parts-match s d t h a b =
    let e : (d * 1440 + t) / 1440 ≡ d = omega arith in
    let f : (d * 1440 + t) % 1440 ≡ t = omega arith in
    rw (matches-parts s (d * 1440 + t), e, f, a, b)

-- from days to minutes, over the number of days
pub minutes-within : (s : Schedule) (g time : ℕ) → ((x : ℕ) → x + g ≤ calendar_days → Within s x g) → time < 1440 → matches_at s time ≡ true
    → (t : ℕ) → t + g * 1440 ≤ last_minute → (n : ℕ) × (t < n) × (n ≤ t + g * 1440) × (matches s n ≡ true)
minutes-within s g time w h m t k = elim (dec_le time (t % 1440)) [ yes l ↦ tomorrow l | no l ↦ today (lt_of_not-le l) ]
  where
    today : t % 1440 < time → (n : ℕ) × (t < n) × (n ≤ t + g * 1440) × (matches s n ≡ true)
    today l =
        let (d, a, b, c) = w (t / 1440) (omega arith) in
        (d * 1440 + time, omega arith, omega arith, parts-match s d time h c m)

    tomorrow : time ≤ t % 1440 → (n : ℕ) × (t < n) × (n ≤ t + g * 1440) × (matches s n ≡ true)
    tomorrow l =
        let (d, a, b, c) = w (t / 1440 + 1) (omega arith) in
        (d * 1440 + time, omega arith, omega arith, parts-match s d time h c m)

-- ---- the closed test

some_time : Schedule → Bool
some_time s = ltb (from (matches_at s) 1440 0) 1440

fires-some : (s : Schedule) → can_fire s ≡ true → (some_time s ≡ true) × (some_day s ≡ true)
unfolding can_fire some_time
fires-some s t =
    let (n, a, b, m) = some-from (matches s) cycle_minutes 0 (omega arith) (ltb-true _ _ t) in
    let p = and-true (matches_on s (n / 1440)) (matches_at s (n % 1440)) (sym (matches-parts s n) ∙ m) in (
      lt-ltb _ _ (from_some (matches_at s) 1440 0 (n % 1440) (omega arith) (omega arith) p.1),
      matching-some s (n / 1440) (omega arith) p.0,
    )

some-fires : (s : Schedule) → some_time s ≡ true → some_day s ≡ true → can_fire s ≡ true
unfolding can_fire some_time
some-fires s a b =
    let (t, _, h, m) = some-from (matches_at s) 1440 0 (omega arith) (ltb-true _ _ a) in
    let (d, _, k, c) = some-within 0 first_days first-covers s b in
    lt-ltb _ _ (from_some (matches s) cycle_minutes 0 (d * 1440 + t) (omega arith) (omega arith) (parts-match s d t h c m))

pub can-fire : (s : Schedule) → can_fire s ≡ (ltb (from (matches_at s) 1440 0) 1440 && some_day s)
unfolding some_time
can-fire s =
    same_test (can_fire s) (some_time s && some_day s)
    (λ t. let p = fires-some s t in rw (p.0, p.1))
    (λ t. let p = and-true (some_time s) (some_day s) t in some-fires s p.0 p.1)

-- a schedule that matches any minute of the calendar matches one of the cycle
pub matching-fires : (s : Schedule) (n : ℕ) → n ≤ last_minute → matches s n ≡ true → can_fire s ≡ true
matching-fires s n h t =
    let p = and-true (matches_on s (n / 1440)) (matches_at s (n % 1440)) (sym (matches-parts s n) ∙ t) in
    rw (
      can-fire s,
      lt-ltb _ _ (from_some (matches_at s) 1440 0 (n % 1440) (omega arith) (omega arith) p.1),
      matching-some s (n / 1440) (omega arith) p.0,
    )

-- ---- the gap

-- A schedule that some minute of the cycle matches has a matching minute in each window of `gap` minutes on the calendar.
pub fires-within : (s : Schedule) → can_fire s ≡ true
    → (t : ℕ) → t + gap ≤ last_minute → (n : ℕ) × (t < n) × (n ≤ t + gap) × (matches s n ≡ true)
unfolding some_time
fires-within s fires =
    let p = fires-some s fires in
    let (time, _, h, m) = some-from (matches_at s) 1440 0 (omega arith) (ltb-true _ _ p.0) in
    minutes-within s gap_days time (λ x i. some-within x gap_days (gap-covers x i) s p.1) h m

-- and one in the calendar's first 27 years
pub fires-first : (s : Schedule) → can_fire s ≡ true → (n : ℕ) × (n < first_days * 1440) × (matches s n ≡ true)
unfolding some_time
fires-first s fires =
    let p = fires-some s fires in
    let (time, _, h, m) = some-from (matches_at s) 1440 0 (omega arith) (ltb-true _ _ p.0) in
    let (d, _, k, c) = some-within 0 first_days first-covers s p.1 in
    (d * 1440 + time, omega arith, parts-match s d time h c m)
