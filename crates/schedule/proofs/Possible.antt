-- The closed test for whether an entry ever fires: some time of day, and some day, are there to match.
-- Assumes nothing.
use mathlib.Core.Path.{◌≡◌, refl}
use mathlib.Core.Bool.{Bool, true, false, cond, ◌&&◌, ◌||◌}
use mathlib.Core.Logic.{◌⊎◌, inl, inr}
use Prim.Native.Nat.{ℕ, ◌+◌, ◌*◌, ◌≤◌, ◌<◌}
use native.Mathlib.Omega.{arith}
use lib.Dec.{ltb}
use borrow.Author.Tests.{ltb-true, lt-ltb}
use Rattle.calendar.specs.Gregorian.{leap, month_length, month_days}
use Rattle.calendar.specs.Dates.{calendar_days, date_at, weekday_of}
use Rattle.calendar.proofs.Tests.{and-true, or-true, true-or}
use Rattle.calendar.proofs.Theorems.{OnCalendar, date_at-on}
use Rattle.calendar.proofs.Minutes.{midnight-weekday}
use Rattle.schedule.specs.declared.Schedule.{Schedule}
use Rattle.octets.specs.Sets.{has_bit}
use Rattle.schedule.specs.Match.{both_must, by_day_rule, matches_day, matches_on}
use Rattle.schedule.specs.Search.{from}
use Rattle.schedule.specs.Days.{has_date, some_day}
use Rattle.schedule.proofs.Search.{from_some, some-from}
use Rattle.schedule.proofs.Dates.{month-lengths, longest, Is}
use Rattle.schedule.proofs.Recurrence.{Within, Covers, date-within}

-- ---- the day rule

module _ (s : Schedule) (m d w : ℕ) where
  matches-either : both_must s ≡ false → has_bit s.months m ≡ true → (has_bit s.days d ≡ true) ⊎ (has_bit s.weekdays w ≡ true)
      → matches_day s m d w ≡ true
  unfolding matches_day by_day_rule both_must
  matches-either e h o = rw (h, e) (true-or _ _ o)

  matches-both : both_must s ≡ true → has_bit s.months m ≡ true → has_bit s.days d ≡ true → has_bit s.weekdays w ≡ true
      → matches_day s m d w ≡ true
  unfolding matches_day by_day_rule both_must
  matches-both e h i j = rw (h, e, i, j)

  either-matches : both_must s ≡ false → matches_day s m d w ≡ true
      → (has_bit s.months m ≡ true) × ((has_bit s.days d ≡ true) ⊎ (has_bit s.weekdays w ≡ true))
  unfolding matches_day by_day_rule both_must
  either-matches e t =
      let p = and-true (has_bit s.months m) (by_day_rule s (has_bit s.days d) (has_bit s.weekdays w)) t in
      (p.0, or-true (has_bit s.days d) (has_bit s.weekdays w) (rw e at p.1))

  both-matches : both_must s ≡ true → matches_day s m d w ≡ true
      → (has_bit s.months m ≡ true) × (has_bit s.days d ≡ true) × (has_bit s.weekdays w ≡ true)
  unfolding matches_day by_day_rule both_must
  both-matches e t =
      let p = and-true (has_bit s.months m) (by_day_rule s (has_bit s.days d) (has_bit s.weekdays w)) t in
      let q = and-true (has_bit s.days d) (has_bit s.weekdays w) (rw e at p.1) in
      (p.0, q.0, q.1)

-- ---- what there is to match

-- a day of the set in a month of the set
record Chosen (s : Schedule) : Type 0 where
  m : ℕ
  d : ℕ
  is : Is true m d
  month : has_bit s.months m ≡ true
  day : has_bit s.days d ≡ true

some-date : (s : Schedule) → ltb (from (has_date s) 13 1) 13 ≡ true → Chosen s
unfolding has_date month_days leap
some-date s t =
    let (m, a, b, p) = some-from (has_date s) 13 1 (omega arith) (ltb-true _ _ t) in
    let q = and-true (has_bit s.months m) _ p in
    let (d, e, f, g) = some-from (has_bit s.days) (month_length true m + 1) 1 (omega arith) (ltb-true _ _ q.1) in
    record { m = m; d = d; is = record { month_from = a; month_to = omega arith; day_from = e; day_to = omega arith }; month = q.0; day = g }

-- what a day can match by: a date or a weekday in some month where either may match, otherwise both
data Matchable (s : Schedule) : Type 0 where
  by-date : both_must s ≡ false → Chosen s → Matchable s
  by-weekday : both_must s ≡ false → (m w : ℕ) → 1 ≤ m → m ≤ 12 → has_bit s.months m ≡ true → w < 7 → has_bit s.weekdays w ≡ true
      → Matchable s
  by_both : both_must s ≡ true → Chosen s → (w : ℕ) → w < 7 → has_bit s.weekdays w ≡ true → Matchable s

matchable : (s : Schedule) → some_day s ≡ true → Matchable s
unfolding some_day both_must
matchable s t = go (both_must s) refl t
  where
    month : Bool
    month = ltb (from (has_bit s.months) 13 1) 13

    weekday : Bool
    weekday = ltb (from (has_bit s.weekdays) 7 0) 7

    date : Bool
    date = ltb (from (has_date s) 13 1) 13

    go : (b : Bool) → both_must s ≡ b → cond b (weekday && date) (month && (weekday || date)) ≡ true → Matchable s
    go false e t =
        let p = and-true month (weekday || date) t in
        let (m, a, b, h) = some-from (has_bit s.months) 13 1 (omega arith) (ltb-true _ _ p.0) in
        elim (or-true weekday date p.1) [
          | inl q ↦
              let (w, c, d, i) = some-from (has_bit s.weekdays) 7 0 (omega arith) (ltb-true _ _ q) in
              by-weekday e m w a (omega arith) h d i
          | inr q ↦ by-date e (some-date s q)
        ]
    go true e t =
        let p = and-true weekday date t in
        let (w, c, d, i) = some-from (has_bit s.weekdays) 7 0 (omega arith) (ltb-true _ _ p.0) in
        by_both e (some-date s p.1) w d i

-- ---- how soon

first-day : (m : ℕ) → 1 ≤ m → m ≤ 12 → Is true m 1
first-day m h k = record { month_from = h; month_to = k; day_from = omega arith; day_to = omega (arith, month-lengths m h k) }

pub some-within : (x g : ℕ) → Covers x g → (s : Schedule) → some_day s ≡ true → Within s x g
some-within x g all s t = go (matchable s t)
  where
    go : Matchable s → Within s x g
    go (by-date e c) = date-within x g all s c.m c.d 0 c.is (omega arith) (matches-either s c.m c.d 0 e c.month (inl c.day))
    go (by-weekday e m w a b h k i) = date-within x g all s m 1 w (first-day m a b) k (matches-either s m 1 w e h (inr i))
    go (by_both e c w k i) = date-within x g all s c.m c.d w c.is k (matches-both s c.m c.d w e c.month c.day i)

-- ---- a day that matches is there to match

date-some : (s : Schedule) (m d : ℕ) → Is true m d → has_bit s.months m ≡ true → has_bit s.days d ≡ true
    → ltb (from (has_date s) 13 1) 13 ≡ true
unfolding has_date month_days leap
date-some s m d i h k =
    lt-ltb _ _
    (from_some (has_date s) 13 1 m i.month_from (omega (arith, i.month_to))
    (rw (h, lt-ltb _ _ (from_some (has_bit s.days) (month_length true m + 1) 1 d i.day_from (omega (arith, i.day_to)) k))))

pub matching-some : (s : Schedule) (day : ℕ) → day < calendar_days → matches_on s day ≡ true → some_day s ≡ true
unfolding matches_on some_day both_must weekday_of
matching-some s day h t = go (both_must s) refl
  where
    x : ℕ
    x = day * 1440

    m : ℕ
    m = (date_at x).month

    d : ℕ
    d = (date_at x).day

    w : ℕ
    w = (date_at x).weekday

    o : OnCalendar (date_at x).year m d (date_at x).hour (date_at x).minute
    o = date_at-on x (omega arith)

    month : has_bit s.months m ≡ true → ltb (from (has_bit s.months) 13 1) 13 ≡ true
    month k = lt-ltb _ _ (from_some (has_bit s.months) 13 1 m o.month_from (omega (arith, o.month_to)) k)

    weekday : has_bit s.weekdays w ≡ true → ltb (from (has_bit s.weekdays) 7 0) 7 ≡ true
    weekday k = lt-ltb _ _ (from_some (has_bit s.weekdays) 7 0 w (omega arith) (omega (arith, midnight-weekday day)) k)

    date : has_bit s.months m ≡ true → has_bit s.days d ≡ true → ltb (from (has_date s) 13 1) 13 ≡ true
    date =
        date-some s m d
        (record {
          month_from = o.month_from;
          month_to = o.month_to;
          day_from = o.day_from;
          day_to = omega (arith, o.day_to, longest (date_at x).year m o.month_from o.month_to);
        })

    go : (b : Bool) → both_must s ≡ b
        → cond b
        (ltb (from (has_bit s.weekdays) 7 0) 7 && ltb (from (has_date s) 13 1) 13)
        (ltb (from (has_bit s.months) 13 1) 13 && (ltb (from (has_bit s.weekdays) 7 0) 7 || ltb (from (has_date s) 13 1) 13))
        ≡ true
    go false e =
        let p = either-matches s m d w e t in
        rw (month p.0) (true-or (ltb (from (has_bit s.weekdays) 7 0) 7) (ltb (from (has_date s) 13 1) 13) (elim p.1 [ inl k ↦ inr (date p.0 k) | inr k ↦ inl (weekday k) ]))
    go true e = let p = both-matches s m d w e t in rw (weekday p.2, date p.0 p.1)
