-- Laws of days: a day by its month, and a minute by its day and its time of day.
-- Assumes nothing.
use mathlib.Core.Path.{◌≡◌, refl, sym, ap, ◌∙◌}
use mathlib.Core.Bool.{Bool, true, false}
use Prim.Native.Nat.{ℕ, zero, suc, ◌+◌, ◌-◌, ◌*◌, ◌/◌, ◌%◌, ◌≤◌, ◌<◌}
use native.Mathlib.Nat.{lt_of_not-le}
use native.Mathlib.Decide.{dec_le}
use native.Mathlib.Omega.{arith}
use borrow.Author.Tests.{le-leb}
use Rattle.calendar.specs.Gregorian.{leap, month_length, month_days}
use Rattle.calendar.specs.Dates.{calendar_days, date_at, month_start}
use Rattle.calendar.proofs.Minutes.{midnight-weekday}
use Rattle.calendar.proofs.Months.{length_of, first_of, month-next, month-mono, months-end, day-month, day-day, day-in-month}
use Rattle.schedule.specs.declared.Schedule.{Schedule}
use Rattle.octets.specs.Sets.{has_bit}
use Rattle.schedule.specs.Match.{matches_day, matches_on}
use Rattle.schedule.specs.Search.{from}
use Rattle.schedule.specs.Days.{matches_in_month, MonthAfter}
use Rattle.schedule.proofs.Search.{from-none, from-same, from-part, from-behind}
use Rattle.schedule.proofs.Dates.{month-lengths}

-- no day matches in a month that isn't in the set
pub month-out : (s : Schedule) (month first day : ℕ) → has_bit s.months month ≡ false → matches_in_month s month first day ≡ false
unfolding matches_in_month matches_day
month-out s month first day e = rw e

-- a day of month number c matches as a day within its month
pub month-day : (s : Schedule) (c day : ℕ) → 23640 ≤ c → c < 120000 → first_of c ≤ day → day < first_of c + length_of c
    → matches_in_month s (c % 12 + 1) (first_of c) day ≡ matches_on s day
unfolding matches_in_month matches_on
month-day s c day h k u v =
    let j = day - first_of c in
    let l : j < length_of c = omega arith in
    let e : first_of c + j ≡ day = omega arith in
    sym
    (rw e at
    (ap (λ (m : ℕ). matches_day s m (date_at ((first_of c + j) * 1440)).day (date_at ((first_of c + j) * 1440)).weekday) (day-month c j h k l)
    ∙ ap (λ (d : ℕ). matches_day s (c % 12 + 1) d (date_at ((first_of c + j) * 1440)).weekday) (day-day c j h k l)
    ∙ ap (λ (w : ℕ). matches_day s (c % 12 + 1) (j + 1) w) (midnight-weekday (first_of c + j))))

-- ---- the search month by month

-- It has come to month number c, whose first day is `first`, and looks from `at` on for what was wanted from `day` on.
pub record Searching (s : Schedule) (day c first at : ℕ) : Type 0 where
  pub low : 23640 ≤ c
  pub high : c ≤ 120000
  pub start : first ≡ first_of c
  pub after : first ≤ at
  pub within : at ≤ first + length_of c
  pub same : from (matches_on s) calendar_days at ≡ from (matches_on s) calendar_days day

pub searching-starts : (s : Schedule) (day : ℕ) → day < calendar_days
    → let d = date_at (day * 1440) in Searching s day (d.year * 12 + (d.month - 1)) (day - (d.day - 1)) day
searching-starts s day h =
    let i = day-in-month day h in
    record {
      low = i.from;
      high = omega (arith, i.before);
      start = omega (arith, i.sum);
      after = omega arith;
      within = omega (arith, i.sum, i.inside);
      same = refl;
    }

module _ {s : Schedule} {day c first at : ℕ} (g : Searching s day c first at) (h : at < calendar_days) where
  pub searching-inside : c < 120000
  searching-inside = elim (dec_le 120000 c) [ yes k ↦ absurd (past (omega (arith, g.high))) | no k ↦ lt_of_not-le k ]
    where
      past : c ≡ 120000 → ⊥
      past e = omega (arith, g.start, g.after, ap first_of e, months-end)

  pub searching-end : first + length_of c ≤ calendar_days
  searching-end =
      let k = searching-inside in
      let e : c + 1 + (120000 - (c + 1)) ≡ 120000 = omega arith in
      omega (arith, g.start, month-next c g.low, month-mono (c + 1) (120000 - (c + 1)) (omega (arith, g.low)), ap first_of e, months-end)

  module _ {l f : ℕ} (el : l ≡ length_of c) (ef : f ≡ from (matches_in_month s (c % 12 + 1) first) (first + l) at) where
    in-month : f ≡ from (matches_on s) (first + l) at
    in-month =
        ef
        ∙ from-same _ _ (first + l) at (omega (arith, g.within))
        (λ k u v.
        rw g.start (month-day s c k g.low searching-inside (omega (arith, g.start, g.after)) (omega (arith, g.start))))

    pub searching-found : f < first + l → f ≡ from (matches_on s) calendar_days day
    searching-found k =
        in-month
        ∙ from-part (matches_on s) calendar_days (first + l) at (omega (arith, g.within)) (omega (arith, searching-end)) (rw in-month at k)
        ∙ g.same

    pub searching-on : first + l ≤ f → Searching s day (c + 1) (first + l) (first + l)
    searching-on k =
        record {
          low = omega (arith, g.low);
          high = omega (arith, searching-inside);
          start = omega (arith, g.start, month-next c g.low);
          after = omega arith;
          within = omega arith;
          same =
              from-behind (matches_on s) calendar_days (first + l) at (omega (arith, g.within)) (omega (arith, searching-end)) (rw in-month at k)
              ∙ g.same;
        }

-- ---- months that aren't in the set are passed

-- every month but the one after the calendar's last begins on it
begins-on : (c : ℕ) → 23640 ≤ c → c < 120000 → first_of c < calendar_days
unfolding length_of month_days
begins-on c h k =
    let e : c + 1 + (120000 - (c + 1)) ≡ 120000 = omega arith in
    omega (arith, some-days c, month-next c h, month-mono (c + 1) (120000 - (c + 1)) (omega arith), ap first_of e, months-end)
  where
    some-days : (c : ℕ) → 1 ≤ length_of c
    some-days c = go (leap (c / 12))
      where
        go : (b : Bool) → 1 ≤ month_length b (c % 12 + 1)
        go true = omega (arith, month-lengths (c % 12 + 1) (omega arith) (omega arith))
        go false = omega (arith, month-lengths (c % 12 + 1) (omega arith) (omega arith))

pub searching-skip : {s : Schedule} {day c first : ℕ} (n : ℕ) → Searching s day c first first → c + n ≤ 120000
    → ((i : ℕ) → c ≤ i → i < c + n → has_bit s.months (i % 12 + 1) ≡ false)
    → Searching s day (c + n) (first_of (c + n)) (first_of (c + n))
searching-skip {s} {day} {c} {first} zero g h none = let e : c + 0 ≡ c = omega arith in rw (e, ← g.start) g
searching-skip {s} {day} {c} {first} (suc n) g h none =
    let e : c + suc n ≡ c + 1 + n = omega arith in
    let out = from-none (matches_in_month s (c % 12 + 1) first) (first + length_of c) first (omega arith) (λ k _ _. month-out s (c % 12 + 1) first k (none c (omega arith) (omega arith))) in
    let on = searching-on g (rw g.start (begins-on c g.low (omega arith))) refl refl (omega (arith, out)) in
    rw e (searching-skip {c = c + 1} n on (omega arith) (λ i u v. none i (omega arith) (omega arith)))

month-starts : (c : ℕ) → 23640 ≤ c → c ≤ 120000 → month_start c ≡ first_of c
unfolding month_start first_of
month-starts c h k = elim (dec_le 120000 c) [ yes e ↦ last (omega arith) | no e ↦ on (lt_of_not-le e) ]
  where
    on : c < 120000 → month_start c ≡ first_of c
    on l = rw (le-leb 1970 (c / 12) (omega arith), le-leb (c / 12) 9999 (omega arith))

    last : c ≡ 120000 → month_start c ≡ first_of c
    last e = rw e (sym months-end)

-- from a month in which nothing was found to the next one of the set
pub searching-after : {s : Schedule} {day c first at l f r : ℕ} → Searching s day c first at → at < calendar_days
    → l ≡ length_of c → f ≡ from (matches_in_month s (c % 12 + 1) first) (first + l) at → first + l ≤ f
    → MonthAfter s c r → Searching s day r (month_start r) (month_start r)
searching-after {s} {day} {c} {first} {at} {l} {f} {r} g h el ef none m =
    let e : c + 1 + (r - (c + 1)) ≡ r = omega (arith, m.later) in
    rw (month-starts r (omega (arith, g.low, m.later)) m.within, ← e)
    (searching-skip (r - (c + 1)) (searching-on g h el ef none) (omega (arith, m.later, m.within)) (λ i u v. m.none i (omega arith) (omega (arith, m.later))))
