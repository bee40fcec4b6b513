-- M2, an equation for each case of the two star flags, with no test in it: if either day field has its star flag, both must match; otherwise either
-- may. The month always counts.
-- Assumes nothing.
use mathlib.Core.Path.{◌≡◌, refl}
use Rattle.schedule.specs.Local.{max_west}
use mathlib.Core.Bool.{Bool, true, false, ◌&&◌, ◌||◌}
use Prim.Native.Nat.{ℕ, ◌+◌, ◌≤◌, ◌<◌}
use Rattle.octets.specs.Sets.{has_bit}
use Rattle.calendar.specs.Dates.{date_at}
use Rattle.calendar.specs.declared.Date.{Date}
use Rattle.schedule.specs.declared.Schedule.{Schedule}
use Rattle.schedule.specs.Match.{both_must, by_day_rule, matches_day, matches_time, matches_date, matches}
use Rattle.schedule.specs.Local.{matches_in, gap_in}
use Rattle.schedule.proofs.LocalTheorems.{utc-same, gap-on, gap-before}

or-true : (b : Bool) → (b || true) ≡ true
or-true true = refl
or-true false = refl

module _ (s : Schedule) (m : ℕ) where
  abbrev d : Date
  d = date_at m

  abbrev time : Bool
  time = has_bit s.hours d.hour && has_bit s.minutes d.minute

  pub star-of-days : s.stars.days ≡ true
      → matches s m ≡ ((has_bit s.months d.month && (has_bit s.days d.day && has_bit s.weekdays d.weekday)) && time)
  unfolding matches matches_date matches_day matches_time by_day_rule both_must
  star-of-days e = rw e

  pub star-of-weekdays : s.stars.weekdays ≡ true
      → matches s m ≡ ((has_bit s.months d.month && (has_bit s.days d.day && has_bit s.weekdays d.weekday)) && time)
  unfolding matches matches_date matches_day matches_time by_day_rule both_must
  star-of-weekdays e = rw (e, or-true s.stars.days)

  pub no-star : s.stars.days ≡ false → s.stars.weekdays ≡ false
      → matches s m ≡ ((has_bit s.months d.month && (has_bit s.days d.day || has_bit s.weekdays d.weekday)) && time)
  unfolding matches matches_date matches_day matches_time by_day_rule both_must
  no-star e f = rw (e, f)

-- used: the calendar's first minute and its last
pub match-ends : (s : Schedule)
    → (matches_in s max_west 0 ≡ matches s 0) × (matches_in s max_west 4223371679 ≡ matches s 4223371679) × (matches_in s max_west 4223371680 ≡ false)
match-ends s = (utc-same s 0, utc-same s 4223371679, utc-same s 4223371680)

-- 720 minutes more where t falls before 1970 locally, under any offset, and none more from there on
pub gap_ends : (o t : ℕ) (s : Schedule) → (t + o < max_west → gap_in o t ≡ 21037680) × (max_west ≤ t + o → gap_in o t ≡ 21036960)
gap_ends o t s = ((λ h. gap-before s o t h), (λ h. gap-on s o t h))
