-- The parts of every date fit the bits that they have in the number.
-- Assumes nothing.
use mathlib.Core.Path.{ap}
use Prim.Native.Nat.{ℕ, ◌≤◌, ◌<◌}
use native.Mathlib.Nat.{lt_of_not-le}
use native.Mathlib.Decide.{dec_le}
use native.Mathlib.Omega.{arith}
use Rattle.std.specs.Prelude.{IfOk}
use Rattle.calendar.specs.declared.Date.{Date}
use Rattle.calendar.specs.Dates.{last_minute, weekday_of, date_at, date_of}
use Rattle.calendar.proofs.Theorems.{direct_at, direct-is-walk}
use Rattle.calendar.proofs.Theorems.{date_at-on, date_of-on, date_of-off}
use Rattle.test_calls.specs.Dates.{Small}

-- no month has more than 31 days: the day is worked out as a remainder by 16384, divided by 535
day-small : (m : ℕ) → m ≤ last_minute → (date_at m).day < 32
unfolding direct_at
day-small m h = rw (ap (λ (d : Date). d.day) (direct-is-walk m h)) at small
  where
    small : (direct_at m).day < 32
    small = omega arith

on-small : (m : ℕ) → m ≤ last_minute → Small (date_at m)
unfolding date_at weekday_of
on-small m h =
    let o = date_at-on m h in
    record {
      year = omega (arith, o.year_to);
      month = omega (arith, o.month_to);
      day = day-small m h;
      hour = omega (arith, o.hour_to);
      minute = omega (arith, o.minute_to);
      weekday = omega arith;
    }

pub date-small : (m : ℕ) → IfOk (date_of m) Small
date-small m =
    elim (dec_le m last_minute) [
      | yes h ↦ rw (date_of-on m h) (on-small m h)
      | no h ↦ rw (← date_of-off m (lt_of_not-le h)) tt
    ]
