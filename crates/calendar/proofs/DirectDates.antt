-- The date of a minute with no walk, as the code works it out: at every minute of the calendar the walk comes to the same.
-- Assumes nothing.
use mathlib.Core.Path.{◌≡◌, ap}
use mathlib.Core.Bool.{Bool, true, false, not, cond, ◌&&◌, ◌||◌}
use Prim.Native.Nat.{ℕ, ◌+◌, ◌-◌, ◌*◌, ◌/◌, ◌%◌, ◌≤◌, ◌<◌}
use native.Mathlib.Nat.{lt_of_not-le}
use native.Mathlib.Decide.{dec_le}
use native.Mathlib.Omega.{arith}
use lib.Dec.{T, eqb, leb, eqb→eq}
use mir.Facts.{and_yes}
use mir.Val.{bool_byte}
use borrow.Author.Tests.{eq-eqb, ne_eqb, le-leb, lt-leb}
use Rattle.calendar.specs.declared.walk.Place.{Place}
use Rattle.calendar.specs.declared.Date.{Date}
use Rattle.calendar.specs.Gregorian.{leap, year_days, month_table, month_length, month_days}
use Rattle.calendar.specs.Walk.{span, walk}
use Rattle.calendar.specs.Dates.{last_minute, calendar_days, weekday_of, year_of, month_of, date_at}
use Rattle.calendar.proofs.Tests.{every, at_each}
use Rattle.calendar.proofs.Spans.{falls-walk, span_none, span-next}
use Rattle.calendar.proofs.Years.{calendar-days}
use Rattle.calendar.proofs.YearStarts.{start-closed}

-- ---- the year

-- A century has 36,524 days and every fourth a day more; a year has 365, and every fourth of a century a day more. So number c
-- begins at day p + c / 4, where p is c times 36,524 or 365. Here day d is in number c, and x is what is left of 4 * d + 3.
fourths : (d p c x : ℕ) → 4 * d + 3 ≡ 4 * p + c + x → p + c / 4 + x / 4 ≡ d
fourths d p c x h = omega arith

-- only a fourth one has the day more
fourth-last : (d p c x k : ℕ) → 4 * d + 3 ≡ 4 * p + c + x → x / 4 ≡ k → x ≤ 4 * k → c % 4 ≡ 3
fourth-last d p c x k h e l = omega arith

-- Years begin in March. The century of day n from 0000-03-01, and its day there.
century : ℕ → ℕ
century n = (4 * n + 3) / 146097

century_day : ℕ → ℕ
century_day n = (4 * n + 3) % 146097 / 4

-- the year of day d of a century, and its day there
year_in : ℕ → ℕ
year_in d = (4 * d + 3) / 1461

year_day : ℕ → ℕ
year_day d = (4 * d + 3) % 1461 / 4

century-sum : (n : ℕ) → 36524 * century n + century n / 4 + century_day n ≡ n
unfolding century century_day
century-sum n = fourths n (36524 * ((4 * n + 3) / 146097)) _ _ (omega arith)

century-last : (n : ℕ) → century_day n ≡ 36524 → century n % 4 ≡ 3
unfolding century century_day
century-last n e = fourth-last n (36524 * ((4 * n + 3) / 146097)) _ _ 36524 (omega arith) e (omega arith)

century_day-most : (n : ℕ) → century_day n ≤ 36524
unfolding century_day
century_day-most n = omega arith

year-sum : (d : ℕ) → 365 * year_in d + year_in d / 4 + year_day d ≡ d
unfolding year_in year_day
year-sum d = fourths d (365 * ((4 * d + 3) / 1461)) _ _ (omega arith)

year-last : (d : ℕ) → year_day d ≡ 365 → year_in d % 4 ≡ 3
unfolding year_in year_day
year-last d e = fourth-last d (365 * ((4 * d + 3) / 1461)) _ _ 365 (omega arith) e (omega arith)

year_day-most : (d : ℕ) → year_day d ≤ 365
unfolding year_day
year_day-most d = omega arith

year_in-most : (d : ℕ) → d ≤ 36524 → year_in d < 100
unfolding year_in
year_in-most d h = omega arith

-- the last day of the hundredth year is the last that a century can have
hundredth-last : (d : ℕ) → d ≤ 36524 → year_day d ≡ 365 → year_in d ≡ 99 → d ≡ 36524
hundredth-last d h e f = omega (arith, year-sum d)

year-least : (y : ℕ) → 365 ≤ year_days y
unfolding year_days
year-least y = go (leap y)
  where
    go : (b : Bool) → 365 ≤ cond b 366 365
    go true = omega arith
    go false = omega arith

-- year c * 100 + z + 1 is leap if z is the last of its four years, and at a century's end c the last of four too
leap-last : (c z : ℕ) → z < 100 → z % 4 ≡ 3 → (z ≡ 99 → c % 4 ≡ 3) → leap (c * 100 + z + 1) ≡ true
unfolding leap
leap-last c z h e f =
    let four : (c * 100 + z + 1) % 4 ≡ 0 = omega arith in
    rw (eq-eqb _ 0 four) (elim (dec_le 99 z) [ yes k ↦ century-end (omega arith) | no k ↦ other (lt_of_not-le k) ])
  where
    century-end : z ≡ 99 → (not (eqb ((c * 100 + z + 1) % 100) 0) || eqb ((c * 100 + z + 1) % 400) 0) ≡ true
    century-end k =
        let last : c % 4 ≡ 3 = f k in
        let hundred : (c * 100 + z + 1) % 100 ≡ 0 = omega arith in
        let whole : c * 100 + z + 1 ≡ 400 * (c / 4 + 1) = omega arith in
        let cycle : (c * 100 + z + 1) % 400 ≡ 0 = rw whole (omega arith) in
        rw (eq-eqb _ 0 hundred, eq-eqb _ 0 cycle)

    other : z < 99 → (not (eqb ((c * 100 + z + 1) % 100) 0) || eqb ((c * 100 + z + 1) % 400) 0) ≡ true
    other k = rw (ne_eqb ((c * 100 + z + 1) % 100) 0 (λ q. omega arith))

-- the first day of year c * 100 + z + 1, by its number z in its century
year-start : (c z : ℕ) → z < 100 → 1969 ≤ c * 100 + z
    → span year_days 1970 (c * 100 + z + 1 - 1970) + 719162 ≡ 36524 * c + c / 4 + 365 * z + z / 4
year-start c z h k =
    let e : c * 100 + z + 1 - 1970 + 1969 ≡ c * 100 + z = omega arith in
    let a : (c * 100 + z) / 4 ≡ 25 * c + z / 4 = omega arith in
    let b : (c * 100 + z) / 100 ≡ c = omega arith in
    let f : (c * 100 + z) / 400 ≡ c / 4 = omega arith in
    omega (arith, rw (e, a, b, f) at (start-closed (c * 100 + z + 1 - 1970)))

-- The day is day r of the year y that begins in March: the next January comes 306 days after that.
record FromMarch (day y r : ℕ) : Type 0 where
  from : 1969 ≤ y
  to : y ≤ 9999
  most : r ≤ 365
  sum : span year_days 1970 (y + 1 - 1970) + r ≡ day + 306
  leap_day : r ≡ 365 → leap (y + 1) ≡ true

from-march : (day : ℕ) → day < calendar_days
    → let n = day + 719468 in let d = century_day n in FromMarch day (century n * 100 + year_in d) (year_day d)
unfolding century century_day year_in year_day
from-march day h =
    let n = day + 719468 in
    let c = century n in
    let d = century_day n in
    let z = year_in d in
    let s = year_in-most d (century_day-most n) in
    let from : 1969 ≤ c * 100 + z = omega arith in
    record {
      from = from;
      to = omega arith;
      most = year_day-most d;
      sum = omega (arith, year-start c z s from, century-sum n, year-sum d);
      leap_day = λ e. leap-last c z s (year-last d e) (λ q. century-last n (hundredth-last d (century_day-most n) e q));
    }

module _ {day y r : ℕ} (f : FromMarch day y r) (h : day < calendar_days) where
  -- January and February are in the next year
  late : 306 ≤ r → year_of day ≡ record { at = y + 1; rest = r - 306 }
  unfolding year_of
  late k =
      falls-walk year_days 1970 8030 day _
      (record {
        from = omega (arith, f.from);
        before = elim (dec_le 9999 y) [ yes l ↦ absurd (past l) | no l ↦ omega (arith, lt_of_not-le l) ];
        inside = omega (arith, f.most, year-least (y + 1));
        sum = omega (arith, f.sum);
      })
    where
      past : 9999 ≤ y → ⊥
      past l =
          let e : y + 1 - 1970 ≡ 8030 = omega (arith, f.to) in
          omega (arith, f.sum, ap (span year_days 1970) e, calendar-days)

  -- and the other months end with the year
  early : r < 306 → year_of day ≡ record { at = y; rest = year_days y - 306 + r }
  unfolding year_of
  early k =
      let from : 1970 ≤ y = elim (dec_le 1970 y) [ yes l ↦ l | no l ↦ absurd (before (omega (arith, lt_of_not-le l, f.from))) ] in
      falls-walk year_days 1970 8030 day _
      (record {
        from = from;
        before = omega (arith, f.to);
        inside = omega (arith, year-least y);
        sum = omega (arith, f.sum, span-next year_days 1970 y from, year-least y);
      })
    where
      before : y ≡ 1969 → ⊥
      before e =
          let z : y + 1 - 1970 ≡ 0 = omega arith in
          omega (arith, f.sum, ap (span year_days 1970) z, span_none year_days 1970)

  -- a 29 February is in a leap year
  in-february : 306 ≤ r → r - 306 < 59 + bool_byte (leap (y + 1))
  in-february k = elim (dec_le 365 r) [ yes l ↦ rw (f.leap_day (omega (arith, f.most))) (omega (arith, f.most)) | no l ↦ omega (arith, lt_of_not-le l) ]

-- ---- the month

-- the month of day r from March on
month_from : ℕ → Place
month_from r = record { at = (r * 535 + 49484) / 16384 - 12 * bool_byte (leb 306 r); rest = (r * 535 + 49484) % 16384 / 535 }

same : Place → Place → Bool
same p q = eqb p.at q.at && eqb p.rest q.rest

same_place : (p q : Place) → T (same p q) → p ≡ q
unfolding same
same_place p q t =
    let (a, b) = and_yes (eqb p.at q.at) (eqb p.rest q.rest) t in
    λ i. record { at = eqb→eq p.at q.at a i; rest = eqb→eq p.rest q.rest b i }

late-right : Bool → ℕ → Bool
late-right b k = same (month_from (k + 306)) (walk (month_length b) 1 12 k)

early-right : Bool → ℕ → Bool
early-right b r = same (month_from r) (walk (month_length b) 1 12 (cond b 366 365 - 306 + r))

lates-right : (b : Bool) → T (every (late-right b) (59 + bool_byte b))
unfolding late-right same month_from walk month_length month_table
lates-right true = tt
lates-right false = tt

earlies-right : (b : Bool) → T (every (early-right b) 306)
unfolding early-right same month_from walk month_length month_table
earlies-right true = tt
earlies-right false = tt

late-month : (year k : ℕ) → k < 59 + bool_byte (leap year) → month_from (k + 306) ≡ month_of year k
unfolding month_of month_days late-right
late-month year k h = same_place _ _ (at_each (late-right (leap year)) _ (lates-right (leap year)) k h)

early-month : (year r : ℕ) → r < 306 → month_from r ≡ month_of year (year_days year - 306 + r)
unfolding month_of month_days year_days early-right
early-month year r h = same_place _ _ (at_each (early-right (leap year)) 306 (earlies-right (leap year)) r h)

-- from January on there are twelve months to take off
pub months-left : (r : ℕ) → 12 * bool_byte (leb 306 r) ≤ (r * 535 + 49484) / 16384
months-left r = elim (dec_le 306 r) [ yes k ↦ rw (le-leb 306 r k) (omega arith) | no k ↦ rw (lt-leb 306 r (lt_of_not-le k)) (omega arith) ]

pub bit-small : (b : Bool) → bool_byte b ≤ 1
bit-small true = omega arith
bit-small false = omega arith

-- ---- year and month together

module _ {day y r : ℕ} (f : FromMarch day y r) (h : day < calendar_days) where
  year-direct : y + bool_byte (leb 306 r) ≡ (year_of day).at
  year-direct =
      elim (dec_le 306 r) [
        | yes k ↦ rw (le-leb 306 r k, late f h k)
        | no k ↦ let l = lt_of_not-le k in let e : y + 0 ≡ y = omega arith in rw (lt-leb 306 r l, early f h l, e)
      ]

  month-direct : month_from r ≡ month_of (year_of day).at (year_of day).rest
  month-direct =
      elim (dec_le 306 r) [
        | yes k ↦ let e : r - 306 + 306 ≡ r = omega arith in
            rw (late f h k, ← late-month (y + 1) (r - 306) (in-february f h k), e)
        | no k ↦ let l = lt_of_not-le k in rw (early f h l, ← early-month y r l)
      ]

-- ---- the date

unfoldable pub direct_at : ℕ → Date
direct_at m =
    let n = 4 * (m / 1440 + 719468) + 3 in
    let c = 4 * (n % 146097 / 4) + 3 in
    let r = c % 1461 / 4 in
    let k = r * 535 + 49484 in
    let next = bool_byte (leb 306 r) in
    record {
      year = n / 146097 * 100 + c / 1461 + next;
      month = k / 16384 - 12 * next;
      day = k % 16384 / 535 + 1;
      hour = m % 1440 / 60;
      minute = m % 1440 % 60;
      weekday = weekday_of (m / 1440);
    }

-- at every minute of the calendar this is the date that the walk year by year and month by month comes to
pub direct-is-walk : (m : ℕ) → m ≤ last_minute → direct_at m ≡ date_at m
unfolding direct_at date_at century century_day year_in year_day month_from
direct-is-walk m h =
    let l : m / 1440 < calendar_days = omega arith in
    let f = from-march (m / 1440) l in
    let e : m % 1440 % 60 ≡ m % 60 = omega arith in
    rw (← month-direct f l, ← year-direct f l, e)
