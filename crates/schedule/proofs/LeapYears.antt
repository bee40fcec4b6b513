-- How soon a leap year begins that begins on a given weekday: a test over the 400 years of the cycle, which antt computes,
-- carried to all years. Year number n is the year 1970 + n.
-- Assumes nothing.
use mathlib.Core.Path.{◌≡◌, ◌∙◌}
use mathlib.Core.Bool.{Bool, ◌&&◌}
use Prim.Native.Nat.{ℕ, zero, suc, ◌+◌, ◌*◌, ◌/◌, ◌%◌, ◌≤◌, ◌<◌}
use native.Mathlib.Omega.{arith}
use lib.Dec.{T, leb, eqb, leb→le}
use mir.Facts.{and_yes}
use Rattle.calendar.specs.Gregorian.{leap, year_days}
use Rattle.calendar.specs.Dates.{weekday_of}
use Rattle.calendar.proofs.Tests.{every, at_each}
use Rattle.calendar.proofs.Spans.{span-append}
use Rattle.calendar.proofs.Theorems.{leap-period, cycle-days, start_at, start-at}
use Rattle.schedule.specs.Search.{least_of}
use Rattle.schedule.specs.Gap.{gap_days}
use Rattle.schedule.proofs.Search.{least_of-least}

unfoldable pub leap_at : ℕ → Bool
leap_at n = leap (1970 + n)

-- a leap year whose first day falls on weekday w
unfoldable pub leap_on : ℕ → ℕ → Bool
leap_on w n = leap_at n && eqb (weekday_of (start_at n)) w

-- the years 1970 to 1996, in days: leap years begin on all seven weekdays in them
abbrev pub first_days : ℕ
first_days = 9862

-- the next year that passes q begins at most g days after year n begins, and the first of all so early that even its last
-- day is one of the calendar's first days
pub record Recurs (q : ℕ → Bool) (g : ℕ) : Type 0 where
  pub sooner : first_days ≤ g
  pub first : (j : ℕ) × T (q j) × (start_at j + 366 ≤ first_days)
  pub next : (n : ℕ) → (j : ℕ) × (n < j) × T (q j) × (start_at j ≤ start_at n + g)

early : (ℕ → Bool) → ℕ → Bool
early q f = let j = least_of q f 0 in q j && leb (start_at j + 366) first_days

reach : (ℕ → Bool) → ℕ → ℕ → ℕ → Bool
reach q g f n = let j = least_of q f (suc n) in q j && leb (start_at j) (start_at n + g)

start-shift : (n : ℕ) → start_at (n + 400) ≡ start_at n + 146097
start-shift n =
    start-at (n + 400) ∙ span-append year_days 1970 n 400
    ∙ omega (arith, start-at n, cycle-days (1970 + n))

module _ (q : ℕ → Bool) (g f : ℕ) (period : (n : ℕ) → q (n + 400) ≡ q n) where
  abbrev Next : ℕ → Type 0
  Next n = (j : ℕ) × (n < j) × T (q j) × (start_at j ≤ start_at n + g)

  reached : (n : ℕ) → T (reach q g f n) → Next n
  unfolding reach
  reached n t =
      let j = least_of q f (suc n) in
      let p = and_yes (q j) (leb (start_at j) (start_at n + g)) t in
      (j, (least_of-least q f (suc n)).low, p.0, leb→le _ _ p.1)

  later : (n : ℕ) → Next n → Next (n + 400)
  later n (j, l, t, b) = (j + 400, omega arith, rw (period j) t, omega (arith, start-shift j, start-shift n))

  cycles : (c n : ℕ) → Next n → Next (n + c * 400)
  cycles zero n x = let e : n + 0 ≡ n = omega arith in rw e x
  cycles (suc c) n x = let e : n + suc c * 400 ≡ n + c * 400 + 400 = omega arith in rw e (later (n + c * 400) (cycles c n x))

  recurs : first_days ≤ g → T (early q f) → T (every (reach q g f) 400) → Recurs q g
  unfolding early
  recurs h s t =
      record {
        sooner = h;
        first = let j = least_of q f 0 in let p = and_yes (q j) (leb (start_at j + 366) first_days) s in (j, p.0, leb→le _ _ p.1);
        next =
            λ n.
            let e : n % 400 + n / 400 * 400 ≡ n = omega arith in
            rw e at (cycles (n / 400) (n % 400) (reached (n % 400) (at_each (reach q g f) 400 t (n % 400) (omega arith))));
      }

leap_at-period : (n : ℕ) → leap_at (n + 400) ≡ leap_at n
unfolding leap_at
leap_at-period n = let e : 1970 + (n + 400) ≡ 1970 + n + 400 = omega arith in rw e (leap-period (1970 + n))

leap_on-period : (w n : ℕ) → leap_on w (n + 400) ≡ leap_on w n
unfolding leap_on weekday_of
leap_on-period w n =
    let e : (start_at n + 146097 + 4) % 7 ≡ (start_at n + 4) % 7 = omega arith in
    rw (leap_at-period n, start-shift n, e)

every-weekday : T (every (λ w. early (leap_on w) 41 && every (reach (leap_on w) gap_days 41) 400) 7)
unfolding early reach leap_on leap_at leap weekday_of least_of start_at
every-weekday = tt

-- 40 years: as from 2088 to 2128
pub leap-on-soon : (w : ℕ) → w < 7 → Recurs (leap_on w) gap_days
leap-on-soon w h =
    let t = at_each (λ w. early (leap_on w) 41 && every (reach (leap_on w) gap_days 41) 400) 7 every-weekday w h in
    let p = and_yes (early (leap_on w) 41) (every (reach (leap_on w) gap_days 41) 400) t in
    recurs (leap_on w) gap_days 41 (leap_on-period w) (omega arith) p.0 p.1
