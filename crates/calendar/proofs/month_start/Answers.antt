-- `calendar::month_start` meets its contract.
-- Assumes nothing.
use mathlib.Core.Bool.{Bool, true, false, cond}
use Prim.Native.Nat.{ℕ, ◌+◌, ◌-◌, ◌/◌, ◌%◌, ◌≤◌}
use native.Mathlib.Omega.{arith}
use borrow.Author.Tests.{leb-true}
use Rattle.calendar.specs.Gregorian.{leap, year_days, month_days}
use Rattle.calendar.specs.Dates.{days_before, month_start}
use Rattle.calendar.proofs.Tests.{and-true}
use Rattle.calendar.proofs.Spans.{span-mono}
use Rattle.calendar.proofs.Years.{years-small, months-days}
use Rattle.calendar.proofs.month_start.Goals as goal
use Rattle.calendar.proofs.month_start.Goals.{Then-year}

-- a year that passed the test is on the calendar
on : (c : Then-year) → (1970 ≤ c.args.count / 12) × (c.args.count / 12 ≤ 9999)
on c = let t = and-true _ _ c.if-year.true in (leb-true _ _ t.0, leb-true _ _ t.1)

year-most : (y : ℕ) → year_days y ≤ 366
unfolding year_days
year-most y = go (leap y)
  where
    go : (b : Bool) → cond b 366 365 ≤ 366
    go true = omega arith
    go false = omega arith

pub days_before_year-requires : goal.days_before_year-requires
days_before_year-requires c = on c

pub overflow_add-result : goal.overflow_add-result
overflow_add-result c =
    let n = c.args.count in
    let o = on c.before.before in
    omega (
      arith,
      c.days_before_year.ensures,
      c.days_before_month.ensures,
      years-small (n / 12 - 1970) (omega (arith, o.1)),
      span-mono (month_days (n / 12)) 1 {a = n % 12 + 1 - 1} {b = 12} (omega arith),
      months-days (n / 12),
      year-most (n / 12),
    )

pub returns-then-year : goal.returns-then-year
unfolding month_start days_before
returns-then-year c = rw c.if-year.true (omega (arith, c.days_before_year.ensures, c.days_before_month.ensures))

pub returns : goal.returns
unfolding month_start
returns c = rw c.if-year.false
