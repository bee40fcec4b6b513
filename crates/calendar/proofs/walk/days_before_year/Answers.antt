use mathlib.Core.Path.{◌≡◌, sym}
use Prim.Native.Nat.{◌+◌, ◌-◌}
use native.Mathlib.Omega.{arith}
use Rattle.calendar.specs.Gregorian.{year_days}
use Rattle.calendar.specs.Walk.{span}
use Rattle.calendar.proofs.Spans.{span-next}
use Rattle.calendar.proofs.Years.{after-cycles, years-small}
use Rattle.calendar.proofs.walk.days_before_year.Goals as goal
use Rattle.calendar.proofs.walk.days_before_year.Goals.{After-year_days-days}

-- the days with one year more
more : (c : After-year_days-days)
    → c.loop-at.days + c.year_days-days.result ≡ span year_days 1970 (c.loop-at.at + 1 - 1970)
more c =
    omega (arith, span-next year_days 1970 c.loop-at.at c.loop-at.invariant.0, c.year_days-days.ensures)

pub loop-at-init : goal.loop-at-init
loop-at-init c = (omega arith, sym (after-cycles _))

pub overflow_add-days : goal.overflow_add-days
overflow_add-days c = omega (arith, more c, years-small (c.loop-at.at + 1 - 1970) (omega arith))

pub loop-at-preserved : goal.loop-at-preserved
loop-at-preserved c = (omega arith, more c)

pub returns : goal.returns
returns c = let e : c.loop-at.at ≡ c.args.year = omega arith in rw (← e) c.loop-at.invariant.1
