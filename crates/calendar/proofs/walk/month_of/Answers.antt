use native.Mathlib.Omega.{arith}
use Rattle.calendar.specs.Gregorian.{month_days}
use Rattle.calendar.specs.Dates.{month_of}
use Rattle.calendar.proofs.Spans.{going_before, going_on, going-ends}
use Rattle.calendar.proofs.Years.{months-going}
use Rattle.calendar.proofs.walk.month_of.Goals as goal

pub loop-rest-init : goal.loop-rest-init
loop-rest-init c = months-going _ _ c.requires

pub returns-then-rest-days : goal.returns-then-rest-days
unfolding month_of
returns-then-rest-days c = going-ends (month_days _) c.loop-rest.invariant c.month_days-days.ensures c.if-rest-days.true

pub overflow_add-at : goal.overflow_add-at
overflow_add-at c = omega (arith, going_before (month_days _) c.loop-rest.invariant)

pub loop-rest-smaller : goal.loop-rest-smaller
loop-rest-smaller c = omega (arith, going_before (month_days _) c.loop-rest.invariant)

pub loop-rest-preserved : goal.loop-rest-preserved
loop-rest-preserved c = going_on (month_days _) c.loop-rest.invariant c.month_days-days.ensures c.if-rest-days.false
