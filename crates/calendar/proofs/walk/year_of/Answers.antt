use native.Mathlib.Omega.{arith}
use Rattle.calendar.specs.Gregorian.{year_days}
use Rattle.calendar.specs.Dates.{year_of}
use Rattle.calendar.proofs.Spans.{going_before, going_on, going-ends}
use Rattle.calendar.proofs.Years.{years-going}
use Rattle.calendar.proofs.walk.year_of.Goals as goal

pub loop-rest-init : goal.loop-rest-init
loop-rest-init c = years-going _ c.requires

pub returns-then-rest-days : goal.returns-then-rest-days
unfolding year_of
returns-then-rest-days c = going-ends year_days c.loop-rest.invariant c.year_days-days.ensures c.if-rest-days.true

pub overflow_add-at-in-loop-rest : goal.overflow_add-at-in-loop-rest
overflow_add-at-in-loop-rest c = omega (arith, going_before year_days c.loop-rest.invariant)

pub loop-rest-smaller : goal.loop-rest-smaller
loop-rest-smaller c = omega (arith, going_before year_days c.loop-rest.invariant)

pub loop-rest-preserved : goal.loop-rest-preserved
loop-rest-preserved c = going_on year_days c.loop-rest.invariant c.year_days-days.ensures c.if-rest-days.false
