-- `field::name::read` meets its contract, case by case.
-- Assumes nothing.
use mathlib.Core.Path.{refl}
use native.Mathlib.Omega.{arith}
use Rattle.field.specs.Names.{lower, name_of, month_names, weekday_names}
use Rattle.field.proofs.name.read.Goals as goal

pub named-requires : goal.named-requires
unfolding lower
named-requires c = ((refl, refl), omega arith)

pub named-requires-in-Weekdays : goal.named-requires-in-Weekdays
unfolding lower
named-requires-in-Weekdays c = ((refl, refl), omega arith)

pub returns-in-None : goal.returns-in-None
unfolding name_of
returns-in-None c = rw c.in-None.is

pub returns-in-Months : goal.returns-in-Months
unfolding name_of month_names
returns-in-Months c = rw c.in-Months.is c.named.ensures

pub returns-in-Weekdays : goal.returns-in-Weekdays
unfolding name_of weekday_names
returns-in-Weekdays c = rw c.in-Weekdays.is c.named-in-Weekdays.ensures
