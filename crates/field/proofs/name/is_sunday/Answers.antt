-- `field::name::is_sunday` meets its contract, case by case.
-- Assumes nothing.
use mathlib.Core.Path.{refl}
use Rattle.field.specs.Names.{lower, is_sunday}
use Rattle.field.proofs.Naming.{matched}
use Rattle.field.proofs.name.is_sunday.Goals as goal

pub returns-in-None : goal.returns-in-None
unfolding is_sunday
returns-in-None c = rw c.in-None.is

pub returns-in-Months : goal.returns-in-Months
unfolding is_sunday
returns-in-Months c = rw c.in-Months.is

pub returns-in-Weekdays : goal.returns-in-Weekdays
unfolding is_sunday lower
returns-in-Weekdays c = rw c.in-Weekdays.is (matched _ _ _ refl c.eq_ignore_ascii_case.ensures.test)
