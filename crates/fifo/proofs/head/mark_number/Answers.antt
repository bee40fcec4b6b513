-- `fifo::head::mark_number` meets its contract: a minute of the calendar has one after it.
-- Assumes nothing.
use Rattle.calendar.specs.Dates.{last_minute}
use borrow.Author.Tests.{leb-true}
use native.Mathlib.Omega.{arith}
use Rattle.fifo.proofs.head.mark_number.Goals as goal

pub overflow_add-result : goal.overflow_add-result
overflow_add-result c = omega (arith, leb-true c.in-Some.minute last_minute (rw c.in-Some.is at c.requires))

pub returns-in-None : goal.returns-in-None
returns-in-None c = rw c.in-None.is

pub returns-in-Some : goal.returns-in-Some
returns-in-Some c = rw c.in-Some.is
