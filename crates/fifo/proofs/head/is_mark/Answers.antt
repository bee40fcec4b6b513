-- `fifo::head::is_mark` meets its contract, case by case.
-- Assumes nothing.
use Rattle.fifo.proofs.head.is_mark.Goals as goal

pub returns-in-None : goal.returns-in-None
returns-in-None c = rw c.in-None.is

pub returns-in-Some : goal.returns-in-Some
returns-in-Some c = rw c.in-Some.is
