-- `eremothyn::answer::answer` meets its contract, case by case.
-- Assumes nothing.
use Rattle.eremothyn.specs.Answer.{answer_of}
use Rattle.eremothyn.proofs.answer.answer.Goals as goal

pub returns-in-Ok : goal.returns-in-Ok
unfolding answer_of
returns-in-Ok c = rw c.in-Ok.is

pub returns-in-Err : goal.returns-in-Err
unfolding answer_of
returns-in-Err c = rw (c.in-Err.is, c.from.ensures)
