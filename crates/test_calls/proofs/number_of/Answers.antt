-- `test_calls::number_of` meets its contract, case by case.
-- Assumes nothing.
use Rattle.test_calls.specs.Numbers.{number_of}
use Rattle.test_calls.proofs.number_of.Goals as goal

pub returns-in-Ok : goal.returns-in-Ok
unfolding number_of
returns-in-Ok c = rw c.in-Ok.is

pub returns-in-Err : goal.returns-in-Err
unfolding number_of
returns-in-Err c = rw (c.in-Err.is, c.from.ensures)
