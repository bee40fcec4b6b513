-- `test_calls::dates::date_number` meets its contract, case by case.
-- Assumes nothing.
use Rattle.std.proofs.lemmas.Result.{IfOk-at_ok}
use Rattle.test_calls.specs.Dates.{Small, date_number}
use Rattle.test_calls.proofs.dates.date_number.Goals as goal

pub parts_number-requires : goal.parts_number-requires
parts_number-requires c = IfOk-at_ok Small c.in-Ok.is c.requires

pub returns-in-Ok : goal.returns-in-Ok
unfolding date_number
returns-in-Ok c = rw c.in-Ok.is c.parts_number.ensures

pub returns-in-Err : goal.returns-in-Err
unfolding date_number
returns-in-Err c = rw (c.in-Err.is, c.from.ensures)
