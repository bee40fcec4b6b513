-- `eremothyn::dates::date_part` meets its contract, by what the calendar promises.
-- Assumes nothing.
use Rattle.eremothyn.specs.Answer.{answer_of, result_number}
use Rattle.eremothyn.specs.Dates.{date_part}
use Rattle.eremothyn.proofs.dates.date_part.Goals as goal

pub returns-in-Ok : goal.returns-in-Ok
unfolding date_part result_number
returns-in-Ok c = rw (← c.date_of.ensures, c.in-Ok.is) c.part_in.ensures

pub returns-in-Err : goal.returns-in-Err
unfolding date_part result_number answer_of
returns-in-Err c = rw (← c.date_of.ensures, c.in-Err.is) c.answer.ensures
