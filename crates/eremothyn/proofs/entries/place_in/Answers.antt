-- `eremothyn::entries::place_in` meets its contract, case by case.
-- Assumes nothing.
use Rattle.eremothyn.proofs.entries.place_in.Goals as goal

pub returns-in-CommandLength : goal.returns-in-CommandLength
returns-in-CommandLength c = rw c.in-CommandLength.is
