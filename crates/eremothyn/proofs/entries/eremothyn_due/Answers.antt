-- `eremothyn::entries::eremothyn_due` meets its contract, by what the reader promises.
-- Assumes nothing.
use Rattle.eremothyn.specs.Answer.{answer_of}
use Rattle.eremothyn.specs.Entries.{due_number}
use Rattle.eremothyn.proofs.entries.eremothyn_due.Goals as goal

pub returns-in-Ok-true : goal.returns-in-Ok-true
unfolding due_number
returns-in-Ok-true c = rw (← c.rules_of.ensures, ← c.due.ensures, c.in-Ok-true.is, c.in-Ok-true.field-0-test)

pub returns-in-Ok-false : goal.returns-in-Ok-false
unfolding due_number
returns-in-Ok-false c = rw (← c.rules_of.ensures, ← c.due.ensures, c.in-Ok-false.is, c.in-Ok-false.field-0-test)

pub returns-in-Err : goal.returns-in-Err
unfolding due_number answer_of
returns-in-Err c = rw (← c.rules_of.ensures, ← c.due.ensures, c.in-Err.is) c.answer.ensures
