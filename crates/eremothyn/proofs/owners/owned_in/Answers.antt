-- `eremothyn::owners::owned_in` meets its contract, case by case.
-- Assumes nothing.
use Rattle.eremothyn.proofs.owners.owned_in.Goals as goal

pub returns-in-UserLength : goal.returns-in-UserLength
returns-in-UserLength c = rw c.in-UserLength.is

pub returns-in-GroupLength : goal.returns-in-GroupLength
returns-in-GroupLength c = rw c.in-GroupLength.is

pub returns-in-ClassLength : goal.returns-in-ClassLength
returns-in-ClassLength c = rw c.in-ClassLength.is
