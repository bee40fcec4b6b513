-- `eremothyn::entries::eremothyn_next` meets its contract, by what the reader promises.
-- Assumes nothing.
use Rattle.eremothyn.proofs.entries.eremothyn_next.Goals as goal

pub returns : goal.returns
returns c = rw (← c.rules_of.ensures, ← c.next.ensures) c.next_number.ensures
