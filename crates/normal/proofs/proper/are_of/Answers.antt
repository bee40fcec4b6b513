-- `normal::proper::are_of` meets its contract: the run of such bytes goes on to the end.
-- Assumes nothing.
use Rattle.octets.proofs.Places.{skipped-whole}
use Rattle.normal.proofs.proper.are_of.Goals as goal

pub returns : goal.returns
returns c = rw c.skip.ensures.0 (skipped-whole _ _)
