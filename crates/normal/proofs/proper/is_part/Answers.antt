-- `normal::proper::is_part` meets its contract: bare, or without one of the two quotes.
-- Assumes nothing.
use Rattle.normal.specs.Proper.{is_quotable}
use Rattle.normal.proofs.proper.is_part.Goals as goal

pub returns : goal.returns
unfolding is_quotable
returns c = rw (c.if-bare.false, c.are_of-2.ensures, c.are_of.ensures)
