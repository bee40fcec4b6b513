-- `normal::proper::is_value` meets its contract: it tests what the definition does.
-- Assumes nothing.
use Rattle.normal.specs.Proper.{is_value}
use Rattle.normal.proofs.proper.is_value.Goals as goal

pub returns : goal.returns
unfolding is_value
returns c = rw (c.is_part.ensures, c.is_bare_value.ensures, c.are_of.ensures)
