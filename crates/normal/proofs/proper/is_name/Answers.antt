-- `normal::proper::is_name` meets its contract: it tests what the definition does.
-- Assumes nothing.
use Rattle.normal.specs.Proper.{is_name}
use Rattle.normal.proofs.proper.is_name.Goals as goal

pub returns : goal.returns
unfolding is_name
returns c = rw (c.is_part.ensures, c.is_bare_name.ensures, c.are_of.ensures)
