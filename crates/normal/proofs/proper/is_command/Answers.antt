-- `normal::proper::is_command` meets its contract: it tests what the definition does.
-- Assumes nothing.
use Rattle.octets.specs.Classes.{of_class}
use Rattle.normal.specs.Proper.{is_command}
use Rattle.normal.proofs.proper.is_command.Goals as goal

pub returns : goal.returns
unfolding is_command of_class
returns c = rw (c.is_in.ensures, c.byte_at.ensures, c.are_of.ensures)
