-- `normal::entry::write_field` meets its contract: one behind the other.
-- Assumes nothing.
use Rattle.octets.proofs.Written.{wrote-next}
use Rattle.normal.specs.Inner.{spaced}
use Rattle.normal.proofs.entry.write_field.Goals as goal

pub returns : goal.returns
unfolding spaced
returns c = wrote-next c.write-next.ensures c.byte.ensures
