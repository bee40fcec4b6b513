-- `normal::proper::is_offset` meets its contract, by what is read.
-- Assumes nothing.
use Rattle.std.specs.Prelude.{is_some}
use mathlib.Core.Path.{ap, ◌∙◌}
use Rattle.normal.proofs.Zones.{offset_read}
use Rattle.normal.proofs.proper.is_offset.Goals as goal

pub returns : goal.returns
returns c = c.is_some.ensures ∙ ap is_some c.read.ensures ∙ offset_read _
