-- `normal::proper::is_zoned` meets its contract, by the name.
-- Assumes nothing.
use mathlib.Core.Path.{◌∙◌}
use Rattle.line.specs.Offsets.{is_allowed_setting}
use Rattle.normal.proofs.proper.is_zoned.Goals as goal

pub returns-then-is_zone : goal.returns-then-is_zone
unfolding is_allowed_setting
returns-then-is_zone c = c.is_offset.ensures ∙ rw (← c.is_zone.ensures, c.if-is_zone.true)

pub returns : goal.returns
unfolding is_allowed_setting
returns c = rw (← c.is_zone.ensures, c.if-is_zone.false)
