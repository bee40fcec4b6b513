-- `calendar::gregorian::is_leap` meets its contract: it is the leap rule as the definition has it.
-- Assumes nothing.
use mathlib.Core.Path.{refl}
use Rattle.calendar.specs.Gregorian.{leap}
use Rattle.calendar.proofs.gregorian.is_leap.Goals as goal

pub returns : goal.returns
unfolding leap
returns c = refl
