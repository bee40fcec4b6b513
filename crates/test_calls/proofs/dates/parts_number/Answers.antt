-- `test_calls::dates::parts_number` meets its contract: it is the definition.
-- Assumes nothing.
use mathlib.Core.Path.{refl}
use Rattle.test_calls.specs.Dates.{parts_number}
use Rattle.test_calls.proofs.dates.parts_number.Goals as goal

pub returns : goal.returns
unfolding parts_number
returns c = refl
