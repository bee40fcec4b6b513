-- `test_calls::dates::calendar_minute` meets its contract, by what the calendar promises.
-- Assumes nothing.
use mathlib.Core.Path.{ap, ◌∙◌}
use Rattle.test_calls.specs.Numbers.{number_of}
use Rattle.test_calls.proofs.dates.calendar_minute.Goals as goal

pub returns : goal.returns
returns c = c.number_of.ensures ∙ ap number_of c.minute_of.ensures
