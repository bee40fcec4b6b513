-- `test_calls::dates::calendar_date_by_walk` meets its contract, by what the calendar promises.
-- Assumes nothing.
use mathlib.Core.Path.{ap, ◌∙◌}
use Rattle.test_calls.specs.Dates.{date_number}
use Rattle.test_calls.proofs.Numbers.{date-small}
use Rattle.test_calls.proofs.dates.calendar_date_by_walk.Goals as goal

pub date_number-requires : goal.date_number-requires
date_number-requires c = rw c.date_by_walk.ensures (date-small c.args.minute)

pub returns : goal.returns
returns c = c.date_number.ensures ∙ ap date_number c.date_by_walk.ensures
