-- `normal::proper::is_schedule` meets its contract: field by field.
-- Assumes nothing.
use Rattle.normal.specs.Proper.{is_schedule}
use Rattle.normal.proofs.proper.is_schedule.Goals as goal

pub returns : goal.returns
unfolding is_schedule
returns c =
    let minutes = c.is_field-minutes.ensures in
    let hours = c.is_field-hours.ensures in
    let days = c.is_field-days.ensures in
    let months = c.is_field-months.ensures in
    let weekdays = c.is_field-weekdays.ensures in
    rw (minutes, hours, days, months, weekdays)
