-- `calendar::on_calendar` meets its contract: it tests what the definition does.
-- Assumes nothing.
use Rattle.calendar.proofs.on_calendar.Goals as goal

pub returns : goal.returns
returns c = rw c.is_date.ensures
