-- `schedule::never::can_fire` meets its contract, by the closed test (`can-fire` of Gap).
-- Assumes nothing.
use Rattle.schedule.proofs.Gap.{can-fire}
use Rattle.schedule.proofs.never.can_fire.Goals as goal

pub returns : goal.returns
returns c = rw (can-fire c.args.s, c.some_day.ensures, c.time_from.ensures)
