-- `schedule::matches_on` meets its contract, by the date that the calendar gives.
-- Assumes nothing.
use mathlib.Core.Path.{ap, ◌∙◌}
use Rattle.calendar.specs.declared.Date.{Date}
use Rattle.schedule.specs.Match.{matches_day, matches_on}
use Rattle.schedule.proofs.matches_on.Goals as goal

pub returns : goal.returns
unfolding matches_on
returns c =
    c.matches_day.ensures
    ∙ ap (λ (d : Date). matches_day c.args.s d.month d.day d.weekday) c.date_at-date.ensures
