-- `schedule::day::matches_day` meets its contract: it tests what the definition does.
-- Assumes nothing.
use Rattle.schedule.specs.Match.{by_day_rule, matches_day}
use Rattle.schedule.proofs.day.matches_day.Goals as goal

pub returns-then-both_must : goal.returns-then-both_must
unfolding matches_day by_day_rule
returns-then-both_must c =
    rw (← c.both_must.ensures, c.if-both_must.true, c.has-by_weekday.ensures, c.has-by_day.ensures, c.has-by_month.ensures)

pub returns : goal.returns
unfolding matches_day by_day_rule
returns c =
    rw (← c.both_must.ensures, c.if-both_must.false, c.has-by_weekday.ensures, c.has-by_day.ensures, c.has-by_month.ensures)
