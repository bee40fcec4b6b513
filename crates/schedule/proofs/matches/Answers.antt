-- `schedule::matches` meets its contract, by the date that the calendar gives.
-- Assumes nothing.
use mathlib.Core.Path.{ap, ◌∙◌}
use borrow.Author.Tests.{le-leb, lt-leb}
use Rattle.schedule.specs.Match.{matches_date, matches, is_due}
use Rattle.schedule.proofs.matches.Goals as goal

pub returns-then-minute-gt-LAST_MINUTE : goal.returns-then-minute-gt-LAST_MINUTE
unfolding is_due
returns-then-minute-gt-LAST_MINUTE c = rw (lt-leb _ _ c.if-minute-gt-LAST_MINUTE.true)

pub returns : goal.returns
unfolding is_due matches
returns c =
    rw (le-leb _ _ c.if-minute-gt-LAST_MINUTE.false) (c.matches_date.ensures ∙ ap (matches_date c.args.s) c.date_at.ensures)
