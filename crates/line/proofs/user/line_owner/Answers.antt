-- `line::user::line_owner` meets its contract.
-- Assumes nothing.
use Rattle.line.specs.Owners.{named_owner, line_owner}
use Rattle.line.proofs.user.line_owner.Goals as goal

pub returns-in_default : goal.returns-in_default
unfolding line_owner named_owner
returns-in_default c = rw (← c.skip-at.ensures.0, ← c.time_runs.ensures, ← c.behind.ensures, ← c.column_at.ensures, c.in_default.is)

pub returns : goal.returns
unfolding line_owner named_owner
returns c = rw (← c.skip-at.ensures.0, ← c.time_runs.ensures, ← c.behind.ensures, ← c.column_at.ensures, c.in-Some.is)
