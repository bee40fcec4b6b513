-- `line::user::ended` meets its contract.
-- Assumes nothing.
use borrow.Author.Tests.{eq-eqb, ne_eqb}
use Rattle.line.specs.Users.{ended}
use Rattle.line.proofs.user.ended.Goals as goal

pub returns-then-skip-next : goal.returns-then-skip-next
unfolding ended
returns-then-skip-next c = rw (← c.skip.ensures.0, eq-eqb _ _ c.if-skip-next.true)

pub returns : goal.returns
unfolding ended
returns c = rw (← c.skip.ensures.0, ne_eqb _ _ c.if-skip-next.false)
