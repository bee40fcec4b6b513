-- `line::user::account_at` meets its contract: it tests what the definition does.
-- Assumes nothing.
use Rattle.line.specs.Users.{account_at}
use Rattle.line.proofs.user.account_at.Goals as goal

pub returns-then-at-end : goal.returns-then-at-end
unfolding account_at
returns-then-at-end c = rw (← c.skip-end.ensures.0, ← c.byte_at.ensures, c.if-at-end.true)

pub returns : goal.returns
unfolding account_at
returns c = rw (← c.skip-end.ensures.0, ← c.byte_at.ensures, c.if-at-end.false)
