-- `crontab::owner::shifted` meets its contract.
-- Assumes nothing.
use borrow.Author.Tests.{lt-ltb, le-ltb}
use Rattle.crontab.specs.Owners.{shifted}
use Rattle.crontab.proofs.owner.shifted.Goals as goal

pub returns-then-part : goal.returns-then-part
unfolding shifted
returns-then-part c = rw (lt-ltb _ _ c.if-part.true)

pub returns : goal.returns
unfolding shifted
returns c = rw (le-ltb _ _ c.if-part.false)
