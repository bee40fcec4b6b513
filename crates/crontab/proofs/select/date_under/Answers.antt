-- `crontab::select::date_under` meets its contract.
-- Assumes nothing.
use borrow.Author.Tests.{lt-leb, le-leb}
use Rattle.crontab.specs.Selections.{date_under}
use Rattle.line.proofs.Theorems.{kept, kept_in}
use Rattle.crontab.proofs.Firings.{date-same}
use Rattle.crontab.proofs.select.date_under.Goals as goal

pub returns-in_default : goal.returns-in_default
unfolding date_under
returns-in_default c = rw c.in_default.is

pub returns-then-minute-gt-LAST_MINUTE : goal.returns-then-minute-gt-LAST_MINUTE
unfolding date_under
returns-then-minute-gt-LAST_MINUTE c = rw (c.in-At.is, lt-leb _ _ c.if-minute-gt-LAST_MINUTE.true)

pub local_date-requires : goal.local_date-requires
local_date-requires c = (kept_in c.args.offset c.requires, c.if-minute-gt-LAST_MINUTE.false)

pub returns : goal.returns
unfolding date_under
returns c =
    rw (c.in-At.is, le-leb _ _ c.if-minute-gt-LAST_MINUTE.false) (date-same (kept {z = c.args.offset} c.requires) _ c.local_date.ensures)
