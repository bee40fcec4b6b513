-- `crontab::firing::due_at` meets its contract, by the local date.
-- Assumes nothing.
use mathlib.Core.Path.{sym}
use borrow.Author.Tests.{lt-leb}
use Rattle.crontab.specs.Firings.{due_of}
use Rattle.line.proofs.Theorems.{kept, kept_in}
use Rattle.crontab.proofs.Firings.{due-on, date-same}
use Rattle.crontab.proofs.firing.due_at.Goals as goal

pub returns-then-minute-gt-LAST_MINUTE : goal.returns-then-minute-gt-LAST_MINUTE
unfolding due_of
returns-then-minute-gt-LAST_MINUTE c = rw (lt-leb _ _ c.if-minute-gt-LAST_MINUTE.true)

pub local_date-date-requires : goal.local_date-date-requires
local_date-date-requires c = (kept_in c.args.entry.offset c.requires, c.if-minute-gt-LAST_MINUTE.false)

pub returns : goal.returns
returns c =
    let date = date-same (kept {z = c.args.entry.offset} c.requires) c.args.minute c.local_date-date.ensures in
    rw c.fires_on.ensures (sym (due-on c.args.entry c.args.minute c.if-minute-gt-LAST_MINUTE.false date))
