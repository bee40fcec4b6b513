-- `crontab::firing::next_after` meets its contract.
-- Assumes nothing.
use borrow.Author.Tests.{lt-leb, le-leb}
use Rattle.crontab.specs.Firings.{next_of}
use Rattle.line.proofs.Theorems.{kept, kept_in}
use Rattle.crontab.proofs.Firings.{next-same}
use Rattle.crontab.proofs.firing.next_after.Goals as goal

pub returns-then-minute-gt-LAST_MINUTE : goal.returns-then-minute-gt-LAST_MINUTE
unfolding next_of
returns-then-minute-gt-LAST_MINUTE c = rw (lt-leb _ _ c.if-minute-gt-LAST_MINUTE.true)

pub next_firing_in-requires : goal.next_firing_in-requires
next_firing_in-requires c = (kept_in c.args.entry.offset c.requires, c.if-minute-gt-LAST_MINUTE.false)

pub returns-in-Reboot : goal.returns-in-Reboot
unfolding next_of
returns-in-Reboot c = rw (le-leb _ _ c.if-minute-gt-LAST_MINUTE.false, c.in-Reboot.is)

pub returns-in-Timed : goal.returns-in-Timed
unfolding next_of
returns-in-Timed c =
    rw (le-leb _ _ c.if-minute-gt-LAST_MINUTE.false, c.in-Timed.is)
    (next-same (kept {z = c.args.entry.offset} c.requires) _ _ c.next_firing_in.ensures)
