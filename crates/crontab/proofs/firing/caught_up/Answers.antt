-- `crontab::firing::caught_up` meets its contract: the next firing after the mark tells.
-- Assumes nothing.
use Rattle.crontab.proofs.Firings.{next-comes}
use Rattle.crontab.proofs.firing.caught_up.Goals as goal

pub returns-in-Ok : goal.returns-in-Ok
returns-in-Ok c =
    rw (← (next-comes c.args.entry c.args.mark c.args.minute c.requires.1), ← c.next_after.ensures, c.in-Ok.is)

pub returns-in-Err : goal.returns-in-Err
returns-in-Err c =
    rw (← (next-comes c.args.entry c.args.mark c.args.minute c.requires.1), ← c.next_after.ensures, c.in-Err.is)
