-- `crontab::item::last` meets its contract: the line's own fault, or 26.
-- Assumes nothing.
use native.Mathlib.Omega.{arith}
use Rattle.crontab.proofs.Items.{line-from, line-stops, line-ends, step-last}
use Rattle.crontab.proofs.item.last.Goals as goal

pub overflow_sub-stop : goal.overflow_sub-stop
overflow_sub-stop c = line-from c.args.rules _ _ _ _ c.requires

pub judge-line-requires : goal.judge-line-requires
judge-line-requires c = line-stops c.args.rules _ _ _ _ c.requires

pub bad_line-requires : goal.bad_line-requires
bad_line-requires c = line-ends c.args.rules _ _ _ _ c.requires

pub returns : goal.returns
returns c =
    rw (c.bad_line.ensures, c.last_fault.ensures, c.judge-line.ensures)
    (step-last _ _ _ _ _ c.requires (omega arith))
