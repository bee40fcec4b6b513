-- `command::measure` meets its contract.
-- Assumes nothing.
use Rattle.command.proofs.Buffers.{whole-lengths, cut-lengths}
use Rattle.command.proofs.measure.Goals as goal

pub returns-in-Whole : goal.returns-in-Whole
returns-in-Whole c =
    whole-lengths c.args.c.now c.in-Whole.n
    (rw c.in-Whole.is at c.shell_end.ensures)

pub returns-in-Cut : goal.returns-in-Cut
returns-in-Cut c =
    cut-lengths c.args.c.now c.in-Cut.length c.count.result c.in-Cut.input
    (rw c.in-Cut.is at c.shell_end.ensures) c.count.ensures
