-- `records::body::is_timed` meets its contract.
-- Assumes nothing.
use Rattle.records.proofs.Readers.{rest_part}
use Rattle.records.proofs.body.is_timed.Goals as goal

pub returns : goal.returns
returns c =
    rw (c.is_schedule.ensures, c.is_command.ensures, rest_part c.args.body.now 20)
