-- `line::offset::in_force` meets its contract.
-- Assumes nothing.
use Rattle.line.proofs.Offsets.{unwrapped}
use Rattle.line.proofs.offset.in_force.Goals as goal

pub returns : goal.returns
returns c = unwrapped c.args.zone c.requires c.ranges.before c.unwrap_or.ensures
