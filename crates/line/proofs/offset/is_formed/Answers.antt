-- `line::offset::is_formed` meets its contract: it tests what the definition does.
-- Assumes nothing.
use Rattle.field.specs.Numbers.{is_digit}
use Rattle.line.specs.Offsets.{is_formed}
use Rattle.line.proofs.offset.is_formed.Goals as goal

pub returns : goal.returns
unfolding is_formed is_digit
returns c = cc
