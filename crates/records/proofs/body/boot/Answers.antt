-- `records::body::boot` meets its contract.
-- Assumes nothing.
use Rattle.records.specs.Formats.{kind_of}
use Rattle.records.specs.Readings.{meant}
use Rattle.records.specs.InnerReaders.{found}
use Rattle.normal.specs.Proper.{is_item}
use Rattle.normal.specs.Meanings.{entry_item}
use native.Mathlib.Omega.{arith}
use Rattle.records.proofs.body.boot.Goals as goal

pub returns-then-is_command : goal.returns-then-is_command
unfolding found meant is_item entry_item kind_of
returns-then-is_command c = (rw (← c.is_command.ensures, c.if-is_command.true), omega arith)

pub returns : goal.returns
unfolding found meant is_item entry_item kind_of
returns c = (rw (← c.is_command.ensures, c.if-is_command.false), tt)
