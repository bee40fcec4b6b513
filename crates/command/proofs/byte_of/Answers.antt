-- `command::byte_of` meets its contract.
-- Assumes nothing.
use borrow.Author.Rules.{rules}
use Rattle.command.specs.Pieces.{byte_of}
use Rattle.command.proofs.byte_of.Goals as goal

pub returns-in-Byte : goal.returns-in-Byte
unfolding byte_of
returns-in-Byte c = search rules

pub returns-in-Percent : goal.returns-in-Percent
unfolding byte_of
returns-in-Percent c = search rules
