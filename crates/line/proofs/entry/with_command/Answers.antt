-- `line::entry::with_command` meets its contract.
-- Assumes nothing.
use borrow.Author.Tests.{lt-ltb, le-ltb}
use Rattle.line.specs.Entries.{with_command}
use Rattle.line.proofs.entry.with_command.Goals as goal

-- src/entry.rt:41:9
pub returns-then-start-end : goal.returns-then-start-end
unfolding with_command
returns-then-start-end c = rw (lt-ltb _ _ c.if-start-end.true)

-- src/entry.rt:45:17
-- src/entry.rt:36:1
pub returns : goal.returns
unfolding with_command
returns c = rw (le-ltb _ _ c.if-start-end.false)
