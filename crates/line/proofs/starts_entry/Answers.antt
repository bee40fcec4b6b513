-- `line::starts_entry` meets its contract: it tests what the definition does.
-- Assumes nothing.
use Rattle.field.specs.Numbers.{is_digit}
use Rattle.line.specs.Lines.{starts_entry}
use Rattle.line.proofs.starts_entry.Goals as goal

-- src/line.rt:36:1
pub returns : goal.returns
unfolding starts_entry is_digit
returns c = rw c.is_ascii_digit.ensures.value
