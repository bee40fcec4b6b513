-- `line::word::is_word` meets its contract.
-- Assumes nothing.
use mathlib.Core.Path.{◌∙◌}
use Rattle.line.proofs.Words.{same_bytes}
use Rattle.line.proofs.word.is_word.Goals as goal

pub returns : goal.returns
returns c = c.eq.ensures ∙ same_bytes _ _
