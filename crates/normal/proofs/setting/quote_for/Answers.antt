-- `normal::setting::quote_for` meets its contract: it tests what the definition does.
-- Assumes nothing.
use Rattle.normal.proofs.Writing.{double-quote, single-quote}
use Rattle.normal.proofs.setting.quote_for.Goals as goal

pub returns-then-skip-part : goal.returns-then-skip-part
returns-then-skip-part c = double-quote _ _ c.skip.ensures.0 c.if-skip-part.true

pub returns : goal.returns
returns c = single-quote _ _ c.skip.ensures.0 c.if-skip-part.false
