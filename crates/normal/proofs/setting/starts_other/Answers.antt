-- `normal::setting::starts_other` meets its contract: it tests what the definition does.
-- Assumes nothing.
use Rattle.normal.specs.Texts.{starts_other}
use Rattle.normal.proofs.setting.starts_other.Goals as goal

pub returns : goal.returns
unfolding starts_other
returns c = rw c.starts_entry.ensures
