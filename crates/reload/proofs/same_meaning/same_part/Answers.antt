-- `reload::same_meaning::same_part` meets its contract.
-- Assumes nothing.
use mathlib.Core.Path.{◌∙◌}
use Rattle.octets.specs.Runs.{between}
use Rattle.reload.proofs.EntryMeanings.{bytes-are}
use Rattle.reload.proofs.same_meaning.same_part.Goals as goal

pub returns : goal.returns
unfolding between
returns c = c.eq.ensures ∙ bytes-are _ _
