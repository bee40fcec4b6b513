-- `eremothyn::lists::eremothyn_merged_firings` meets its contract, by what the merged list promises.
-- Assumes nothing.
use mathlib.Core.Path.{ap, ◌∙◌}
use Rattle.firings.proofs.Theorems.{merged-few}
use Rattle.eremothyn.specs.Lists.{filled_number}
use Rattle.eremothyn.proofs.lists.eremothyn_merged_firings.Goals as goal

pub filled_number-requires : goal.filled_number-requires
filled_number-requires c = rw c.merged.ensures.answer (merged-few _ _ _ _ _ _)

pub returns : goal.returns
returns c =
    let filled = rw c.rules_of.ensures at c.merged.ensures in
    record { answer = c.filled_number.ensures ∙ ap filled_number filled.answer; minutes = filled.minutes; entries = filled.entries }
