-- `eremothyn::lists::eremothyn_firings` meets its contract, by what the list of an entry promises.
-- Assumes nothing.
use mathlib.Core.Path.{ap, ◌∙◌}
use Rattle.firings.proofs.Theorems.{firings-few}
use Rattle.eremothyn.specs.Lists.{filled_number}
use Rattle.eremothyn.proofs.lists.eremothyn_firings.Goals as goal

pub filled_number-requires : goal.filled_number-requires
filled_number-requires c = rw c.of_entry.ensures.answer (firings-few _ _ _ _ _ _)

pub returns : goal.returns
returns c =
    let filled = rw c.rules_of.ensures at c.of_entry.ensures in
    record { answer = c.filled_number.ensures ∙ ap filled_number filled.answer; run = filled.run }
