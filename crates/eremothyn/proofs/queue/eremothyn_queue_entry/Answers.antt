-- `eremothyn::queue::eremothyn_queue_entry` meets its contract, by what the run queue promises.
-- Assumes nothing.
use mathlib.Core.Path.{ap, ◌∙◌}
use Rattle.eremothyn.specs.Queue.{pop_number}
use Rattle.eremothyn.proofs.queue.eremothyn_queue_entry.Goals as goal

pub returns : goal.returns
returns c = rw (← c.rules_of.ensures) (c.popped_number.ensures ∙ ap pop_number c.entry_at.ensures)
