-- `eremothyn::queue::eremothyn_queue_pop` meets its contract, by what the run queue promises.
-- Assumes nothing.
use mathlib.Core.Path.{ap, ◌∙◌}
use Rattle.eremothyn.specs.Queue.{pop_number}
use Rattle.eremothyn.proofs.queue.eremothyn_queue_pop.Goals as goal

pub returns : goal.returns
returns c =
    let e = c.rules_of.ensures in
    let s = rw e at c.pop.ensures in
    record { answer = c.popped_number.ensures ∙ ap pop_number s.answer; room = s.room }
