-- `eremothyn::queue::eremothyn_queue_tick` meets its contract, by what the run queue promises.
-- Assumes nothing.
use mathlib.Core.Path.{ap, ◌∙◌}
use Rattle.eremothyn.specs.Queue.{tick_number}
use Rattle.eremothyn.proofs.queue.eremothyn_queue_tick.Goals as goal

pub returns : goal.returns
returns c =
    let e = c.rules_of.ensures in
    let s = rw e at c.tick.ensures in
    record { answer = c.ticked_number.ensures ∙ ap tick_number s.answer; room = s.room }
