-- `fifo::entry_at` meets its contract.
-- Assumes nothing.
use mathlib.Core.Path.{sym, ap, ◌∙◌}
use Rattle.std.specs.Prelude.{Ok}
use Rattle.fifo.specs.Steps.{entry_step}
use Rattle.fifo.proofs.entry_at.Goals as goal

pub returns-then-is_queue : goal.returns-then-is_queue
unfolding entry_step
returns-then-is_queue c = rw (sym c.is_queue.ensures ∙ c.if-is_queue.true) (ap Ok c.standing.ensures)

pub returns : goal.returns
unfolding entry_step
returns c = rw (sym c.is_queue.ensures ∙ c.if-is_queue.false)
