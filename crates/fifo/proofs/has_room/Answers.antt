-- `fifo::has_room` meets its contract.
-- Assumes nothing.
use mathlib.Core.Path.{◌∙◌}
use borrow.Author.Tests.{lt-leb}
use Rattle.fifo.proofs.Queues.{roomy-short, roomy-half}
use Rattle.fifo.proofs.has_room.Goals as goal

pub returns-then-places-ge-FIRST : goal.returns-then-places-ge-FIRST
returns-then-places-ge-FIRST c = roomy-half _ _ c.if-places-ge-FIRST.true

pub returns-else-places-ge-FIRST : goal.returns-else-places-ge-FIRST
returns-else-places-ge-FIRST c = lt-leb _ _ c.if-places-ge-FIRST.false ∙ roomy-short _ _ c.if-places-ge-FIRST.false
