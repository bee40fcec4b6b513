-- `fifo::gather` meets its contract: it tests what the definition does.
-- Assumes nothing.
use mathlib.Core.Path.{◌≡◌, sym, ◌∙◌}
use mathlib.Core.Bool.{◌&&◌, false≢true, and-eq-true_iff}
use lib.Dec.{leb}
use borrow.Author.Tests.{leb-true}
use Rattle.fifo.specs.Layout.{count_of, is_queue}
use Rattle.fifo.proofs.Queues.{roomy-size, count-few}
use Rattle.fifo.proofs.gather.Goals as goal
use Rattle.fifo.proofs.gather.Goals.{After-number-count}

counted : (c : After-number-count) → c.number-count.result ≡ count_of c.args.buffer.now
unfolding count_of
counted c = c.number-count.ensures

pub gather_entries-requires : goal.gather_entries-requires
gather_entries-requires c =
    let both = (and-eq-true_iff (c.has_room.result && c.is_head.result) (leb c.number-count.result c.args.n)).0 c.if-has_room-is_head.true in
    let roomy = ((and-eq-true_iff c.has_room.result c.is_head.result).0 both.0).0 in
    let few = rw (counted (goal.at.gather_entries-requires c).After-number-count) at (leb-true c.number-count.result c.args.n both.1) in
    (counted (goal.at.gather_entries-requires c).After-number-count ∙ count-few c.args.n c.args.buffer.now (roomy-size _ _ (sym c.has_room.ensures ∙ roomy)) few, c.requires.0, c.requires.1)

pub returns-then-has_room-is_head : goal.returns-then-has_room-is_head
unfolding is_queue
returns-then-has_room-is_head c =
    record { answer = rw (← c.has_room.ensures, ← c.is_head.ensures, ← (counted (goal.at.returns-then-has_room-is_head c).After-number-count), c.if-has_room-is_head.true) c.gather_entries.ensures.answer; seen = c.gather_entries.ensures.seen }

pub returns : goal.returns
unfolding is_queue
returns c = record { answer = rw (← c.has_room.ensures, ← c.is_head.ensures, ← (counted (goal.at.returns c).After-number-count), c.if-has_room-is_head.false); seen = λ e. absurd (false≢true e) }
