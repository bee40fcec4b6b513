-- `fifo::announce` meets its contract: the mark is set, and the entries that are called join.
-- Assumes nothing.
use mathlib.Core.Path.{◌≡◌, ◌∙◌}
use mathlib.Core.Bool.{true}
use native.Mathlib.Omega.{arith}
use lib.ListN.{length-append}
use Rattle.fifo.specs.Queues.{proper}
use Rattle.fifo.specs.Layout.{queue_of}
use Rattle.fifo.specs.Inner.{callees, joined}
use Rattle.fifo.proofs.Queues.{queue-known, make-proper, written_is, written, written_over}
use Rattle.fifo.proofs.announce.Goals as goal
use Rattle.fifo.proofs.announce.Goals.{After-set_mark}

-- the queue with its new mark
marked : (c : After-set_mark) → proper c.args.n (record { mark = c.args.mark; waiting = (queue_of c.args.buffer.now).waiting }) ≡ true
marked c =
    make-proper c.args.n _ c.requires.2 (queue-known c.args.n c.args.buffer.now c.requires.0).entries-is

read : (c : After-set_mark) → queue_of c.set_mark.new.buffer ≡ record { mark = c.args.mark; waiting = (queue_of c.args.buffer.now).waiting }
read c =
    written c.args.n _ c.args.buffer.now (omega arith) (queue-known _ _ c.requires.0).roomy-is (marked c) c.set_mark.ensures

pub set_mark-requires : goal.set_mark-requires
set_mark-requires c = ((c.args.n, c.requires.0), c.requires.2)

pub join-requires : goal.join-requires
join-requires c = (
  written_is c.args.n _ c.args.buffer.now (omega arith) (queue-known _ _ c.requires.0).roomy-is (marked (goal.at.join-requires c).After-set_mark) c.set_mark.ensures,
  rw (read (goal.at.join-requires c).After-set_mark) c.requires.1,
)

pub returns : goal.returns
unfolding joined
returns c =
    let w = (queue_of c.args.buffer.now).waiting in
    let after_set_mark = (goal.at.returns c).After-set_mark in
    let over =
    written_over c.args.n _ c.args.buffer.now (omega arith) (queue-known _ _ c.requires.0).roomy-is (marked after_set_mark)
    c.set_mark.ensures
    in
    record {
      answer = rw (read after_set_mark) at c.join.ensures.answer;
      room =
          (rw (read after_set_mark) at c.join.ensures.bytes)
          ∙ over _ (omega (arith, length-append w (callees c.args.n c.args.called.now w)));
    }
