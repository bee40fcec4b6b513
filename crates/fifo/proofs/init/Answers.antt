-- `fifo::init` meets its contract: an empty queue is written, and those who are called join.
-- Assumes nothing.
use mathlib.Core.Path.{◌≡◌, refl, sym, ap, ◌∙◌}
use mathlib.Core.Bool.{true}
use mathlib.Core.List.{[]}
use native.Mathlib.Omega.{arith}
use Rattle.std.specs.Prelude.{None, Ok}
use Rattle.fifo.specs.Layout.{queue_of, roomy}
use Rattle.fifo.specs.Inner.{joined, init_called}
use Rattle.fifo.proofs.WaitingBits.{gathered_none}
use Rattle.fifo.proofs.Queues.{roomy-size, none-proper, written_is, written, written_over}
use Rattle.fifo.proofs.init.Goals as goal
use Rattle.fifo.proofs.init.Goals.{After-clear, Then-has_room}

-- there is room
enough : (c : Then-has_room) → roomy c.args.n c.args.buffer.now ≡ true
enough c = sym c.has_room.ensures ∙ c.if-has_room.true

-- the queue is empty
emptied : (c : After-clear) → queue_of c.clear.new.buffer ≡ record { mark = None; waiting = [] }
emptied c =
    written c.args.n _ c.args.buffer.now (omega arith) (enough (goal.at.After-clear c).Then-has_room) (none-proper c.args.n None refl) c.clear.ensures

pub clear-requires : goal.clear-requires
clear-requires c = omega (arith, roomy-size _ _ (enough (goal.at.clear-requires c).Then-has_room))

pub join-requires : goal.join-requires
join-requires c = (
  written_is c.args.n _ c.args.buffer.now (omega arith) (enough (goal.at.join-requires c).Then-has_room) (none-proper c.args.n None refl) c.clear.ensures,
  rw (emptied (goal.at.join-requires c).After-clear) (gathered_none 1024),
)

pub returns-then-has_room : goal.returns-then-has_room
unfolding init_called joined
returns-then-has_room c =
    let over = written_over c.args.n _ c.args.buffer.now (omega arith) (enough (goal.at.returns-then-has_room c).Then-has_room) (none-proper c.args.n None refl) c.clear.ensures in
    let law = enough (goal.at.returns-then-has_room c).Then-has_room in
    record { answer = rw law (ap Ok (rw (emptied (goal.at.returns-then-has_room c).After-clear) at c.join.ensures.answer)); room = rw law ((rw (emptied (goal.at.returns-then-has_room c).After-clear) at c.join.ensures.bytes) ∙ over _ (omega arith)) }

pub returns : goal.returns
unfolding init_called
returns c = record { answer = rw (sym c.has_room.ensures ∙ c.if-has_room.false) refl; room = rw (sym c.has_room.ensures ∙ c.if-has_room.false) refl }
