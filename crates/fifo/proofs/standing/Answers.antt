-- `fifo::standing` meets its contract.
-- Assumes nothing.
use mathlib.Core.Path.{sym, ap, ◌∙◌}
use Prim.Native.Nat.{◌<◌}
use native.Mathlib.Omega.{arith}
use lib.ListN.{length}
use Rattle.std.specs.Prelude.{Some}
use Rattle.fifo.specs.Layout.{queue_of}
use Rattle.fifo.proofs.Numbers.{waiting-length, waiting-at}
use Rattle.fifo.proofs.Peek.{standing-at, standing-past}
use Rattle.fifo.proofs.standing.Goals as goal

pub overflow_add-place : goal.overflow_add-place
overflow_add-place c = omega (arith, waiting-length c.args.buffer.now, c.waiting.ensures)

pub returns-then-place-waiting : goal.returns-then-place-waiting
returns-then-place-waiting c =
    let a = c.args in
    let l = (queue_of a.buffer.now).waiting in
    let h : a.place < length l = omega (arith, c.waiting.ensures, c.if-place-waiting.true) in
    ap Some (c.number.ensures ∙ sym (waiting-at a.buffer.now a.place h)) ∙ standing-at l a.place h

pub returns : goal.returns
returns c =
    let a = c.args in
    standing-past (queue_of a.buffer.now).waiting a.place (omega (arith, c.waiting.ensures, c.if-place-waiting.false))
