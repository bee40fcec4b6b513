-- `fifo::queue::number` meets its contract: the two bytes at a place are the number there.
-- Assumes nothing.
use mathlib.Core.Path.{sym}
use native.Mathlib.Omega.{arith}
use Rattle.fifo.proofs.Numbers.{number-at, number_past}
use Rattle.fifo.proofs.queue.number.Goals as goal

pub returns-then-buffer-i : goal.returns-then-buffer-i
returns-then-buffer-i c = sym (number_past _ _ c.if-buffer-i.true)

pub returns : goal.returns
returns c = omega (arith, c.from_le_bytes.ensures, number-at c.args.buffer.now c.args.i (omega arith))
