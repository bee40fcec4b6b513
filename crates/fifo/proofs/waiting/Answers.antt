-- `fifo::waiting` meets its contract: the count, or what the buffer has where that is less.
-- Assumes nothing.
use mathlib.Core.Path.{◌≡◌}
use native.Mathlib.Omega.{arith}
use Rattle.fifo.specs.Layout.{count_of}
use Rattle.fifo.proofs.Numbers.{waiting-length}
use Rattle.fifo.proofs.waiting.Goals as goal

pub returns : goal.returns
unfolding count_of
returns c =
    let count : c.number.result ≡ count_of c.args.buffer.now = c.number.ensures in
    omega (arith, count, waiting-length c.args.buffer.now, c.min.ensures, c.saturating_sub-most.ensures)
