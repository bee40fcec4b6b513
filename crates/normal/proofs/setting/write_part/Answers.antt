-- `normal::setting::write_part` meets its contract: bare, or between two quotes.
-- Assumes nothing.
use Rattle.octets.proofs.Written.{wrote-next}
use Rattle.normal.proofs.Writing.{part-bare, part-quoted}
use Rattle.normal.proofs.setting.write_part.Goals as goal

pub returns-then-bare : goal.returns-then-bare
returns-then-bare c = rw (part-bare _ _ c.if-bare.true) c.copy.ensures

pub returns : goal.returns
returns c =
    rw (part-quoted _ _ c.if-bare.false, ← c.quote_for-quote.ensures)
    (wrote-next c.byte-next.ensures (wrote-next c.copy-next.ensures c.byte.ensures))
