-- `records::pack::write_head` meets its contract: length and kind, one after the other.
-- Assumes nothing.
use Rattle.octets.proofs.Written.{wrote-next}
use Rattle.records.specs.InnerWriters.{head_of}
use Rattle.records.proofs.pack.write_head.Goals as goal

pub returns : goal.returns
unfolding head_of
returns c = rw (← c.from.ensures) (wrote-next c.write-next.ensures c.write.ensures)
