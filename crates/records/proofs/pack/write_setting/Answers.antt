-- `records::pack::write_setting` meets its contract: head, the name's length, name and value, one after the other.
-- Assumes nothing.
use Rattle.octets.proofs.Written.{wrote-next}
use Rattle.records.proofs.Packing.{setting-record}
use Rattle.records.proofs.pack.write_setting.Goals as goal

pub returns : goal.returns
returns c =
    rw (setting-record _ _, ← c.requires.0)
    (wrote-next c.write_head-at.ensures (wrote-next c.write-at.ensures (wrote-next c.copy-at.ensures c.copy.ensures)))
