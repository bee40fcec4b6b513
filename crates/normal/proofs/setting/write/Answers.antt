-- `normal::setting::write` meets its contract: name, `=` and value, one behind the other.
-- Assumes nothing.
use Rattle.octets.proofs.Written.{wrote-next}
use Rattle.normal.proofs.Writing.{setting-text}
use Rattle.normal.proofs.setting.write.Goals as goal

pub returns : goal.returns
returns c =
    rw (setting-text _ _, ← c.is_bare_name.ensures, ← c.is_bare_value.ensures)
    (wrote-next c.write_part-next.ensures (wrote-next c.byte-next.ensures c.write_part.ensures))
