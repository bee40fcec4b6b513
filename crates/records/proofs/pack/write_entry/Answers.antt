-- `records::pack::write_entry` meets its contract, by when the entry fires: one part after the other.
-- Assumes nothing.
use Rattle.octets.proofs.Written.{wrote-next}
use Rattle.records.proofs.Packing.{boot-record, timed-record}
use Rattle.records.proofs.pack.write_entry.Goals as goal

pub returns-in-Reboot : goal.returns-in-Reboot
returns-in-Reboot c =
    rw (boot-record _ _ c.in-Reboot.is) (wrote-next c.write_head-next.ensures c.copy.ensures)

pub returns-in-Timed : goal.returns-in-Timed
returns-in-Timed c =
    rw (timed-record _ _ c.in-Timed.is)
    (wrote-next c.write_head-next-in-Timed.ensures (wrote-next c.write_schedule-next.ensures c.copy-in-Timed.ensures))
