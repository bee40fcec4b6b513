-- `normal::entry::write` meets its contract, by when the entry fires: one text behind the other.
-- Assumes nothing.
use Rattle.octets.proofs.Written.{wrote-next}
use Rattle.normal.proofs.Writing.{boot-text, timed-text}
use Rattle.normal.proofs.entry.write.Goals as goal

pub returns-in-Reboot : goal.returns-in-Reboot
returns-in-Reboot c =
    rw (boot-text _ _ c.in-Reboot.is) (wrote-next c.copy-next.ensures c.copy.ensures)

pub returns-in-Timed : goal.returns-in-Timed
returns-in-Timed c =
    rw (timed-text _ _ c.in-Timed.is) (wrote-next c.write_schedule-next.ensures c.copy-in-Timed.ensures)
