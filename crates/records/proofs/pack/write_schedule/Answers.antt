-- `records::pack::write_schedule` meets its contract: the sets and the flags, one after the other.
-- Assumes nothing.
use native.Mathlib.Omega.{arith}
use Rattle.octets.proofs.Written.{wrote-next}
use Rattle.records.specs.Formats.{schedule_bytes}
use Rattle.records.proofs.pack.write_schedule.Goals as goal

pub shape_of-out : goal.shape_of-out
shape_of-out c =
    omega (arith, c.write-at.ensures.size, c.write-at-2.ensures.size, c.write-at-3.ensures.size, c.write-at-4.ensures.size, c.write-at-5.ensures.size, c.write.ensures.size)

pub returns : goal.returns
unfolding schedule_bytes
returns c =
    rw (← c.flags.ensures)
    (wrote-next c.write-at.ensures
    (wrote-next c.write-at-2.ensures
    (wrote-next c.write-at-3.ensures
    (wrote-next c.write-at-4.ensures
    (wrote-next c.write-at-5.ensures c.write.ensures)))))
