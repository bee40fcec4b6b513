-- `field::format::write_member` meets its contract.
-- Assumes nothing.
use Rattle.octets.proofs.Written.{wrote-next}
use Rattle.field.proofs.Writing.{member-first, member-later}
use Rattle.field.proofs.format.write_member.Goals as goal

pub returns-then-first : goal.returns-then-first
returns-then-first c = rw (c.if-first.true, member-first _) c.number.ensures

pub returns : goal.returns
returns c =
    rw (c.if-first.false, member-later _) (wrote-next c.byte-next.ensures c.number-2.ensures)
