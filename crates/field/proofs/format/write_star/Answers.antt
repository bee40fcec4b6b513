-- `field::format::write_star` meets its contract: one text behind the other.
-- Assumes nothing.
use Rattle.octets.proofs.Written.{wrote-next}
use Rattle.field.proofs.Writing.{star-one, star-more}
use Rattle.field.proofs.format.write_star.Goals as goal

pub returns-then-n-eq1 : goal.returns-then-n-eq1
returns-then-n-eq1 c = rw (star-one _ c.if-n-eq1.true) c.byte-next.ensures

pub returns : goal.returns
returns c =
    rw (star-more _ c.if-n-eq1.false)
    (wrote-next (wrote-next c.byte-next.ensures c.byte-next-2.ensures) c.number.ensures)
