-- `field::format::write` meets its contract, by the flag.
-- Assumes nothing.
use Rattle.field.proofs.Writing.{field-starred, field-listed}
use Rattle.field.proofs.format.write.Goals as goal

pub returns-then-star : goal.returns-then-star
returns-then-star c =
    rw (field-starred _ _ _ c.if-star.true, ← c.step_of-n.ensures) c.write_star.ensures

-- the list, by either way
pub returns-then-has_several : goal.returns-then-has_several
returns-then-has_several c = rw (field-listed _ _ _ c.if-star.false) c.write_list.ensures

pub returns : goal.returns
returns c = rw (field-listed _ _ _ c.if-star.false) c.write_values.ensures
