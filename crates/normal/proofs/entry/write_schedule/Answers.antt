-- `normal::entry::write_schedule` meets its contract: the fields one behind the other.
-- Assumes nothing.
use native.Mathlib.Omega.{arith}
use Rattle.normal.specs.Texts.{schedule_text}
use Rattle.normal.proofs.Writing.{spaced-next}
use Rattle.normal.proofs.entry.write_schedule.Goals as goal

pub shape_of-out : goal.shape_of-out
shape_of-out c =
    omega (arith, c.write_field-at.ensures.size, c.write_field-at-2.ensures.size, c.write_field-at-3.ensures.size, c.write_field-at-4.ensures.size, c.write_field.ensures.size)

pub returns : goal.returns
unfolding schedule_text
returns c =
    spaced-next _ _
    (spaced-next _ _
    (spaced-next _ _
    (spaced-next _ _ c.write_field-at.ensures
    c.write_field-at-2.ensures)
    c.write_field-at-3.ensures)
    c.write_field-at-4.ensures)
    c.write_field.ensures
