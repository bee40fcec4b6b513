-- `field::values::judge_number` meets its contract: one value, outside the limits or inside.
-- Assumes nothing.
use mathlib.Core.Path.{sym, ◌∙◌}
use Rattle.field.proofs.Alone.{number-outside, number-inside}
use Rattle.field.proofs.values.judge_number.Goals as goal

pub returns-then-is_outside : goal.returns-then-is_outside
returns-then-is_outside c = sym (number-outside _ _ _ (sym c.is_outside.ensures ∙ c.if-is_outside.true))

pub returns : goal.returns
returns c =
    rw (c.with-set.ensures, c.bit_of.ensures) (sym (number-inside _ _ _ (sym c.is_outside.ensures ∙ c.if-is_outside.false)))
