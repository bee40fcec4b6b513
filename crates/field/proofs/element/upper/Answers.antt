-- `field::element::upper` meets its contract, by its test.
-- Assumes nothing.
use mathlib.Core.Path.{sym, ◌∙◌}
use Rattle.field.proofs.Elements.{upper-seven, upper-other}
use Rattle.field.proofs.element.upper.Goals as goal

pub returns-then-is_sunday-limits : goal.returns-then-is_sunday-limits
returns-then-is_sunday-limits c = sym (upper-seven _ _ _ (rw (c.is_sunday.ensures, c.is_sunday-2.ensures) at c.if-is_sunday-limits.true))

pub returns : goal.returns
returns c =
    c.end.ensures
    ∙ sym (upper-other _ _ _ (rw (c.is_sunday.ensures, c.is_sunday-2.ensures) at c.if-is_sunday-limits.false))
