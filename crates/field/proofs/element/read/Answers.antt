-- `field::element::read` meets its contract: a number is an element by itself, and all else is divided.
-- Assumes nothing.
use mathlib.Core.Path.{sym, ◌∙◌}
use Rattle.field.proofs.Alone.{alone-element}
use Rattle.field.proofs.element.read.Goals as goal

pub returns-in-Some : goal.returns-in-Some
returns-in-Some c = sym (alone-element _ (sym c.read.ensures ∙ c.in-Some.is) _)

pub returns : goal.returns
returns c = c.divided.ensures
