-- `octets::class::is_in` meets its contract, class by class.
-- Assumes nothing.
use Rattle.octets.specs.Classes.{of_class}
use Rattle.octets.proofs.class.is_in.Goals as goal

pub returns-in-Blank : goal.returns-in-Blank
unfolding of_class
returns-in-Blank c = rw c.in-Blank.is c.is_blank.ensures

pub returns-in-Solid : goal.returns-in-Solid
unfolding of_class
returns-in-Solid c = rw (c.in-Solid.is, c.is_blank-in-Solid.ensures)

pub returns-in-Name : goal.returns-in-Name
unfolding of_class
returns-in-Name c = rw (c.in-Name.is, c.is_blank-in-Name.ensures, c.is_quote.ensures)

pub returns-in-Account : goal.returns-in-Account
unfolding of_class
returns-in-Account c = rw c.in-Account.is c.is_account.ensures

pub returns-in-Not : goal.returns-in-Not
unfolding of_class
returns-in-Not c = rw c.in-Not.is

pub returns-in-InLine : goal.returns-in-InLine
unfolding of_class
returns-in-InLine c = rw c.in-InLine.is c.is_in_line.ensures
