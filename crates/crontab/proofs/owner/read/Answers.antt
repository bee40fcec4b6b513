-- `crontab::owner::read` meets its contract.
-- Assumes nothing.
use borrow.Author.Rules.{rules}
use mathlib.Core.Path.{sym, ◌∙◌}
use Rattle.crontab.proofs.Theorems.{entry-sound}
use Rattle.crontab.specs.Owners.{owner_answer}
use Rattle.crontab.proofs.owner.read.Goals as goal

pub of_entry-requires : goal.of_entry-requires
of_entry-requires c = entry-sound _ _ _ (sym c.find_entry.ensures ∙ c.in_ok-found.was)

pub returns-in_err-found : goal.returns-in_err-found
unfolding owner_answer
returns-in_err-found c = rw (← c.find_entry.ensures, c.in_err-found.was) (search rules)

pub returns : goal.returns
unfolding owner_answer
returns c = rw (c.of_entry.ensures, ← c.find_entry.ensures, c.in_ok-found.was)
