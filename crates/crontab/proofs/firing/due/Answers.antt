-- `crontab::firing::due` meets its contract.
-- Assumes nothing.
use borrow.Author.Rules.{rules}
use mathlib.Core.Path.{sym, ◌∙◌}
use Rattle.crontab.specs.Firings.{due_in, due_answer}
use Rattle.crontab.proofs.Theorems.{entry-sound}
use Rattle.crontab.proofs.firing.due.Goals as goal

-- an entry that was read is under an offset that may be
pub due_at-requires : goal.due_at-requires
due_at-requires c = (entry-sound _ _ _ (sym c.find_entry.ensures ∙ c.in_ok-found.was)).zone

pub returns : goal.returns
unfolding due_in due_answer
returns c = c.due_at.ensures ∙ rw (← c.find_entry.ensures, c.in_ok-found.was)

pub returns-in_err-found : goal.returns-in_err-found
unfolding due_in due_answer
returns-in_err-found c = rw (← c.find_entry.ensures, c.in_err-found.was) (search rules)
