-- `crontab::firing::next` meets its contract.
-- Assumes nothing.
use borrow.Author.Rules.{rules}
use mathlib.Core.Path.{sym, ◌∙◌}
use Rattle.crontab.specs.Firings.{next_in, next_answer}
use Rattle.crontab.proofs.Theorems.{entry-sound}
use Rattle.crontab.proofs.firing.next.Goals as goal

-- an entry that was read is under an offset that may be
pub next_after-requires : goal.next_after-requires
next_after-requires c = (entry-sound _ _ _ (sym c.find_entry.ensures ∙ c.in_ok-found.was)).zone

pub returns : goal.returns
unfolding next_in next_answer
returns c = c.next_after.ensures ∙ rw (← c.find_entry.ensures, c.in_ok-found.was)

pub returns-in_err-found : goal.returns-in_err-found
unfolding next_in next_answer
returns-in_err-found c = rw (← c.find_entry.ensures, c.in_err-found.was) (search rules)
