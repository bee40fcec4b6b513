-- `crontab::table::check` meets its contract: it is what the search says.
-- Assumes nothing.
use borrow.Author.Rules.{rules}
use Rattle.crontab.proofs.Findings.{as_verdict, found-verdict}
use Rattle.crontab.proofs.table.check.Goals as goal

pub returns : goal.returns
unfolding as_verdict
returns c = found-verdict _ _ c.find.ensures c.in_ok-found.was

pub returns-in_err-found : goal.returns-in_err-found
unfolding as_verdict
returns-in_err-found c = rw (← (found-verdict c.args.rules c.args.s.now c.find.ensures c.in_err-found.was)) (search rules)
