-- `crontab::setting::next` meets its contract: it is what the item that was found says.
-- Assumes nothing.
use mathlib.Core.Path.{◌∙◌}
use Rattle.crontab.specs.Items.{items_of}
use Rattle.std.proofs.lemmas.Result.{err_from_is_err_and}
use Rattle.crontab.proofs.Findings.{as_line, line_told, found-line, no-line}
use Rattle.crontab.proofs.setting.next.Goals as goal

pub returns : goal.returns
unfolding line_told as_line
returns c = rw c.in-Setting.is at (found-line c.args.line (items_of c.args.rules c.args.s.now) c.find.ensures c.in_ok-found.was)

pub returns-in_default : goal.returns-in_default
unfolding line_told
returns-in_default c = no-line _ _ c.in_default.not-Setting ∙ found-line _ _ c.find.ensures c.in_ok-found.was

pub returns-in_err-found : goal.returns-in_err-found
unfolding line_told
returns-in_err-found c =
    let p = err_from_is_err_and c.from_residual.result c.from_residual.ensures.1 in
    rw (p.1, p.2) (found-line _ _ c.find.ensures c.in_err-found.was)
