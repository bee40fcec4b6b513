-- `crontab::select::moved_on` meets its contract.
-- Assumes nothing.
use mathlib.Core.Path.{ap, ◌∙◌}
use Rattle.crontab.specs.Selections.{date_under}
use Rattle.line.proofs.Theorems.{kept_in, same_bits}
use Rattle.crontab.proofs.Selections.{date-kept}
use Rattle.crontab.proofs.select.moved_on.Goals as goal

pub returns-then-offset-next : goal.returns-then-offset-next
returns-then-offset-next c =
    c.requires.2 ∙ ap (date_under c.args.which) (same_bits {y = c.args.offset} {z = c.args.next} c.requires.0 c.requires.1 c.if-offset-next.true)

pub date_under-requires : goal.date_under-requires
date_under-requires c = kept_in c.args.next c.requires.1

pub returns : goal.returns
returns c = date-kept _ c.args.next c.requires.1 c.date_under.ensures
