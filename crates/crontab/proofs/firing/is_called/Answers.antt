-- `crontab::firing::is_called` meets its contract: a fixed entry by the case, any other by the minute.
-- Assumes nothing.
use Rattle.crontab.proofs.Firings.{fires-here}
use Rattle.schedule.proofs.Theorems.{judged-unfixed}
use Rattle.schedule.specs.Jumps.{judged}
use mathlib.Core.Path.{sym, ◌∙◌}
use Rattle.crontab.proofs.firing.is_called.Goals as goal

pub returns-in-Anew : goal.returns-in-Anew
unfolding judged
returns-in-Anew c = rw c.in-Anew.is (c.fires_on.ensures ∙ fires-here _ _ c.requires.2)

pub returns-in-After : goal.returns-in-After
unfolding judged
returns-in-After c = rw (c.in-After.is, ← c.is_fixed.ensures, c.if-is_fixed.true) c.caught_up.ensures

pub returns-in-Held : goal.returns-in-Held
unfolding judged
returns-in-Held c = rw (c.in-Held.is, ← c.is_fixed.ensures, c.if-is_fixed.true)

pub returns : goal.returns
returns c =
    rw (← c.is_fixed.ensures, c.if-is_fixed.false)
    (c.fires_on-2.ensures ∙ fires-here _ _ c.requires.2 ∙ sym (judged-unfixed _ _ _))
