-- `crontab::select::read` meets its contract: the entries that are chosen are marked, and the local date is that of the offset in force.
-- Assumes nothing.
use mathlib.Core.Path.{◌≡◌}
use Prim.Native.Nat.{◌+◌, ◌-◌}
use lib.ListN.{length}
use Rattle.crontab.specs.Selections.{is_selected, date_under}
use Rattle.crontab.proofs.Selections.{Selecting}
use Rattle.crontab.proofs.select.read.Given as goal

abbrev pub invariant-loop-step : goal.invariant-loop-step
invariant-loop-step l = Selecting (is_selected l.which) l.rules l.s l.c l.members × (l.date ≡ date_under l.which l.c.offset)

abbrev pub decreases-loop-step : goal.decreases-loop-step
decreases-loop-step l = length l.s + 1 - l.c.at
