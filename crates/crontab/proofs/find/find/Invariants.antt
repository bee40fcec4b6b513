-- `crontab::find::find` meets its contract: what is left of the items, with what was found so far, always gives the same.
-- Assumes nothing.
use mathlib.Core.Path.{◌≡◌}
use Prim.Native.Nat.{◌+◌, ◌-◌}
use lib.ListN.{length}
use Rattle.crontab.specs.Items.{items_of}
use Rattle.crontab.specs.Inner.{items_at, Reached}
use Rattle.crontab.specs.Findings.{finding_from, finding_of}
use Rattle.crontab.proofs.find.find.Given as goal

abbrev pub invariant-loop-c : goal.invariant-loop-c
invariant-loop-c l = (finding_from l.wanted l.found l.c.count (items_at l.rules l.s l.c) ≡ finding_of l.wanted (items_of l.rules l.s)) × Reached l.s l.c

abbrev pub decreases-loop-c : goal.decreases-loop-c
decreases-loop-c l = length l.s + 1 - l.c.at
