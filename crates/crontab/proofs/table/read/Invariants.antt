-- `crontab::table::read` meets its contract: what is left of the items, with the table so far, always gives the same.
-- Assumes nothing.
use mathlib.Core.Path.{◌≡◌}
use Prim.Native.Nat.{◌+◌, ◌-◌}
use lib.ListN.{length}
use Rattle.crontab.specs.Limits.{max_entries}
use Rattle.crontab.specs.Inner.{items_at, Reached}
use Rattle.crontab.specs.Tables.{with_items, table_of}
use Rattle.crontab.proofs.Tables.{good}
use Rattle.crontab.proofs.table.read.Given as goal

abbrev pub invariant-loop-step : goal.invariant-loop-step
invariant-loop-step l = (with_items (good l.c.count l.entries) (items_at l.rules l.s l.c) ≡ table_of l.rules l.s) × Reached l.s l.c × (length l.entries ≡ max_entries)

abbrev pub decreases-loop-step : goal.decreases-loop-step
decreases-loop-step l = length l.s + 1 - l.c.at
