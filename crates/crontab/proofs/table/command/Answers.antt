-- `crontab::table::command` meets its contract.
-- Assumes nothing.
use mathlib.Core.Path.{sym, ◌∙◌}
use native.Mathlib.Omega.{arith}
use Rattle.octets.specs.Runs.{between}
use Rattle.crontab.specs.Tables.{command_in}
use Rattle.crontab.proofs.Theorems.{entry-sound}
use Rattle.crontab.proofs.table.command.Goals as goal

pub returns-in_default : goal.returns-in_default
unfolding command_in
returns-in_default c = rw (← c.find_entry.ensures, c.in_default.is)

pub slice_bounds-result-count-2 : goal.slice_bounds-result-count-2
slice_bounds-result-count-2 c = let e = entry-sound _ _ _ (sym c.find_entry.ensures ∙ c.in-Ok.is) in
    omega (arith, e.some)

pub slice_bounds-result-start-2 : goal.slice_bounds-result-start-2
slice_bounds-result-start-2 c = let e = entry-sound _ _ _ (sym c.find_entry.ensures ∙ c.in-Ok.is) in
    omega (arith, e.some, e.within)

pub slice_bounds-result-end-2 : goal.slice_bounds-result-end-2
slice_bounds-result-end-2 c = let e = entry-sound _ _ _ (sym c.find_entry.ensures ∙ c.in-Ok.is) in
    e.within

pub returns : goal.returns
unfolding command_in between
returns c = rw (← c.find_entry.ensures, c.in-Ok.is)
