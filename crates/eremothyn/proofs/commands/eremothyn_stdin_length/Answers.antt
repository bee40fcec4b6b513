-- `eremothyn::commands::eremothyn_stdin_length` meets its contract, by what the reader and the splitter promise.
-- Assumes nothing.
use mathlib.Core.Path.{sym, ◌∙◌}
use native.Mathlib.Omega.{arith}
use Rattle.octets.specs.Runs.{between}
use Rattle.crontab.proofs.Theorems.{entry-sound}
use Rattle.command.specs.Parts.{lengths_of}
use Rattle.eremothyn.specs.Answer.{answer_of}
use Rattle.eremothyn.specs.Commands.{stdin_in, stdin_length}
use Rattle.eremothyn.proofs.commands.eremothyn_stdin_length.Goals as goal

pub slice_bounds-measure-count : goal.slice_bounds-measure-count
slice_bounds-measure-count c = omega (arith, (entry-sound _ _ _ (sym c.find_entry.ensures ∙ c.in-Ok.is)).some)

pub slice_bounds-measure-start : goal.slice_bounds-measure-start
slice_bounds-measure-start c = omega (arith, (entry-sound _ _ _ (sym c.find_entry.ensures ∙ c.in-Ok.is)).some)

pub slice_bounds-measure-end : goal.slice_bounds-measure-end
slice_bounds-measure-end c = omega (arith, (entry-sound _ _ _ (sym c.find_entry.ensures ∙ c.in-Ok.is)).within)

pub returns-in-Ok : goal.returns-in-Ok
unfolding stdin_length stdin_in between lengths_of
returns-in-Ok c =
    rw (← c.rules_of.ensures, ← c.find_entry.ensures, c.in-Ok.is) (c.input_number.ensures ∙ rw c.measure-lengths.ensures)

pub returns-in-Err : goal.returns-in-Err
unfolding stdin_length stdin_in answer_of
returns-in-Err c = rw (← c.rules_of.ensures, ← c.find_entry.ensures, c.in-Err.is) c.answer.ensures
