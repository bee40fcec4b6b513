-- `eremothyn::record_calls::eremothyn_compile` meets its contract, by what the writer promises.
-- Assumes nothing.
use mathlib.Core.Path.{ap, ◌∙◌}
use Rattle.eremothyn.specs.NormalForms.{normal_number}
use Rattle.eremothyn.proofs.record_calls.eremothyn_compile.Goals as goal

pub returns : goal.returns
returns c =
    let form = rw c.dialect_of.ensures at c.compile.ensures in
    record { answer = c.normal_number.ensures ∙ ap normal_number form.answer; records = form.records }
