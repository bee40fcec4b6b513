-- `eremothyn::record_calls::eremothyn_decompile` meets its contract, by what the reader promises.
-- Assumes nothing.
use mathlib.Core.Path.{ap, ◌∙◌}
use Rattle.eremothyn.specs.NormalForms.{normal_number}
use Rattle.eremothyn.proofs.record_calls.eremothyn_decompile.Goals as goal

pub returns : goal.returns
returns c =
    let form = c.decompile.ensures in
    record { answer = c.normal_number.ensures ∙ ap normal_number form.answer; text = form.text }
