-- `eremothyn::normal_forms::eremothyn_normal_form` meets its contract, by what the writer promises.
-- Assumes nothing.
use mathlib.Core.Path.{ap, ◌∙◌}
use Rattle.eremothyn.specs.NormalForms.{normal_number}
use Rattle.eremothyn.proofs.normal_forms.eremothyn_normal_form.Goals as goal

pub returns : goal.returns
returns c =
    let form = rw c.dialect_of.ensures at c.normal_form.ensures in
    record { answer = c.normal_number.ensures ∙ ap normal_number form.answer; text = form.text }
