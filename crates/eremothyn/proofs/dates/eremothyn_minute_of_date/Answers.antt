-- `eremothyn::dates::eremothyn_minute_of_date` meets its contract, by what the calendar promises.
-- Assumes nothing.
use mathlib.Core.Path.{◌≡◌, refl, ap, ◌∙◌}
use Prim.Native.Nat.{ℕ}
use Rattle.std.specs.Prelude.{Result, Ok, Err}
use Rattle.refusal.specs.declared.Refusal.{Refusal}
use Rattle.eremothyn.specs.Answer.{answer_of, result_number}
use Rattle.eremothyn.specs.Dates.{date_minute}
use Rattle.eremothyn.proofs.dates.eremothyn_minute_of_date.Goals as goal

same : (a : Result ℕ Refusal) → answer_of a ≡ result_number (λ m. m) a
unfolding answer_of result_number
same (Ok m) = refl
same (Err refusal) = refl

pub returns : goal.returns
unfolding date_minute
returns c = c.answer.ensures ∙ ap answer_of c.minute_of.ensures ∙ same _
