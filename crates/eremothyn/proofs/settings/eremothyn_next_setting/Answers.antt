-- `eremothyn::settings::eremothyn_next_setting` meets its contract, by what the reader promises.
-- Assumes nothing.
use mathlib.Core.Path.{◌≡◌, refl, ap, ◌∙◌}
use Prim.Native.Nat.{ℕ}
use Rattle.std.specs.Prelude.{Result, Ok, Err}
use Rattle.refusal.specs.declared.Refusal.{Refusal}
use Rattle.eremothyn.specs.Answer.{answer_of}
use Rattle.eremothyn.specs.Settings.{line_number}
use Rattle.eremothyn.proofs.settings.eremothyn_next_setting.Goals as goal

same : (a : Result ℕ Refusal) → answer_of a ≡ line_number a
unfolding answer_of line_number
same (Ok k) = refl
same (Err refusal) = refl

pub returns : goal.returns
returns c = rw (← c.rules_of.ensures) (c.answer.ensures ∙ ap answer_of c.next.ensures ∙ same _)
