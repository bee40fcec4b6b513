-- `eremothyn::commands::eremothyn_split_command` meets its contract, by what the reader and the splitter promise.
-- Assumes nothing.
use mathlib.Core.Path.{◌≡◌, sym, ap, ◌∙◌}
use mathlib.Core.List.{List}
use Prim.Native.Nat.{ℕ}
use native.Mathlib.Omega.{arith}
use Rattle.std.specs.Prelude.{Ok, Err}
use Rattle.refusal.specs.declared.Refusal.{Refusal}
use Rattle.octets.specs.Runs.{between}
use Rattle.crontab.proofs.Theorems.{entry-sound}
use Rattle.line.specs.declared.Rules.{Rules}
use Rattle.crontab.specs.declared.entry.Entry.{Entry}
use Rattle.crontab.specs.Tables.{table_of, entry_in}
use Rattle.command.specs.Buffers.{Split, split_step}
use Rattle.eremothyn.specs.Answer.{answer_of}
use Rattle.eremothyn.specs.Commands.{split_number, split_in, split_of}
use borrow.Author.Rules.{rules}
use Rattle.eremothyn.proofs.commands.eremothyn_split_command.Goals as goal

-- what the split is, by the entry that is found
split-found : (rules : Rules) (table : List ℕ) (i : ℕ) (e : Entry) (shell input : List ℕ) → entry_in (table_of rules table) i ≡ Ok e
    → split_of rules table i shell input ≡ split_step (between table e.start e.end) shell input
unfolding split_of split_in
split-found rules table i e shell input q = rw q

split-refused : (rules : Rules) (table : List ℕ) (i : ℕ) (refusal : Refusal) (shell input : List ℕ) → entry_in (table_of rules table) i ≡ Err refusal
    → split_of rules table i shell input ≡ record { answer = Err refusal; shell = shell; input = input }
unfolding split_of split_in
split-refused rules table i refusal shell input q = rw q

pub slice_bounds-split-count : goal.slice_bounds-split-count
slice_bounds-split-count c = omega (arith, (entry-sound _ _ _ (sym c.find_entry.ensures ∙ c.in-Ok.is)).some)

pub slice_bounds-split-start : goal.slice_bounds-split-start
slice_bounds-split-start c = omega (arith, (entry-sound _ _ _ (sym c.find_entry.ensures ∙ c.in-Ok.is)).some)

pub slice_bounds-split-end : goal.slice_bounds-split-end
slice_bounds-split-end c = omega (arith, (entry-sound _ _ _ (sym c.find_entry.ensures ∙ c.in-Ok.is)).within)

pub returns-in-Ok : goal.returns-in-Ok
unfolding between
returns-in-Ok c =
    let found = rw c.rules_of.ensures at (sym c.find_entry.ensures ∙ c.in-Ok.is) in
    let done = sym (split-found _ _ _ _ _ _ found) in
    let parts = c.split.ensures in
    record { answer = c.split_number.ensures ∙ ap split_number (parts.answer ∙ ap (λ (s : Split). s.answer) done); shell = parts.shell ∙ ap (λ (s : Split). s.shell) done; input = parts.input ∙ ap (λ (s : Split). s.input) done }

pub returns-in-Err : goal.returns-in-Err
unfolding split_number answer_of
returns-in-Err c =
    let found = rw c.rules_of.ensures at (sym c.find_entry.ensures ∙ c.in-Err.is) in
    let done = sym (split-refused _ _ _ _ _ _ found) in
    record { answer = c.answer.ensures ∙ ap (λ (s : Split). split_number s.answer) done; shell = ap (λ (s : Split). s.shell) done; input = ap (λ (s : Split). s.input) done }
