-- `reload::counterpart` meets its contract.
-- Assumes nothing.
use mathlib.Core.Path.{sym, ◌∙◌}
use native.Mathlib.Omega.{arith}
use Rattle.crontab.proofs.Theorems.{entry-sound, selected-bad}
use Rattle.reload.proofs.Targets.{entry-is, entry-some, target-ends, target-refused}
use Rattle.reload.proofs.counterpart.Goals as goal

pub returns-in_default : goal.returns-in_default
returns-in_default c =
    absurd (entry-some c.args.rules c.args.old.now c.args.entry c.requires c.find_entry.ensures c.in_default.is)

pub returns-in_default-read : goal.returns-in_default-read
returns-in_default-read c =
    let a = c.args in
    let (f, is, same) = selected-bad a.rules a.old.now _ (sym c.in_default-read.is ∙ c.read.ensures) in
    absurd (omega (arith, c.requires, rw is at c.requires))

pub returns-in_default-read-2 : goal.returns-in_default-read-2
returns-in_default-read-2 c =
    let a = c.args in
    let (f, is, same) = selected-bad a.rules a.new.now _ (sym c.in_default-read-2.is ∙ c.read-2.ensures) in
    target-refused a.rules a.old.now a.new.now a.entry (rw is)

pub read-requires : goal.read-requires
read-requires c = entry-sound _ _ _ (sym c.find_entry.ensures ∙ c.in-Ok.is)

pub read-requires-2 : goal.read-requires-2
read-requires-2 c = entry-sound _ _ _ (sym c.find_entry.ensures ∙ c.in-Ok.is)

pub returns : goal.returns
returns c =
    let is = entry-is c.args.rules c.args.old.now c.args.entry c.requires c.find_entry.ensures c.in-Ok.is in
    target-ends c.args.rules c.args.old.now c.args.new.now c.args.entry c.requires is
    (sym c.in-Ok-read.is ∙ c.read.ensures) (sym c.in-Ok-read-2.is ∙ c.read-2.ensures)
    c.below-rank.ensures c.ranked_or_last.ensures
