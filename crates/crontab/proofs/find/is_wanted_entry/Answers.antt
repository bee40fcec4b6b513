-- `crontab::find::is_wanted_entry` meets its contract: it is the definition, case by case.
-- Assumes nothing.
use mathlib.Core.Logic.{inl, inr}
use Rattle.crontab.specs.Findings.{is_wanted_entry}
use Rattle.crontab.proofs.find.is_wanted_entry.Goals as goal

pub returns-in-Entry : goal.returns-in-Entry
unfolding is_wanted_entry
returns-in-Entry c = rw c.in-Entry.is

pub returns-in-Count : goal.returns-in-Count
unfolding is_wanted_entry
returns-in-Count c = elim c.in-Count.is [ inl x ↦ rw x | inr y ↦ elim y [ inl x ↦ rw x.1 | inr x ↦ rw x.1 ] ]
