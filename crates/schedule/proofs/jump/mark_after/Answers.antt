-- `schedule::jump::mark_after` meets its contract, case by case.
-- Assumes nothing.
use mathlib.Core.Logic.{inl, inr}
use Rattle.schedule.specs.Jumps.{mark_after}
use Rattle.schedule.proofs.jump.mark_after.Goals as goal

pub returns-in-Anew : goal.returns-in-Anew
unfolding mark_after
returns-in-Anew c = elim c.in-Anew.is [ inl w ↦ rw (← c.case_of.ensures, w) | inr w ↦ rw (← c.case_of.ensures, w.1) ]

pub returns-in-Held : goal.returns-in-Held
unfolding mark_after
returns-in-Held c = rw (← c.case_of.ensures, c.in-Held.is)
