-- `schedule::jump::case_of` meets its contract: each way is a law of the cases.
-- Assumes nothing.
use mathlib.Core.Path.{sym}
use native.Mathlib.Omega.{arith}
use Rattle.schedule.specs.Jumps.{case_of}
use Rattle.schedule.proofs.Jumps.{case-above, case-below, case-after, case-held}
use Rattle.schedule.proofs.jump.case_of.Goals as goal

pub returns-in_default : goal.returns-in_default
unfolding case_of
returns-in_default c = rw c.in_default.is

pub returns-then-minute-marked-gt-CATCH_UP_LIMIT : goal.returns-then-minute-marked-gt-CATCH_UP_LIMIT
returns-then-minute-marked-gt-CATCH_UP_LIMIT c = rw c.in-Some.is (sym (case-above _ _ (omega arith)))

pub returns-then-marked-minute : goal.returns-then-marked-minute
returns-then-marked-minute c = rw c.in-Some.is (sym (case-after _ _ c.if-marked-minute.true (omega arith)))

pub returns-then-marked-minute-ge-CATCH_UP_LIMIT : goal.returns-then-marked-minute-ge-CATCH_UP_LIMIT
returns-then-marked-minute-ge-CATCH_UP_LIMIT c = rw c.in-Some.is (sym (case-below _ _ (omega arith)))

pub returns : goal.returns
returns c = rw c.in-Some.is (sym (case-held _ _ c.if-marked-minute.false (omega arith)))
