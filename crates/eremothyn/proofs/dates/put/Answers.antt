-- `eremothyn::dates::put` meets its contract: six numbers, one after the other.
-- Assumes nothing.
use native.Mathlib.Omega.{arith}
use lib.ListN.{length-set}
use Rattle.eremothyn.proofs.DateRuns.{six-put}
use Rattle.eremothyn.proofs.dates.put.Goals as goal

pub bounds-run-1 : goal.bounds-run-1
bounds-run-1 c = simp length-set (omega (arith, c.requires.0))

pub bounds-run-2 : goal.bounds-run-2
bounds-run-2 c = simp length-set (omega (arith, c.requires.0))

pub bounds-run-3 : goal.bounds-run-3
bounds-run-3 c = simp length-set (omega (arith, c.requires.0))

pub bounds-run-4 : goal.bounds-run-4
bounds-run-4 c = simp length-set (omega (arith, c.requires.0))

pub bounds-run-5 : goal.bounds-run-5
bounds-run-5 c = simp length-set (omega (arith, c.requires.0))

pub shape_of-run : goal.shape_of-run
shape_of-run c = simp length-set

pub returns : goal.returns
returns c = six-put _ _ _ _ _ _ _ c.requires.0
