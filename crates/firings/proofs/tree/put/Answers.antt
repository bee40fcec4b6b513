use mathlib.Core.Path.{◌∙◌}
use native.Mathlib.Omega.{arith}
use Rattle.firings.proofs.Trees.{mend-start, leaf-set, leaf-put, mend-with, mend-low, mended}
use Rattle.firings.proofs.tree.put.Goals as goal

pub overflow_add-at : goal.overflow_add-at
overflow_add-at c = omega (arith, c.requires.1)

pub offset_bounds-tree-at : goal.offset_bounds-tree-at
offset_bounds-tree-at c = omega (arith, c.requires.1)

pub bounds-tree-at : goal.bounds-tree-at
bounds-tree-at c = omega (arith, c.requires.1, c.requires.0.size)

pub loop-at-init : goal.loop-at-init
loop-at-init c = (mend-start _ _ _ c.requires.0 c.requires.1, leaf-set _ _ _ c.requires.0 c.requires.1)

pub overflow_mul-other : goal.overflow_mul-other
overflow_mul-other c = omega (arith, c.loop-at.invariant.0.within)

pub overflow_add-other : goal.overflow_add-other
overflow_add-other c = omega (arith, c.loop-at.invariant.0.within)

pub offset_bounds-tree-other : goal.offset_bounds-tree-other
offset_bounds-tree-other c = omega (arith, c.loop-at.invariant.0.within)

pub bounds-tree-other : goal.bounds-tree-other
bounds-tree-other c = omega (arith, c.loop-at.invariant.0.within, c.loop-at.invariant.0.size)

pub offset_bounds-tree-at-in-loop-at : goal.offset_bounds-tree-at-in-loop-at
offset_bounds-tree-at-in-loop-at c = omega (arith, c.loop-at.invariant.0.within)

pub bounds-tree-at-in-loop-at : goal.bounds-tree-at-in-loop-at
bounds-tree-at-in-loop-at c = let m = c.loop-at.invariant.0 in omega (arith, m.within, m.size)

pub loop-at-preserved : goal.loop-at-preserved
loop-at-preserved c =
    let up = c.loop-at-test.true in
    let l = c.loop-at in
    (mend-with l.invariant.0 up l.invariant.1 c.min-low.ensures, mend-low l.invariant.0 up)

pub returns : goal.returns
returns c =
    let m = c.loop-at.invariant.0 in
    record { shape = mended m c.loop-at-test.false; leaves = λ j h. m.leaves j h ∙ leaf-put _ _ _ c.requires.0 c.requires.1 j }
