-- `reload::same_meaning::same_owner` meets its contract.
-- Assumes nothing.
use mathlib.Core.Path.{sym, ◌∙◌}
use Rattle.reload.specs.EntryMeanings.{same_owner}
use Rattle.reload.proofs.same_meaning.same_owner.Goals as goal
use Rattle.reload.proofs.same_meaning.same_owner.Goals.{then-same_part, else-same_part}

pub returns-then-same_part-2 : goal.returns-then-same_part-2
unfolding same_owner
returns-then-same_part-2 c =
    elim c.if-same_part.branch [
      | then-same_part w ↦
          rw (← c.same_part.ensures, w.if-same_part.true, ← w.same_part-then-same_part.ensures, sym w.value-is ∙ c.if-same_part-2.true)
          c.same_part-then-same_part-2.ensures
      | else-same_part w ↦ cc
    ]

pub returns-else-same_part-2 : goal.returns-else-same_part-2
unfolding same_owner
returns-else-same_part-2 c =
    elim c.if-same_part.branch [
      | then-same_part w ↦
          rw (← c.same_part.ensures, w.if-same_part.true, ← w.same_part-then-same_part.ensures, sym w.value-is ∙ c.if-same_part-2.false)
          c.if-same_part-2.false
      | else-same_part w ↦ rw (← c.same_part.ensures, w.if-same_part.false) c.if-same_part-2.false
    ]
