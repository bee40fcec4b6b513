-- `reload::same_meaning::is_same_meaning` meets its contract.
-- Assumes nothing.
use mathlib.Core.Path.{sym, ◌∙◌}
use native.Mathlib.Omega.{arith}
use Rattle.octets.specs.Runs.{between}
use Rattle.line.proofs.Theorems.{kept_in}
use Rattle.reload.proofs.EntryMeanings.{time-kept, same-meaning-not, same-meaning-other, same-meaning-owner, owner-inside}
use Rattle.reload.proofs.same_meaning.is_same_meaning.Goals as goal
use Rattle.reload.proofs.same_meaning.is_same_meaning.Goals.{then-same_when, else-same_when}

pub same_when-requires : goal.same_when-requires
same_when-requires c =
    (kept_in c.args.x.offset c.requires.0.zone, kept_in c.args.y.offset c.requires.1.zone)

pub same_part-requires : goal.same_part-requires
same_part-requires c =
    let p = c.requires in
    ((omega (arith, p.0.some), p.0.within), (omega (arith, p.1.some), p.1.within))

pub of_entry-requires : goal.of_entry-requires
of_entry-requires c = c.requires.0

pub of_entry-requires-then-same_part : goal.of_entry-requires-then-same_part
of_entry-requires-then-same_part c = c.requires.1

pub same_owner-requires : goal.same_owner-requires
same_owner-requires c =
    rw (c.of_entry.ensures, c.of_entry-then-same_part.ensures)
    (owner-inside c.args.rules c.args.s.now c.args.x c.requires.0, owner-inside c.args.rules c.args.t.now c.args.y c.requires.1)

pub returns-then-same_part : goal.returns-then-same_part
unfolding between
returns-then-same_part c =
    elim c.if-same_when.branch [
      | then-same_when w ↦
          same-meaning-owner c.args.rules c.args.s.now c.args.x c.args.t.now c.args.y
          (time-kept c.args.x.when c.args.x.offset c.args.y.when c.args.y.offset c.requires.0.zone c.requires.1.zone c.same_when.ensures)
          w.same_part.ensures w.if-same_when.true (sym w.value-is ∙ c.if-same_part.true)
          (c.same_owner.ensures ∙ rw (c.of_entry.ensures, c.of_entry-then-same_part.ensures))
      | else-same_when w ↦ cc
    ]

pub returns-else-same_part : goal.returns-else-same_part
unfolding between
returns-else-same_part c =
    let when = time-kept c.args.x.when c.args.x.offset c.args.y.when c.args.y.offset c.requires.0.zone c.requires.1.zone c.same_when.ensures in
    c.if-same_part.false
    ∙ elim c.if-same_when.branch [
      | then-same_when w ↦
          same-meaning-other c.args.rules c.args.s.now c.args.x c.args.t.now c.args.y when w.same_part.ensures w.if-same_when.true
          (sym w.value-is ∙ c.if-same_part.false)
      | else-same_when w ↦ same-meaning-not c.args.rules c.args.s.now c.args.x c.args.t.now c.args.y when w.if-same_when.false
    ]
