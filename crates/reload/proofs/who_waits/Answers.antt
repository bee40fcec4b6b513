use mathlib.Core.Path.{◌≡◌, refl, sym, ◌∙◌}
use mathlib.Core.Bool.{Bool, true, not, ◌&&◌, and-eq-true_iff}
use Prim.Native.Nat.{ℕ, ◌<◌}
use native.Mathlib.Omega.{arith}
use lib.ListN.{length, get_or}
use lib.Dec.{ltb}
use borrow.Author.Tests.{ltb-true}
use Rattle.std.proofs.lemmas.Option.{same_Some}
use Rattle.fifo.specs.Layout.{queue_of}
use Rattle.fifo.proofs.Theorems.{is-queue, standing-at, entry-there}
use Rattle.crontab.proofs.Theorems.{table-sound}
use Rattle.reload.proofs.Reloads.{keeps-none, keeps-fit, keeps-out, keeps-in, keeps-all}
use Rattle.reload.proofs.who_waits.Goals as goal
use Rattle.reload.proofs.who_waits.Goals.{After-unwrap-entry, then-to-n, else-to-n}

-- the entry that is read is the one at that place
read : (c : After-unwrap-entry) → let w = (queue_of c.args.room.now).waiting in c.loop-place.place < length w → get_or w c.loop-place.place 0 ≡ c.unwrap-entry.result
read c h =
    same_Some _ _ (standing-at (queue_of c.args.room.now).waiting c.loop-place.place h ∙ sym c.standing.ensures ∙ c.unwrap-entry.ensures)

-- one that is kept is an entry of the new table
inside : (x n : ℕ) (b : Bool) → (ltb x n && not b) ≡ true → x < n
inside x n b e = ltb-true x n ((and-eq-true_iff (ltb x n) (not b)).0 e).0

pub loop-place-init : goal.loop-place-init
loop-place-init c = keeps-none _ _ _ _ _ refl

pub unwrap-entry-requires : goal.unwrap-entry-requires
unwrap-entry-requires c =
    let l = c.loop-place in
    let w = (queue_of c.args.room.now).waiting in
    let h : l.place < length w = omega (arith, c.waiting-place-end.ensures) in
    rw (c.standing.ensures, ← (standing-at w l.place h))

pub counterpart-to-requires : goal.counterpart-to-requires
counterpart-to-requires c =
    let l = c.loop-place in
    let w = (queue_of c.args.room.now).waiting in
    let h : l.place < length w = omega (arith, c.waiting-place-end.ensures) in
    let there = entry-there _ w l.place (is-queue _ c.args.room.now c.requires.0).1 h in
    let e = read (goal.at.counterpart-to-requires c).After-unwrap-entry h in
    omega (arith, e, there.0)

pub overflow_cast-entries : goal.overflow_cast-entries
overflow_cast-entries c =
    let below = inside c.counterpart-to.result c.args.n c.has.result c.if-to-n.true in
    omega (arith, below, c.requires.1, (table-sound c.args.rules c.args.new.now).few)

pub offset_bounds-entries-count : goal.offset_bounds-entries-count
offset_bounds-entries-count c =
    let l = c.loop-place in
    let fit = keeps-fit c.args.rules c.args.old.now c.args.new.now (queue_of c.args.room.now).waiting (is-queue _ c.args.room.now c.requires.0).1 in
    omega (arith, c.waiting-place-end.ensures, l.invariant.few, fit)

pub bounds-entries-count : goal.bounds-entries-count
bounds-entries-count c =
    let l = c.loop-place in
    let fit = keeps-fit c.args.rules c.args.old.now c.args.new.now (queue_of c.args.room.now).waiting (is-queue _ c.args.room.now c.requires.0).1 in
    omega (arith, c.waiting-place-end.ensures, l.invariant.few, fit)

pub overflow_add-count : goal.overflow_add-count
overflow_add-count c = omega (arith, c.loop-place.invariant.few)

pub loop-place-preserved : goal.loop-place-preserved
loop-place-preserved c =
    let l = c.loop-place in
    let w = (queue_of c.args.room.now).waiting in
    let h : l.place < length w = omega (arith, c.waiting-place-end.ensures) in
    let fit = keeps-fit c.args.rules c.args.old.now c.args.new.now w (is-queue _ c.args.room.now c.requires.0).1 in
    let at = read (goal.at.loop-place-preserved c).After-unwrap-entry h in
    elim c.if-to-n.branch [
      | then-to-n v ↦
          rw (v.entries-is, v.queued-is, v.count-is, v.add.ensures)
          (keeps-in _ _ _ w l.invariant h _ at c.counterpart-to.ensures c.requires.1 c.has.ensures v.if-to-n.true fit)
      | else-to-n v ↦
          rw (v.entries-is, v.queued-is, v.count-is)
          (keeps-out _ _ _ w l.invariant h _ at c.counterpart-to.ensures c.requires.1 c.has.ensures v.if-to-n.false)
    ]

pub returns : goal.returns
returns c =
    let l = c.loop-place in
    let w = (queue_of c.args.room.now).waiting in
    let fit = keeps-fit c.args.rules c.args.old.now c.args.new.now w (is-queue _ c.args.room.now c.requires.0).1 in
    (keeps-all _ _ _ w l.invariant (omega (arith, c.waiting-place-end.ensures)), omega (arith, l.invariant.few, l.invariant.up_to, l.invariant.full, fit))
