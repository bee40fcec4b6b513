use mathlib.Core.Path.{◌≡◌, refl, sym, ◌∙◌}
use mathlib.Core.Bool.{◌&&◌, not}
use native.Mathlib.Omega.{arith}
use Rattle.fifo.specs.Inner.{callees, joined}
use Rattle.fifo.proofs.Queues.{laid-queue}
use Rattle.fifo.proofs.Filling.{joins_now, fills-none, fills-more, join-room, join-next}
use Rattle.fifo.proofs.queue.join.Goals as goal
use Rattle.fifo.proofs.queue.join.Goals.{After-has-in-loop-i, then-has, else-has}

-- whether entry i joins, as it is tested
joins : (c : After-has-in-loop-i)
    → let a = c.args in
    (c.has.result && not c.has-in-loop-i.result) ≡ joins_now a.n a.buffer.now a.called.now c.loop-i.i
joins c =
    rw (c.has.ensures, c.has-in-loop-i.ensures, c.requires.1 c.loop-i.i)

pub loop-i-init : goal.loop-i-init
loop-i-init c =
    let a = c.args in
    fills-none _ a.buffer.now _ a.n (sym (laid-queue a.n a.buffer.now (λ i. omega (arith, c.type_inv.buffer i)) c.requires.0)) refl

pub push-requires : goal.push-requires
push-requires c =
    let a = c.args in
    let p = c.requires in
    rw c.loop-i.invariant.room-is (join-room a.n a.buffer.now a.called.now c.loop-i.i (omega arith) p.0 (omega arith) (sym (joins (goal.at.push-requires c).After-has-in-loop-i) ∙ c.if-has.true))

pub overflow_add-count : goal.overflow_add-count
overflow_add-count c = omega (arith, c.loop-i.invariant.count_most)

pub loop-i-preserved : goal.loop-i-preserved
loop-i-preserved c =
    let a = c.args in
    let f = c.loop-i.invariant in
    let test = sym (joins (goal.at.loop-i-preserved c).After-has-in-loop-i) in
    let step = join-next a.n a.buffer.now a.called.now c.loop-i.i (omega arith) c.requires.0 (omega arith) in
    elim c.if-has.branch [
      | then-has w ↦
          let law = test ∙ w.if-has.true in
          rw (w.buffer-is, w.count-is)
          (fills-more _ _ _ _ f (omega arith) (w.push.ensures ∙ rw f.room-is (rw law at step)) (w.push.auto.buffer ∙ f.length-is) (rw law))
      | else-has w ↦
          let law = test ∙ w.if-has.false in
          rw (w.buffer-is, w.count-is) (fills-more _ _ _ _ f (omega arith) (f.room-is ∙ rw law at step) f.length-is (rw law (omega arith)))
    ]

pub returns : goal.returns
unfolding callees joined
returns c =
    let f = c.loop-i.invariant in
    let e : c.loop-i.i ≡ c.args.n = omega (arith, f.up_to) in
    record { answer = rw e at f.count-is; bytes = rw e at f.room-is }
