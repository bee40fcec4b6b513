use mathlib.Core.Path.{◌≡◌, refl, sym, ◌∙◌}
use mathlib.Core.Bool.{false≢true}
use Prim.Native.Nat.{◌<◌}
use native.Mathlib.Omega.{arith}
use lib.ListN.{length, take, get_or}
use lib.Seq.{take_all}
use Rattle.fifo.specs.Queues.{entries_of}
use Rattle.fifo.specs.Layout.{queue_of}
use Rattle.fifo.proofs.Numbers.{waiting-length, waiting-at}
use Rattle.fifo.proofs.WaitingEntries.{take_next, entries-snoc, cut-over, cut_twice}
use Rattle.fifo.proofs.WaitingBits.{gathered-more}
use Rattle.fifo.proofs.queue.gather_entries.Goals as goal
use Rattle.fifo.proofs.queue.gather_entries.Goals.{After-number-e}

-- the number that was read is the entry at place i
entry : (c : After-number-e)
    → get_or (queue_of c.args.buffer.now).waiting c.loop-i.i 0 ≡ c.number-e.result
entry c = waiting-at _ _ (omega (arith, c.requires.0)) ∙ sym c.number-e.ensures

pub loop-i-init : goal.loop-i-init
unfolding entries_of
loop-i-init c = (refl, c.requires.1, c.requires.2)

pub overflow_add-i : goal.overflow_add-i
overflow_add-i c = omega (arith, waiting-length c.args.buffer.now, c.requires.0)

pub returns-then-n-e : goal.returns-then-n-e
returns-then-n-e c =
    let l = (queue_of c.args.buffer.now).waiting in
    record { answer = sym (cut-over l c.loop-i.i _ (omega (arith, c.requires.0)) (entry (goal.at.returns-then-n-e c).After-number-e) _ c.if-n-e.true); seen = λ e. absurd (false≢true e) }

pub returns-then-has : goal.returns-then-has
returns-then-has c =
    let l = (queue_of c.args.buffer.now).waiting in
    let inv = c.loop-i.invariant in
    let waits = sym (inv.1 _) ∙ sym c.has.ensures ∙ c.if-has.true in
    record { answer = sym (cut_twice l c.loop-i.i _ (omega (arith, c.requires.0)) (entry (goal.at.returns-then-has c).After-number-e) _ waits); seen = λ e. absurd (false≢true e) }

pub loop-i-preserved : goal.loop-i-preserved
loop-i-preserved c =
    let l = (queue_of c.args.buffer.now).waiting in
    let i = c.loop-i.i in
    let e = c.number-e.result in
    let inv = c.loop-i.invariant in
    let h : i < length l = omega (arith, c.requires.0) in
    let new = sym (inv.1 e) ∙ sym c.has.ensures ∙ c.if-has.false in (
      rw (take_next l i e h (entry (goal.at.loop-i-preserved c).After-number-e)) (entries-snoc _ (take i l) e inv.0 c.if-n-e.false new),
      rw (c.add.ensures, take_next l i e h (entry (goal.at.loop-i-preserved c).After-number-e)) (gathered-more _ (take i l) e (omega (arith, inv.2)) inv.1),
      c.add.auto.words ∙ inv.2,
    )

pub returns : goal.returns
returns c =
    let l = (queue_of c.args.buffer.now).waiting in
    let inv = c.loop-i.invariant in
    let all = take_all c.loop-i.i l (omega (arith, c.requires.0)) in
    record { answer = sym (rw all at inv.0); seen = λ e. rw all at inv.1 }
