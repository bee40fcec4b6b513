use mathlib.Core.Path.{◌≡◌, refl, sym, ap, ◌∙◌}
use mathlib.Core.Bool.{true}
use mathlib.Core.List.{List, []}
use Prim.Native.Nat.{ℕ}
use native.Mathlib.Omega.{arith}
use lib.Seq.{take_all}
use Rattle.std.specs.Prelude.{Option}
use Rattle.schedule.specs.Jumps.{is_mark}
use Rattle.fifo.specs.Layout.{queue_of, stored, roomy}
use Rattle.fifo.specs.Steps.{refilled}
use Rattle.fifo.proofs.Queues.{queue-known, laid-queue, none-proper, written, written_over}
use Rattle.fifo.proofs.Stores.{laid_none}
use Rattle.fifo.proofs.Peek.{refill-next}
use Rattle.fifo.proofs.refill.Goals as goal
use Rattle.fifo.proofs.refill.Goals.{After-store, Start}

-- none waits
module _ (c : After-store) where
  abbrev a : Start
  a = (goal.at.After-store c).Start

  emptied : c.store.new.buffer ≡ stored (record { mark = (queue_of a.args.buffer.now).mark; waiting = [] }) a.args.buffer.now
  emptied =
      c.store.ensures
      ∙ laid_none _ _ (laid-queue a.requires.0.0 a.args.buffer.now (λ k. omega (arith, c.slice_known-1.given k)) a.requires.0.1)

  on : is_mark (queue_of a.args.buffer.now).mark ≡ true
  unfolding queue_of
  on = (queue-known a.requires.0.0 a.args.buffer.now a.requires.0.1).mark-is

  mark : (queue_of c.store.new.buffer).mark ≡ (queue_of a.args.buffer.now).mark
  mark = rw (written a.args.n _ a.args.buffer.now (omega arith) a.requires.1 (none-proper a.args.n _ on) emptied)

  over : (l : List ℕ) → stored (record { mark = (queue_of c.store.new.buffer).mark; waiting = l }) c.store.new.buffer ≡ stored (record { mark = (queue_of a.args.buffer.now).mark; waiting = l }) a.args.buffer.now
  over l =
      ap (λ (m : Option ℕ). stored (record { mark = m; waiting = l }) c.store.new.buffer) mark
      ∙ written_over a.args.n _ a.args.buffer.now (omega arith) a.requires.1 (none-proper a.args.n _ on) emptied _ (omega arith)

  still : roomy a.args.n c.store.new.buffer ≡ true
  unfolding roomy
  still = rw c.store.auto.buffer a.requires.1

pub store-requires : goal.store-requires
store-requires c =
    omega (arith, (queue-known c.requires.0.0 c.args.buffer.now c.requires.0.1).size_is)

pub loop-e-init : goal.loop-e-init
loop-e-init c =
    let after_store = (goal.at.loop-e-init c).After-store in
    (emptied after_store ∙ sym (over after_store []), refl)

pub push-requires : goal.push-requires
push-requires c =
    let after_store = (goal.at.push-requires c).After-store in
    let start = a after_store in
    let step =
    refill-next start.args.n (queue_of c.store.new.buffer).mark start.args.entries.now c.store.new.buffer c.loop-e.e-index (omega arith)
    (rw (mark after_store) (on after_store)) (still after_store) start.requires.2 (omega arith)
    in
    rw c.loop-e.invariant.0 step.0

pub loop-e-preserved : goal.loop-e-preserved
loop-e-preserved c =
    let after_store = (goal.at.loop-e-preserved c).After-store in
    let p = c.push in
    let start = a after_store in
    let step =
    refill-next start.args.n (queue_of c.store.new.buffer).mark start.args.entries.now c.store.new.buffer c.loop-e.e-index (omega arith)
    (rw (mark after_store) (on after_store)) (still after_store) start.requires.2 (omega arith)
    in
    (p.ensures ∙ rw c.loop-e.invariant.0 step.1, p.auto.buffer ∙ c.loop-e.invariant.1)

pub returns : goal.returns
unfolding refilled
returns c =
    let after_store = (goal.at.returns c).After-store in
    let l = c.loop-e in
    let all = take_all l.e-index (a after_store).args.entries.now (omega arith) in
    l.invariant.0 ∙ rw all (over after_store (a after_store).args.entries.now)
