-- `fifo::pop` meets its contract.
-- Assumes nothing.
use mathlib.Core.Path.{◌≡◌, refl, sym, ap, ◌∙◌}
use mathlib.Core.Bool.{true}
use Prim.Native.Nat.{◌<◌}
use native.Mathlib.Omega.{arith}
use lib.ListN.{length}
use Rattle.std.specs.Prelude.{Some, Ok}
use Rattle.fifo.specs.Layout.{count_of, queue_of, stored, is_queue}
use Rattle.fifo.specs.Steps.{standing, pop_step}
use Rattle.fifo.proofs.Numbers.{waiting-at}
use Rattle.fifo.proofs.Queues.{queue-known, laid-queue}
use Rattle.fifo.proofs.Stores.{laid-drop-none}
use Rattle.fifo.proofs.Peek.{standing-at, standing-past}
use Rattle.fifo.proofs.pop.Goals as goal
use Rattle.fifo.proofs.pop.Goals.{After-number-count, Then-is_queue}

-- the buffer holds a queue
is : (c : Then-is_queue) → is_queue c.args.n c.args.buffer.now ≡ true
is c = sym c.is_queue.ensures ∙ c.if-is_queue.true

held : (c : Then-is_queue) → let s = c.args.buffer.now in stored (queue_of s) s ≡ s
held c =
    laid-queue c.args.n c.args.buffer.now (λ k. omega (arith, c.slice_known-1.given k)) (is c)

-- the number that was read is how many wait
counted : (c : After-number-count) → c.number-count.result ≡ length (queue_of c.args.buffer.now).waiting
unfolding count_of
counted c = c.number-count.ensures ∙ (queue-known _ _ (is (goal.at.After-number-count c).Then-is_queue)).counted_is

pub returns-then-count-eq0 : goal.returns-then-count-eq0
unfolding pop_step standing
returns-then-count-eq0 c =
    let s = c.args.buffer.now in
    let none = sym (counted (goal.at.returns-then-count-eq0 c).After-number-count) ∙ c.if-count-eq0.true in
    let law = is (goal.at.returns-then-count-eq0 c).Then-is_queue in
    record { answer = rw law (ap Ok (standing-past (queue_of s).waiting 0 (omega arith))); room = rw law (laid-drop-none (queue_of s) s (held (goal.at.returns-then-count-eq0 c).Then-is_queue) none) }

pub drop_front-requires : goal.drop_front-requires
drop_front-requires c =
    (held (goal.at.drop_front-requires c).Then-is_queue, counted (goal.at.drop_front-requires c).After-number-count, omega (arith, c.if-count-eq0.false))

pub returns-then-is_queue : goal.returns-then-is_queue
unfolding pop_step standing
returns-then-is_queue c =
    let s = c.args.buffer.now in
    let some : 0 < length (queue_of s).waiting = omega (arith, c.if-count-eq0.false, counted (goal.at.returns-then-is_queue c).After-number-count) in
    let law = is (goal.at.returns-then-is_queue c).Then-is_queue in
    record { answer = rw law (ap Ok (ap Some (c.number-e.ensures ∙ sym (waiting-at s 0 some)) ∙ standing-at (queue_of s).waiting 0 some)); room = rw law c.drop_front.ensures }

pub returns : goal.returns
unfolding pop_step
returns c = record { answer = rw (sym c.is_queue.ensures ∙ c.if-is_queue.false) refl; room = rw (sym c.is_queue.ensures ∙ c.if-is_queue.false) refl }
