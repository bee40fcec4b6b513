-- `fifo::tick` meets its contract: who waits is gathered where the room holds a line.
-- Assumes nothing.
use Rattle.fifo.proofs.WaitingBits.{gathered_none}
use Rattle.fifo.proofs.Queues.{is-queue}
use Rattle.fifo.specs.Layout.{queue_of}
use Rattle.fifo.specs.Inner.{tick_called}
use Rattle.calendar.specs.Dates.{last_minute}
use Rattle.schedule.proofs.Theorems.{mark-stays}
use native.Mathlib.Omega.{arith}
use borrow.Author.Tests.{lt-leb}
use Rattle.std.specs.Prelude.{Ok}
use Rattle.fifo.proofs.Filling.{tick-done}
use mathlib.Core.Path.{refl, sym, ap, ◌∙◌}
use Rattle.fifo.proofs.tick.Goals as goal

pub gather-requires : goal.gather-requires
gather-requires c = (gathered_none 1024, refl)

pub returns-then-minute-gt-LAST_MINUTE : goal.returns-then-minute-gt-LAST_MINUTE
unfolding tick_called
returns-then-minute-gt-LAST_MINUTE c =
    let law = sym c.gather.ensures.answer ∙ c.if-gather.true in
    record { answer = rw (law, lt-leb c.args.minute last_minute (omega arith)) refl; room = rw (law, lt-leb c.args.minute last_minute (omega arith)) refl }

pub announce-requires : goal.announce-requires
announce-requires c =
    let is = sym c.gather.ensures.answer ∙ c.if-gather.true in (
      is,
      c.gather.ensures.seen c.if-gather.true,
      rw (c.mark_after-mark.ensures, c.mark_of.ensures) (mark-stays _ _ (is-queue _ _ is).0 c.if-minute-gt-LAST_MINUTE.false),
    )

pub returns-then-gather : goal.returns-then-gather
unfolding queue_of
returns-then-gather c =
    let is = sym c.gather.ensures.answer ∙ c.if-gather.true in
    let marked = rw (c.mark_after-mark.ensures, c.mark_of.ensures) at c.announce.ensures.room in
    let a = c.args in
    let law = tick-done a.n a.called.now a.minute a.buffer.now is c.if-minute-gt-LAST_MINUTE.false in
    record { answer = rw law (ap Ok c.announce.ensures.answer); room = rw law marked }

pub returns : goal.returns
unfolding tick_called
returns c = record { answer = rw (sym c.gather.ensures.answer ∙ c.if-gather.false) refl; room = rw (sym c.gather.ensures.answer ∙ c.if-gather.false) refl }
