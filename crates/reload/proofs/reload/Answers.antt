-- `reload::reload` meets its contract: each return is a law of the call.
-- Assumes nothing.
use mathlib.Core.Path.{sym, ap, ◌∙◌}
use mathlib.Core.Bool.{and-eq-true_iff}
use mathlib.Core.List.{List}
use Prim.Native.Nat.{ℕ}
use native.Mathlib.Omega.{arith}
use lib.ListN.{length}
use lib.Seq.{length-take-le}
use Rattle.crontab.specs.Tables.{table_of, count_in}
use Rattle.crontab.proofs.Theorems.{table-sound, verdict-bad}
use Rattle.std.proofs.lemmas.Result.{err_from_is_err_and}
use Rattle.std.specs.Prelude.{Ok}
use Rattle.crontab.proofs.Tables.{verdict-good}
use Rattle.fifo.specs.Layout.{queue_of}
use Rattle.fifo.specs.Steps.{refilled}
use Rattle.reload.proofs.Reloads.{reloaded-entries}
use Rattle.reload.proofs.Exits.{reload-old, reload-new, reload-none, reload-done, both-are}
use Rattle.reload.proofs.reload.Goals as goal

pub returns-in_err-before : goal.returns-in_err-before
returns-in_err-before c =
    let a = c.args in
    let err = err_from_is_err_and c.from_residual.result c.from_residual.ensures.1 in
    let law = reload-old a.rules a.old.now a.new.now a.room.now (verdict-bad a.rules a.old.now (sym c.in_err-before.was ∙ c.check.ensures)) in
    record { answer = rw (err.1, err.2) law.0; room = law.1 }

pub returns-in_err-n : goal.returns-in_err-n
returns-in_err-n c =
    let a = c.args in
    let err = err_from_is_err_and c.from_residual-in_err-n.result c.from_residual-in_err-n.ensures.1 in
    let e = verdict-good (table_of a.rules a.old.now) (sym c.in_ok-before.was ∙ c.check.ensures) in
    let law = reload-new a.rules a.old.now a.new.now a.room.now e.0 (verdict-bad a.rules a.new.now (sym c.in_err-n.was ∙ c.check-2.ensures)) in
    record { answer = rw (err.1, err.2) law.0; room = law.1 }

pub who_waits-kept-requires : goal.who_waits-kept-requires
who_waits-kept-requires c =
    let a = c.args in
    let e = verdict-good (table_of a.rules a.old.now) (sym c.in_ok-before.was ∙ c.check.ensures) in
    let f = verdict-good (table_of a.rules a.new.now) (sym c.in_ok-n.was ∙ c.check-2.ensures) in
    let both = both-are a.rules a.old.now a.new.now a.room.now c.is_queue.ensures e.1 c.has_room.ensures f.1 c.if-is_queue-has_room.true in
    (((and-eq-true_iff _ _).0 both).0, f.1)

pub overflow_cast-n : goal.overflow_cast-n
overflow_cast-n c =
    let a = c.args in
    let f = verdict-good (table_of a.rules a.new.now) (sym c.in_ok-n.was ∙ c.check-2.ensures) in
    omega (arith, f.1, (table-sound a.rules a.new.now).few)

pub slice_bounds-refill-end : goal.slice_bounds-refill-end
slice_bounds-refill-end c = let w = c.who_waits-kept in sym (length-take-le w.result.count w.result.entries w.ensures.1)

pub refill-requires : goal.refill-requires
refill-requires c =
    let a = c.args in
    let e = verdict-good (table_of a.rules a.old.now) (sym c.in_ok-before.was ∙ c.check.ensures) in
    let f = verdict-good (table_of a.rules a.new.now) (sym c.in_ok-n.was ∙ c.check-2.ensures) in
    let w = c.who_waits-kept in
    let n = f.1 in
    let both = both-are a.rules a.old.now a.new.now a.room.now c.is_queue.ensures e.1 c.has_room.ensures n c.if-is_queue-has_room.true in
    let t = (and-eq-true_iff _ _).0 both in (
      (count_in (table_of a.rules a.old.now), t.0),
      rw n t.1,
      rw (n, w.ensures.0) (reloaded-entries a.rules a.old.now a.new.now (queue_of a.room.now).waiting),
    )

pub returns-then-is_queue-has_room : goal.returns-then-is_queue-has_room
returns-then-is_queue-has_room c =
    let a = c.args in
    let e = verdict-good (table_of a.rules a.old.now) (sym c.in_ok-before.was ∙ c.check.ensures) in
    let f = verdict-good (table_of a.rules a.new.now) (sym c.in_ok-n.was ∙ c.check-2.ensures) in
    let w = c.who_waits-kept in
    let both = both-are a.rules a.old.now a.new.now a.room.now c.is_queue.ensures e.1 c.has_room.ensures f.1 c.if-is_queue-has_room.true in
    let done = reload-done a.rules a.old.now a.new.now a.room.now e.0 f.0 both in
    let size = length-take-le w.result.count w.result.entries w.ensures.1 in
    record { answer = ap Ok (sym size ∙ ap length w.ensures.0) ∙ done.0; room = c.refill.ensures ∙ ap (λ (l : List ℕ). refilled l a.room.now) w.ensures.0 ∙ done.1 }

pub returns : goal.returns
returns c =
    let a = c.args in
    let e = verdict-good (table_of a.rules a.old.now) (sym c.in_ok-before.was ∙ c.check.ensures) in
    let f = verdict-good (table_of a.rules a.new.now) (sym c.in_ok-n.was ∙ c.check-2.ensures) in
    let both = both-are a.rules a.old.now a.new.now a.room.now c.is_queue.ensures e.1 c.has_room.ensures f.1 c.if-is_queue-has_room.false in
    let r = reload-none a.rules a.old.now a.new.now a.room.now e.0 f.0 both in
    record { answer = r.0; room = r.1 }
