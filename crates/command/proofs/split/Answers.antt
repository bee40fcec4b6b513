-- `command::split` meets its contract: each way is a law of the split.
-- Assumes nothing.
use native.Mathlib.Omega.{arith}
use lib.ListN.{length}
use Rattle.command.proofs.Buffers.{neither, line-within, whole-refused, whole-written, cut-refused, cut-written}
use Rattle.command.proofs.split.Goals as goal

pub returns-then-shell-n : goal.returns-then-shell-n
returns-then-shell-n c =
    let a = c.args in
    let r = whole-refused a.c.now a.shell.now a.input.now c.in-Whole.n (rw c.in-Whole.is at c.shell_end.ensures) c.if-shell-n.true in
    record { answer = r.0; shell = r.1.0; input = r.1.1 }

pub fill-requires : goal.fill-requires
fill-requires c =
    let is = rw c.in-Whole.is at c.shell_end.ensures in
    (rw c.pieces_of.ensures (line-within c.args.c.now c.in-Whole.n is.0), c.if-shell-n.false)

pub returns-then-shell-length : goal.returns-then-shell-length
returns-then-shell-length c =
    let m = c.count-m in
    let a = c.args in
    let r = cut-refused a.c.now a.shell.now a.input.now c.in-Cut.length m.result c.in-Cut.rest
    (rw c.in-Cut.is at c.shell_end.ensures) m.ensures c.if-shell-length.true in
    record { answer = r.0; shell = r.1.0; input = r.1.1 }

pub fill-requires-in-Cut : goal.fill-requires-in-Cut
fill-requires-in-Cut c =
    let a = c.args in
    let is = rw c.in-Cut.is at c.shell_end.ensures in (
      rw c.pieces_of-in-Cut.ensures (line-within a.c.now c.in-Cut.length is.0),
      (neither (length a.shell.now) c.in-Cut.length (length a.input.now) c.count-m.result c.if-shell-length.false).0,
    )

pub fill-requires-in-Cut-2 : goal.fill-requires-in-Cut-2
fill-requires-in-Cut-2 c =
    let m = c.count-m in
    let a = c.args in
    (omega (arith, m.ensures), (neither (length a.shell.now) c.in-Cut.length (length a.input.now) m.result c.if-shell-length.false).1)

pub returns-else-shell-n : goal.returns-else-shell-n
returns-else-shell-n c =
    let a = c.args in
    let r = whole-written a.c.now a.shell.now a.input.now c.in-Whole.n (rw c.in-Whole.is at c.shell_end.ensures) _ c.if-shell-n.false
    (rw c.pieces_of.ensures at c.fill.ensures) in
    record { answer = r.0; shell = r.1.0; input = r.1.1 }

pub returns-else-shell-length : goal.returns-else-shell-length
returns-else-shell-length c =
    let m = c.count-m in
    let a = c.args in
    let r = cut-written a.c.now a.shell.now a.input.now c.in-Cut.length m.result c.in-Cut.rest
    (rw c.in-Cut.is at c.shell_end.ensures) m.ensures _ _ c.if-shell-length.false
    (rw c.pieces_of-in-Cut.ensures at c.fill-in-Cut.ensures) c.fill-in-Cut-2.ensures in
    record { answer = r.0; shell = r.1.0; input = r.1.1 }
