use Rattle.std.proofs.Common.{sym, ap, ◌∙◌, length, arith}
use Rattle.command.specs.Parts.{up_to_percent, rest_of, shell_line, input_of}
use Rattle.command.proofs.Sizes.{split-length}
use Rattle.command.proofs.shell_end.Goals as goal

pub loop-piece-init : goal.loop-piece-init
unfolding shell_line input_of
loop-piece-init c =
    let all = c.pieces_of-pieces.ensures in
    record { can = tt; finite = tt; counted = omega (arith, ap length (ap up_to_percent all)); input = ap rest_of all }

pub returns-in-Percent : goal.returns-in-Percent
unfolding up_to_percent rest_of
returns-in-Percent c =
    let at = c.loop-piece.invariant in
    let e = rw c.in-Percent.is at c.in-Some.ensures.steps in
    (omega (arith, at.counted, ap length (ap up_to_percent e)), sym at.input ∙ ap rest_of e)

pub overflow_add-length : goal.overflow_add-length
overflow_add-length c = omega (arith, c.loop-piece.invariant.counted, split-length c.args.c.now)

pub loop-piece-preserved : goal.loop-piece-preserved
unfolding up_to_percent rest_of
loop-piece-preserved c =
    let at = c.loop-piece.invariant in
    let e = rw c.in_default-piece.is at c.in-Some.ensures.steps in
    record { can = tt; finite = tt; counted = omega (arith, at.counted, ap length (ap up_to_percent e)); input = sym (ap rest_of e) ∙ at.input }

pub returns : goal.returns
unfolding up_to_percent rest_of
returns c =
    let at = c.loop-piece.invariant in
    let e = c.in_default.ensures.steps.0 in
    (omega (arith, at.counted, ap length (ap up_to_percent e)), sym at.input ∙ ap rest_of e)
