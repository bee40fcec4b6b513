-- `field::read` meets its contract, by the first byte; a field that is a number needs no list.
-- Assumes nothing.
use mathlib.Core.Path.{◌≡◌, sym, ap, ◌∙◌}
use native.Mathlib.Omega.{arith}
use mathlib.Core.Bool.{true}
use Rattle.field.specs.Judgement.{means, judged}
use Rattle.std.specs.Prelude.{Some, None}
use Rattle.std.proofs.lemmas.Result.{err_from_is_err_and}
use Rattle.field.specs.Refusals.{malformed}
use Rattle.field.proofs.Fields.{read-empty, read-star, read-list}
use Rattle.field.proofs.Alone.{number-alone}
use Rattle.field.proofs.read.Goals as goal

pub returns-then-s-eq0 : goal.returns-then-s-eq0
returns-then-s-eq0 c = sym (read-empty _ _ _ c.if-s-eq0.true)

pub returns-then-s-eq42 : goal.returns-then-s-eq42
returns-then-s-eq42 c =
    let some : c.after_star.result ≡ Some c.in_ok-element.element = grind arith in
    c.judge.ensures
    ∙ rw (← some, c.after_star.ensures)
    (sym (read-star _ _ c.args.s.now (omega arith) c.if-s-eq42.true))

pub returns-in_err-element : goal.returns-in_err-element
unfolding judged
returns-in_err-element c =
    let p = err_from_is_err_and c.from_residual.result c.from_residual.ensures.1 in
    let none : c.after_star.result ≡ None = grind arith in
    let fault : c.in_err-element.field-0.0 ≡ record { refusal = malformed; column = c.args.column } = grind arith in
    rw (p.1, p.2, fault)
    (sym
    (read-star _ _ c.args.s.now (omega arith) c.if-s-eq42.true
    ∙ ap (judged c.args.limits c.args.column (means 0 true)) (sym c.after_star.ensures ∙ none)))

pub returns-in-Some : goal.returns-in-Some
returns-in-Some c =
    let s = c.args.s.now in
    let n = sym c.read.ensures ∙ c.in-Some.is in
    c.judge_number.ensures ∙ sym (read-list _ _ s (omega arith) c.if-s-eq42.false ∙ number-alone s n _ _)

pub returns : goal.returns
returns c =
    c.read-2.ensures ∙ sym (read-list _ _ c.args.s.now (omega arith) c.if-s-eq42.false)
