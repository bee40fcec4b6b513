use mathlib.Core.Path.{◌≡◌, sym, ap, ◌∙◌}
use native.Mathlib.Omega.{arith}
use Rattle.field.specs.Elements.{is_element}
use Rattle.std.specs.Prelude.{Some, None}
use Rattle.std.proofs.lemmas.Result.{err_from_is_err_and}
use Rattle.field.specs.Refusals.{malformed}
use Rattle.field.proofs.Lists.{reading-starts, reading-other, reading-last, reading-next}
use Rattle.field.proofs.list.read.Goals as goal

pub loop-element-init : goal.loop-element-init
loop-element-init c = (reading-starts _ _ _, omega arith)

pub returns-in_err-element : goal.returns-in_err-element
unfolding is_element
returns-in_err-element c =
    let p = err_from_is_err_and c.from_residual.result c.from_residual.ensures.1 in
    let none : c.read.result ≡ None = grind arith in
    let fault : c.in_err-element.field-0.0 ≡ record { refusal = malformed; column = c.args.column } = grind arith in
    rw (p.1, p.2, fault)
    (sym (reading-other _ _ _ _ _ _ c.skip-end.ensures.0 (ap is_element (sym c.read.ensures ∙ none))) ∙ c.loop-element.invariant.0)

pub returns-then-end-s : goal.returns-then-end-s
unfolding is_element
returns-then-end-s c =
    let some : c.read.result ≡ Some c.in_ok-element.element = grind arith in
    c.judge-answer.ensures
    ∙ rw (← some, c.read.ensures)
    (sym (reading-last _ _ _ _ _ _ c.skip-end.ensures.0 (ap is_element (sym c.read.ensures ∙ some)) c.if-end-s.true)
    ∙ c.loop-element.invariant.0)

pub loop-element-preserved : goal.loop-element-preserved
unfolding is_element
loop-element-preserved c =
    let some : c.read.result ≡ Some c.in_ok-element.element = grind arith in (
      rw (c.judge-answer.ensures, ← some, c.read.ensures)
          (sym (reading-next _ _ _ _ _ _ c.skip-end.ensures.0 (ap is_element (sym c.read.ensures ∙ some)) (omega arith))
          ∙ c.loop-element.invariant.0),
      omega arith,
    )
