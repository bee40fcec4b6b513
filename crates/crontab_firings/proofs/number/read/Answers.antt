use Rattle.std.proofs.Common.{sym, ◌∙◌, arith, rules}
use Rattle.crontab_firings.proofs.Numbers.{some-digits, no-digits, digits-end, not-digit, too-great, next-digit}
use Rattle.crontab_firings.proofs.number.read.Goals as goal

pub returns-then-is_empty : goal.returns-then-is_empty
returns-then-is_empty c = no-digits _ (search rules)

pub loop-b-init : goal.loop-b-init
loop-b-init c = some-digits _ (search rules)

pub returns-then-not-is_ascii_digit : goal.returns-then-not-is_ascii_digit
returns-then-not-is_ascii_digit c =
    sym (not-digit _ _ _ c.loop-b-test.true c.if-not-is_ascii_digit.ensures.cases) ∙ c.loop-b.invariant

pub returns-in_err-checked_mul : goal.returns-in_err-checked_mul
returns-in_err-checked_mul c =
    let digit = c.if-not-is_ascii_digit.ensures.cases in
    let great = too-great _ c.loop-b.value _ c.loop-b-test.true digit.0 digit.1 (omega (arith, c.in_err-checked_mul.ensures)) in
    c.from_residual.ensures ∙ sym great ∙ c.loop-b.invariant

pub returns-in_err-value : goal.returns-in_err-value
returns-in_err-value c =
    let digit = c.if-not-is_ascii_digit.ensures.cases in
    let great = too-great _ c.loop-b.value _ c.loop-b-test.true digit.0 digit.1 (omega (arith, c.in_ok-checked_mul.ensures, c.in_err-value.ensures)) in
    c.from_residual-in_err-value.ensures ∙ sym great ∙ c.loop-b.invariant

pub loop-b-preserved : goal.loop-b-preserved
loop-b-preserved c =
    let digit = c.if-not-is_ascii_digit.ensures.cases in
    let times = c.in_ok-checked_mul.ensures in
    let plus = c.in_ok-value.ensures in
    rw (plus.1, times.1) (sym (next-digit _ c.loop-b.value _ c.loop-b-test.true digit.0 digit.1 (omega (arith, times, plus))) ∙ c.loop-b.invariant)

pub returns : goal.returns
returns c = sym (digits-end _ _ _ c.loop-b-test.false) ∙ c.loop-b.invariant
