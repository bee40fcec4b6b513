use mathlib.Core.Path.{sym, ◌∙◌}
use native.Mathlib.Omega.{arith}
use Rattle.field.specs.Numbers.{is_digit}
use Rattle.field.proofs.Numbers.{reading-starts, reading-digit, reading-other, reading-ends, no-number-empty, no-number-long}
use Rattle.field.proofs.number.read.Goals as goal

pub returns-then-is_empty : goal.returns-then-is_empty
returns-then-is_empty c = sym (no-number-empty _ (grind arith))

pub returns-then-s-gt-MAX_DIGITS : goal.returns-then-s-gt-MAX_DIGITS
returns-then-s-gt-MAX_DIGITS c = sym (no-number-long _ c.if-s-gt-MAX_DIGITS.true)

pub loop-b-init : goal.loop-b-init
loop-b-init c = reading-starts _ (grind arith) c.if-s-gt-MAX_DIGITS.false

pub returns-then-not-is_ascii_digit : goal.returns-then-not-is_ascii_digit
unfolding is_digit
returns-then-not-is_ascii_digit c =
    sym (reading-other _ _ _ c.loop-b.invariant c.loop-b-test.true (sym c.is_ascii_digit.ensures.value ∙ c.if-not-is_ascii_digit.true))

pub loop-b-preserved : goal.loop-b-preserved
unfolding is_digit
loop-b-preserved c =
    reading-digit _ _ _ c.loop-b.invariant c.loop-b-test.true (sym c.is_ascii_digit.ensures.value ∙ c.if-not-is_ascii_digit.false)

pub returns : goal.returns
returns c = sym (reading-ends _ _ _ c.loop-b.invariant (omega arith))
