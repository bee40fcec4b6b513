-- `field::values::judge` meets its contract: each return is a case of the definition.
-- Assumes nothing.
use borrow.Author.Tests.{ne_eqb}
use mathlib.Core.Path.{sym, ◌∙◌}
use mathlib.Mathlib.Data.Bool.Basic.{or-eq-false-eq-eq-false-and-eq-false}
use Rattle.field.specs.Values.{range_of}
use Rattle.field.specs.Judgement.{judged}
use Rattle.std.proofs.lemmas.Result.{err_from_is_err_and}
use Rattle.field.proofs.Accepted.{inside}
use Rattle.field.proofs.values.judge.Goals as goal

pub returns-in_err-set : goal.returns-in_err-set
unfolding judged
returns-in_err-set c = let p = err_from_is_err_and c.from_residual.result c.from_residual.ensures.1 in rw (p.1, p.2, c.in_err-set.was)

pub returns-then-is_outside : goal.returns-then-is_outside
unfolding judged
returns-then-is_outside c =
    rw (c.in_ok-set.was, ← c.is_outside.ensures, ← c.is_outside-2.ensures)
    (rw c.if-is_outside.true)

pub returns-then-high-low : goal.returns-then-high-low
unfolding judged
returns-then-high-low c =
    rw (c.in_ok-set.was, ← c.is_outside.ensures, ← c.is_outside-2.ensures)
    (rw (c.if-is_outside.false, c.if-high-low.true))

pub returns-then-step-eq0 : goal.returns-then-step-eq0
unfolding judged
returns-then-step-eq0 c =
    rw (c.in_ok-set.was, ← c.is_outside.ensures, ← c.is_outside-2.ensures)
    (rw (c.if-is_outside.false, c.if-high-low.false, c.if-step-eq0.true))

pub last_of-last-requires : goal.last_of-last-requires
last_of-last-requires c =
    let t = (or-eq-false-eq-eq-false-and-eq-false c.is_outside.result c.is_outside-2.result).0 c.if-is_outside.false in
    inside _ _ (sym c.is_outside-2.ensures ∙ t.1)

pub returns : goal.returns
unfolding judged range_of
returns c =
    rw (c.in_ok-set.was, ← c.is_outside.ensures, ← c.is_outside-2.ensures)
    (rw (c.if-is_outside.false, c.if-high-low.false, ne_eqb _ _ c.if-step-eq0.false, c.with_values-set.ensures, c.last_of-last.ensures))
