use mathlib.Core.Path.{◌≡◌, sym, ◌∙◌}
use native.Mathlib.Omega.{arith}
use Rattle.schedule.proofs.Search.{from-stop, from_next, from_past}
use Rattle.schedule.proofs.never.month_with_date.Goals as goal

pub returns-then-has_date : goal.returns-then-has_date
returns-then-has_date c =
    from-stop _ _ _ (omega arith) (sym c.has_date.ensures ∙ c.if-has_date.true)
    ∙ c.loop-month.invariant

pub loop-month-preserved : goal.loop-month-preserved
loop-month-preserved c =
    from_next _ _ _ (omega arith) (sym c.has_date.ensures ∙ c.if-has_date.false)
    ∙ c.loop-month.invariant

pub returns : goal.returns
returns c = let e : c.loop-month.month ≡ 13 = omega arith in rw e at (from_past _ _ _ (omega arith) ∙ c.loop-month.invariant)
