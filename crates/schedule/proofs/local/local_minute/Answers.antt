-- `schedule::local::local_minute` meets its contract: the sum is below zero, past the calendar or on it, and so is the local minute.
-- Assumes nothing.
use mathlib.Core.Path.{sym, ap, subst, ◌∙◌}
use Prim.Native.Nat.{◌+◌, ◌≤◌}
use native.Mathlib.Omega.{arith}
use borrow.Author.Tests.{ltb-true, ltb-false}
use lib.Dec.{T}
use lib.IntN.{ℤ, nat_abs}
use lib.Signed.{non_neg}
use mir.Syntax.{w64}
use mir.Val.{Fits}
use Rattle.calendar.specs.Dates.{last_minute}
use Rattle.schedule.specs.declared.local.LocalMinute.TheVariants.{At}
use Rattle.schedule.specs.Local.{biased_offset}
use Rattle.schedule.proofs.Offsets.{widened, sum_fits, sum-negative, sum_past, sum-on}
use Rattle.schedule.proofs.LocalMinutes.{local-before, local_at, local-after}
use Rattle.schedule.proofs.local.local_minute.Goals as goal
use Rattle.schedule.proofs.local.local_minute.Goals.{Else-local}

-- the local minute is on the calendar
on : (c : Else-local)
    → let a = c.args in (720 ≤ a.minute + biased_offset a.offset) × (a.minute + biased_offset a.offset ≤ last_minute + 720)
on c = (
  ltb-false _ _ (sym (sum-negative c.ranges.offset c.requires.0 c.requires.1) ∙ c.if-local-lt0.false),
  ltb-false _ _ (sym (sum_past c.ranges.offset c.requires.0 c.requires.1) ∙ c.if-local.false),
)

pub overflow_cast-local-2 : goal.overflow_cast-local-2
overflow_cast-local-2 c = widened c.ranges.offset

pub overflow_add-local : goal.overflow_add-local
overflow_add-local c = sum_fits c.ranges.offset c.requires.0 c.requires.1

pub returns-then-local-lt0 : goal.returns-then-local-lt0
returns-then-local-lt0 c =
    sym (local-before _ _ (ltb-true _ _ (sym (sum-negative c.ranges.offset c.requires.0 c.requires.1) ∙ c.if-local-lt0.true)))

pub returns-then-local : goal.returns-then-local
returns-then-local c =
    sym (local-after _ _ (ltb-true _ _ (sym (sum_past c.ranges.offset c.requires.0 c.requires.1) ∙ c.if-local.true)))

pub overflow_cast-result : goal.overflow_cast-result
overflow_cast-result c =
    subst (λ (y : ℤ). T (non_neg y) × Fits w64 (nat_abs y)) (sym (sum-on c.ranges.offset c.requires.0 c.requires.1 (on c).0))
    (tt, record { fits = omega (arith, on c) })

pub returns : goal.returns
returns c =
    ap (λ (y : ℤ). At (nat_abs y)) (sum-on c.ranges.offset c.requires.0 c.requires.1 (on c).0)
    ∙ sym (local_at _ _ _ (omega (arith, on c)) (omega (arith, on c)))
