-- `line::time::read` meets its contract: each field goes on from where the one before it ended.
-- Assumes nothing.
use mathlib.Core.Path.{sym, ◌∙◌}
use native.Mathlib.Omega.{arith}
use Rattle.field.specs.Limits.{hour_limits, day_limits, month_limits, weekday_limits}
use Rattle.field.proofs.Theorems.{hour-usual, day-usual, month-usual, weekday-usual}
use Rattle.line.proofs.TimeViews.{field_fits}
use Rattle.line.proofs.time.read.Goals as goal

pub overflow_cast-schedule : goal.overflow_cast-schedule
overflow_cast-schedule c =
    omega (arith, field_fits hour_limits hour-usual _ _ _ (sym c.field_at-2.ensures ∙ c.in_ok-hour.was))

pub overflow_cast-schedule-2 : goal.overflow_cast-schedule-2
overflow_cast-schedule-2 c =
    omega (arith, field_fits day_limits day-usual _ _ _ (sym c.field_at-3.ensures ∙ c.in_ok-day.was))

pub overflow_cast-schedule-3 : goal.overflow_cast-schedule-3
overflow_cast-schedule-3 c =
    omega (arith, field_fits month_limits month-usual _ _ _ (sym c.field_at-4.ensures ∙ c.in_ok-month.was))

pub overflow_cast-schedule-4 : goal.overflow_cast-schedule-4
overflow_cast-schedule-4 c =
    omega (arith, field_fits weekday_limits weekday-usual _ _ _ (sym c.field_at-5.ensures ∙ c.in_ok-weekday.was))
