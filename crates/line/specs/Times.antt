-- The five fields of an entry (E2, E3), each judged wholly before the next (R31). Places count from 0 in the line, columns from 1.
-- Assumes nothing.
use Rattle.std.specs.Prelude.{ℕ, ◌+◌, cond, List, length, leb, Ok, Err, Result}
use Rattle.octets.specs.declared.class.Class.TheVariants.{Blank, Solid}
use Rattle.octets.specs.Runs.{skipped, between}
use Rattle.field.specs.declared.Dialect.{Dialect}
use Rattle.field.specs.declared.Limits.{Limits}
use Rattle.field.specs.declared.Allowed.{Allowed}
use Rattle.field.specs.declared.Fault.{Fault}
use Rattle.field.specs.Limits.{minute_limits, hour_limits, day_limits, month_limits, weekday_limits, in_dialect}
use Rattle.field.specs.Fields.{read_field}
use Rattle.schedule.specs.declared.Schedule.{Schedule}
use Rattle.line.specs.declared.time.When.{When}
use Rattle.line.specs.declared.time.When.TheVariants.{Timed}
use Rattle.line.specs.declared.time.Field.{Field}
use Rattle.line.specs.declared.time.Time.{Time}
use Rattle.line.specs.Refusals.{too_few_fields}

-- ---- one field, at a place

-- R5, R6, R7, R8: a field's result, and where the next one starts
unfoldable pub answered : Result Allowed Fault → ℕ → Result Field Fault
answered (Ok v) next = Ok (record { set = v.set; star = v.star; next = next })
answered (Err fault) next = Err fault

-- E3, R4: one field, at a place
unfoldable pub field_at : Limits → List ℕ → ℕ → Result Field Fault
field_at l s at =
    let end = skipped Solid s at in
    cond (leb (length s) at)
    (Err (record { refusal = too_few_fields; column = length s + 1 }))
    (answered (read_field l (at + 1) (between s at end)) (skipped Blank s end))

-- ---- the five, the first refusal from the left standing

-- E2, F9: the five sets and star flags
abbrev pub schedule_of : Field → Field → Field → Field → Field → Schedule
schedule_of minute hour day month weekday =
    record {
      minutes = minute.set;
      hours = hour.set;
      days = day.set;
      months = month.set;
      weekdays = weekday.set;
      stars = record { minutes = minute.star; hours = hour.star; days = day.star; months = month.star; weekdays = weekday.star };
    }

-- E1, E2: when an entry fires, and where its line goes on after that
abbrev pub time_of : When → ℕ → Result Time Fault
time_of when next = Ok (record { when = when; next = next })

-- R31: a field, and what comes after it
unfoldable pub after : Result Field Fault → (Field → Result Time Fault) → Result Time Fault
after (Err fault) later = Err fault
after (Ok values) later = later values

-- E2, R31: the five fields of which the first starts at a place
unfoldable pub fields_at : Dialect → List ℕ → ℕ → Result Time Fault
fields_at d s at =
    after (field_at (in_dialect d minute_limits) s at)
    (λ minute. after (field_at (in_dialect d hour_limits) s minute.next)
    (λ hour. after (field_at (in_dialect d day_limits) s hour.next)
    (λ day. after (field_at (in_dialect d month_limits) s day.next)
    (λ month. after (field_at (in_dialect d weekday_limits) s month.next)
    (λ weekday. time_of (Timed (schedule_of minute hour day month weekday)) weekday.next)))))
