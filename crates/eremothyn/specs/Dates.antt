-- The calendar's answers as a C caller gets them (A9).
-- Assumes nothing.
use Rattle.std.specs.Prelude.{ℕ, ◌<◌, cond, List, [], ◌∷◌, leb, length, Result, Ok, Err}
use Rattle.refusal.specs.declared.Refusal.{Refusal}
use Rattle.octets.specs.OverFront.{over_front}
use Rattle.calendar.specs.declared.Date.{Date}
use Rattle.calendar.specs.Dates.{date_of, minute_of}
use Rattle.command.specs.Refusals.{too_short}
use Rattle.eremothyn.specs.declared.dates.DatePart.{DatePart}
use Rattle.eremothyn.specs.declared.dates.DatePart.TheVariants.{Year, Month, Day, Hour, Minute, Weekday}
use Rattle.eremothyn.specs.Answer.{result_number}

-- G6: a part of a date
abbrev pub part_in : Date → DatePart → ℕ
part_in d Year = d.year
part_in d Month = d.month
part_in d Day = d.day
part_in d Hour = d.hour
part_in d Minute = d.minute
part_in d Weekday = d.weekday

-- A9, R14: a part of the date of a minute
unfoldable pub date_part : ℕ → DatePart → ℕ
date_part minute part = result_number (λ d. part_in d part) (date_of minute)

-- G8, R14: the minute of a date
unfoldable pub date_minute : ℕ → ℕ → ℕ → ℕ → ℕ → ℕ
date_minute year month day hour minute =
    let found = minute_of year month day hour minute in
    result_number (λ m. m) found

-- ---- a whole date, over the front of a buffer of numbers

-- G6, A9: its six numbers
abbrev pub parts_of : Date → List ℕ
parts_of d = d.year ∷ d.month ∷ d.day ∷ d.hour ∷ d.minute ∷ d.weekday ∷ []

-- R39: a date that there is room for; fewer than six places are R18
unfoldable pub fitted : Result Date Refusal → List ℕ → Result Date Refusal
fitted (Ok d) run = cond (leb 6 (length run)) (Ok d) (Err too_short)
fitted (Err refusal) run = Err refusal

-- R39: the date that is written, or the refusal
unfoldable pub date_written : ℕ → List ℕ → Result Date Refusal
date_written minute run = fitted (date_of minute) run

-- A9: how many numbers were written
unfoldable pub date_answer : ℕ → List ℕ → ℕ
date_answer minute run = result_number (λ d. 6) (date_written minute run)

-- A9, R40: the buffer after it, by what is written
unfoldable pub written_run : Result Date Refusal → List ℕ → List ℕ
written_run (Ok d) run = over_front (parts_of d) run
written_run (Err refusal) run = run

-- A9, R40: the buffer after it
unfoldable pub date_run : ℕ → List ℕ → List ℕ
date_run minute run = written_run (date_written minute run) run

-- What inner functions promise each other: each part fits in 16 bits.
pub record Small (d : Date) : Type 0 where
  pub year : d.year < 65536
  pub month : d.month < 65536
  pub day : d.day < 65536
  pub hour : d.hour < 65536
  pub minute : d.minute < 65536
  pub weekday : d.weekday < 65536
