-- The calendar's dates as plain numbers.
-- Assumes nothing.
use Rattle.std.specs.Prelude.{ℕ, ◌+◌, ◌*◌, ◌<◌, Result, Ok, Err}
use Rattle.refusal.specs.declared.Refusal.{Refusal}
use Rattle.refusal.specs.Numbers.{number_of}
use Rattle.calendar.specs.declared.Date.{Date}

-- the bits that each part of a date has in the number
pub record Small (d : Date) : Type 0 where
  pub year : d.year < 16384
  pub month : d.month < 16
  pub day : d.day < 32
  pub hour : d.hour < 32
  pub minute : d.minute < 64
  pub weekday : d.weekday < 8

-- inner: a date's parts side by side
unfoldable pub parts_number : Date → ℕ
parts_number d =
    let months = d.year * 16 + d.month in
    let hours = (months * 32 + d.day) * 32 + d.hour in
    (hours * 64 + d.minute) * 8 + d.weekday

-- inner: a date by its parts, or the refusal's number above the bits that they have
unfoldable pub date_number : Result Date Refusal → ℕ
date_number (Ok d) = parts_number d
date_number (Err refusal) = number_of refusal * 137438953472
