-- The theorems of the calendar used at its edges: its first and its last minute, the first and the last date. An added hypothesis, or a part less of a
-- conclusion, breaks one of these.
-- Assumes nothing.
use mathlib.Core.Path.{◌≡◌}
use mathlib.Core.Bool.{true}
use mathlib.Core.List.{[], ◌∷◌}
use Prim.Native.Nat.{ℕ, ◌+◌, ◌%◌, ◌≤◌, ◌<◌}
use native.Mathlib.Omega.{arith}
use Rattle.std.specs.Prelude.{Ok, IsOk}
use Rattle.calendar.specs.Dates.{date_at, exists, minute_of}
use Rattle.calendar.specs.Order.{parts, Earlier}
use Rattle.calendar.proofs.Theorems.{minute-date-minute, date-minute-date, has-minute, accepted, later-dates, weekday-next, weekday-week, parts_within, cycle, direct_at, direct-is-walk}

-- from the first and the last minute to their dates and back
pub back-ends :
    (let d = date_at 0 in minute_of d.year d.month d.day d.hour d.minute ≡ Ok 0)
    × (let d = date_at 4223371679 in minute_of d.year d.month d.day d.hour d.minute ≡ Ok 4223371679)
back-ends = (minute-date-minute 0 (omega arith), minute-date-minute 4223371679 (omega arith))

-- from any date of the first and the last year to its minute and back
pub dates-of-ends : (month day hour minute m : ℕ)
    → (minute_of 1970 month day hour minute ≡ Ok m → (m ≤ 4223371679) × (parts (date_at m) ≡ 1970 ∷ month ∷ day ∷ hour ∷ minute ∷ []))
    × (minute_of 9999 month day hour minute ≡ Ok m → (m ≤ 4223371679) × (parts (date_at m) ≡ 9999 ∷ month ∷ day ∷ hour ∷ minute ∷ []))
dates-of-ends month day hour minute m = (date-minute-date 1970 month day hour minute m, date-minute-date 9999 month day hour minute m)

-- which dates of any year have a minute and are accepted, both ways
pub year-ends : (year month day hour minute : ℕ)
    → (exists 9999 month day hour minute ≡ true → IsOk (minute_of 9999 month day hour minute))
    × (IsOk (minute_of year month day hour minute) → (exists year month day hour minute ≡ true) × (1970 ≤ year) × (year ≤ 9999))
    × (exists 1970 month day hour minute ≡ true → (m : ℕ) × (m ≤ 4223371679) × (parts (date_at m) ≡ 1970 ∷ month ∷ day ∷ hour ∷ minute ∷ []))
    × (parts (date_at 4223371679) ≡ year ∷ month ∷ day ∷ hour ∷ minute ∷ [] → (exists year month day hour minute ≡ true) × (1970 ≤ year) × (year ≤ 9999))
year-ends year month day hour minute = (
  (λ e. (accepted 9999 month day hour minute).1 (e, omega arith, omega arith)),
  (accepted year month day hour minute).0,
  (λ e. (has-minute 1970 month day hour minute).1 (e, omega arith, omega arith)),
  (λ e. (has-minute year month day hour minute).0 (4223371679, omega arith, e)),
)

-- the first minute's date is before the last one's, and the next to last
pub later-ends : Earlier (parts (date_at 0)) (parts (date_at 4223371679)) × Earlier (parts (date_at 4223371678)) (parts (date_at 4223371679))
later-ends = (later-dates 0 4223371679 (omega arith) (omega arith), later-dates 4223371678 4223371679 (omega arith) (omega arith))

-- weekdays go on past the calendar; its parts end with it
pub weekday-ends : ((date_at 1440).weekday ≡ ((date_at 0).weekday + 1) % 7) × ((date_at 4223373119).weekday ≡ ((date_at 4223371679).weekday + 1) % 7)
weekday-ends = (weekday-next 0, weekday-next 4223371679)

pub parts-ends : let d = date_at 4223371679 in (d.year ≤ 9999) × (d.month ≤ 12) × (d.day ≤ 31) × (d.hour < 24) × (d.minute < 60) × (d.weekday < 7)
parts-ends = parts_within 4223371679 (omega arith)

-- 400 years from the first minute, and to the last
pub cycle-ends :
    (let d = date_at 0 in
    date_at 210379680 ≡ record { year = d.year + 400; month = d.month; day = d.day; hour = d.hour; minute = d.minute; weekday = d.weekday })
    × (let d = date_at 4012991999 in
    date_at 4223371679 ≡ record { year = d.year + 400; month = d.month; day = d.day; hour = d.hour; minute = d.minute; weekday = d.weekday })
cycle-ends = (cycle 0 (omega arith), cycle 4012991999 (omega arith))

pub direct-ends : (direct_at 0 ≡ date_at 0) × (direct_at 4223371679 ≡ date_at 4223371679)
direct-ends = (direct-is-walk 0 (omega arith), direct-is-walk 4223371679 (omega arith))

-- a week from the first minute, and to the last and past it
pub week-ends :
    ((date_at 10080).weekday ≡ (date_at 0).weekday)
    × ((date_at 4223371679).weekday ≡ (date_at 4223361599).weekday)
    × ((date_at 4223381759).weekday ≡ (date_at 4223371679).weekday)
week-ends = (weekday-week 0, weekday-week 4223361599, weekday-week 4223371679)
