-- What is answered for any minute, and for any numbers as a date: refusal 14, wherever the calendar has none.
-- Assumes nothing.
use mathlib.Core.Path.{◌≡◌, refl}
use mathlib.Core.Bool.{Bool, true, false, cond, ◌&&◌, false≢true}
use Prim.Native.Nat.{ℕ, ◌≤◌, ◌<◌}
use native.Mathlib.Omega.{arith}
use lib.Dec.{leb}
use borrow.Author.Tests.{le-leb, lt-leb}
use Rattle.std.specs.Prelude.{Result, Ok, Err, IsOk}
use Rattle.refusal.specs.declared.Refusal.{Refusal}
use Rattle.refusal.specs.declared.Refusal.TheVariants.{NotOnCalendar}
use Rattle.calendar.specs.Dates.{first_year, last_year, last_minute, date_at, date_of, exists, minute_at, minute_of}

pub date-on : (m : ℕ) → m ≤ 4223371679 → date_of m ≡ Ok (date_at m)
unfolding date_of
date-on m h = rw (le-leb m last_minute h)

pub date-off : (m : ℕ) → 4223371679 < m → date_of m ≡ Err NotOnCalendar
unfolding date_of
date-off m h = rw (lt-leb m last_minute h)

-- numbers that are a date of the calendar have a minute, and all others none
pub minute-on : (year month day hour minute : ℕ) → IsOk (minute_of year month day hour minute)
    → minute_of year month day hour minute ≡ Ok (minute_at year month day hour minute)
unfolding minute_of
minute-on year month day hour minute = go (exists year month day hour minute && leb first_year year && leb year last_year)
  where
    go : (b : Bool)
        → let a : Result ℕ Refusal = cond b (Ok (minute_at year month day hour minute)) (Err NotOnCalendar) in
        IsOk a → a ≡ Ok (minute_at year month day hour minute)
    go true e = refl
    go false e = absurd (false≢true e)

pub minute-off : (year month day hour minute : ℕ) → (IsOk (minute_of year month day hour minute) → ⊥)
    → minute_of year month day hour minute ≡ Err NotOnCalendar
unfolding minute_of
minute-off year month day hour minute = go (exists year month day hour minute && leb first_year year && leb year last_year)
  where
    go : (b : Bool)
        → let a : Result ℕ Refusal = cond b (Ok (minute_at year month day hour minute)) (Err NotOnCalendar) in
        (IsOk a → ⊥) → a ≡ Err NotOnCalendar
    go true e = absurd (e refl)
    go false e = refl

-- used: the first number after the calendar, and the last of 64 bits
pub off-ends :
    (date_of 4223371680 ≡ Err NotOnCalendar)
    × (date_of 18446744073709551615 ≡ Err NotOnCalendar)
    × ((month day hour minute : ℕ) → (IsOk (minute_of 18446744073709551615 month day hour minute) → ⊥) → minute_of 18446744073709551615 month day hour minute ≡ Err NotOnCalendar)
off-ends = (
  date-off 4223371680 (omega arith),
  date-off 18446744073709551615 (omega arith),
  (λ month day hour minute e. minute-off 18446744073709551615 month day hour minute e),
)
