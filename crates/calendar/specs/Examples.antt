-- The calendar's known days, computed from the definitions.
-- Assumes nothing.
use Rattle.std.specs.Prelude.{◌≡◌, refl, List, [], ◌∷◌, ℕ, zero, suc, map, Result, Ok, Err}
use Rattle.std.proofs.Common.{inl, inr, arith}
use Rattle.refusal.specs.declared.Refusal.{Refusal}
use Rattle.refusal.specs.declared.Refusal.TheVariants.{NotOnCalendar}
use Rattle.calendar.specs.Dates.{date_of, minute_of}
use Rattle.calendar.specs.Order.{Earlier}
use Rattle.calendar.specs.Computing.{dating}

-- minute 0 is 1970-01-01 00:00, a Thursday
first-minute :
    date_of 0
    ≡ Ok (record { year = 1970; month = 1; day = 1; hour = 0; minute = 0; weekday = 4 })
unfolding dating
first-minute = refl

-- minute 15,863,040 is 2000-02-29 00:00, a Tuesday
leap-day :
    date_of 15863040
    ≡ Ok (record { year = 2000; month = 2; day = 29; hour = 0; minute = 0; weekday = 2 })
unfolding dating
leap-day = refl

-- the last minute is 4,223,371,679, 9999-12-31 23:59, and the next is refused with 14
last-minute :
    date_of 4223371679
    ≡ Ok (record { year = 9999; month = 12; day = 31; hour = 23; minute = 59; weekday = 5 })
unfolding dating
last-minute = refl

past_the_end : date_of 4223371680 ≡ Err NotOnCalendar
unfolding dating
past_the_end = refl

-- and so is one whose low 32 bits are the minute 0
past-32-bits : date_of 4294967296 ≡ Err NotOnCalendar
unfolding dating
past-32-bits = refl

-- 2100 isn't leap, 2096 is
no-leap-day : minute_of 2100 2 29 0 0 ≡ Err NotOnCalendar
unfolding dating
no-leap-day = refl

day-in-2096 : minute_of 2096 2 29 0 0 ≡ Ok 66355200
unfolding dating
day-in-2096 = refl

-- the calendar begins with 1970 and ends with 9999
year-before : minute_of 1969 12 31 23 59 ≡ Err NotOnCalendar
unfolding dating
year-before = refl

year-after : minute_of 10000 1 1 0 0 ≡ Err NotOnCalendar
unfolding dating
year-after = refl

-- the first minutes of the months of 1970
firsts : List (Result ℕ Refusal) → ℕ → List (Result ℕ Refusal)
firsts l zero = l
firsts l (suc m) = firsts (minute_of 1970 (suc m) 1 0 0 ∷ l) m

months-of-1970 :
    firsts [] 12
    ≡ map Ok (0 ∷ 44640 ∷ 84960 ∷ 129600 ∷ 172800 ∷ 217440 ∷ 260640 ∷ 305280 ∷ 349920 ∷ 393120 ∷ 437760 ∷ 480960 ∷ [])
unfolding firsts dating
months-of-1970 = refl

-- a date isn't earlier than itself
not_itself : Earlier (2000 ∷ 2 ∷ []) (2000 ∷ 2 ∷ []) → ⊥
unfolding Earlier
not_itself (inl h) = omega arith
not_itself (inr (e, inl h)) = omega arith
not_itself (inr (e, inr (d, h))) = h
