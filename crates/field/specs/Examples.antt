-- Fields, and what they are read to, computed from the definitions.
-- Assumes nothing.
use Rattle.std.specs.Prelude.{ℕ, refl, Bool, true, false, List, [], ◌∷◌, ◌++◌, Result}
use Rattle.refusal.specs.declared.Refusal.TheVariants.{Malformed, OutOfLimits, Reversed, StepZero}
use Rattle.octets.specs.Texts.{text}
use Rattle.octets.specs.Rows.{Hold}
use Rattle.octets.specs.Sets.{set_of, up_to}
use Rattle.field.specs.declared.Limits.{Limits}
use Rattle.field.specs.declared.Allowed.{Allowed}
use Rattle.field.specs.declared.Fault.{Fault}
use Rattle.field.specs.declared.Dialect.TheVariants.{Rising, Wrapping}
use Rattle.field.specs.declared.Names.TheVariants.{None, Months, Weekdays}
use Rattle.field.specs.Limits.{minute_limits, hour_limits, day_limits, month_limits, weekday_limits, in_dialect}
use Rattle.field.specs.Fields.{read_field}
use Rattle.field.specs.Written.{field_text, is_field}
use Rattle.field.specs.Computing.{reading, writing}
use Rattle.field.specs.Judgement.{refuses, means}

-- a field's bytes under its limits, at a line's first column
abbrev read : Limits × List ℕ → Result Allowed Fault
read (limits, s) = read_field limits 1 s

-- the values, with no star in front, and with one
abbrev of : List ℕ → Result Allowed Fault
of values = means (set_of values) false

abbrev starred : List ℕ → Result Allowed Fault
starred values = means (set_of values) true

examples : Hold read
    -- it begins with a star
    (((month_limits, text "*/2"), starred (1 ∷ 3 ∷ 5 ∷ 7 ∷ 9 ∷ 11 ∷ []))
    -- Friday, Saturday, Sunday
    ∷ ((weekday_limits, text "5-7"), of (5 ∷ 6 ∷ 0 ∷ []))
    -- 0 and 7, both Sunday
    ∷ ((weekday_limits, text "*/7"), starred (0 ∷ []))
    ∷ ((minute_limits, text "10-10"), of (10 ∷ []))
    ∷ ((minute_limits, text "10-9"), refuses Reversed 1)
    ∷ ((minute_limits, text "5/2"), refuses Malformed 1)
    ∷ ((minute_limits, text "*,5"), refuses Malformed 1)
    ∷ ((minute_limits, text "60"), refuses OutOfLimits 1)
    ∷ ((minute_limits, text "*/0"), refuses StepZero 1)
    -- four digits are a number, five are none
    ∷ ((hour_limits, text "0000"), of (0 ∷ []))
    ∷ ((hour_limits, text "00000"), refuses Malformed 1)
    -- nor is a step of five, after a star or a range
    ∷ ((hour_limits, text "*/00002"), refuses Malformed 1)
    ∷ ((hour_limits, text "0-23/00002"), refuses Malformed 1)
    -- the second element is refused at its own first byte, and only where the whole field is of the form
    ∷ ((minute_limits, text "1,70"), refuses OutOfLimits 3)
    ∷ ((minute_limits, text "1,70,"), refuses Malformed 1)
    -- first to last; each weekday once
    ∷ ((minute_limits, text "*"), starred (up_to 0 59))
    ∷ ((hour_limits, text "*"), starred (up_to 0 23))
    ∷ ((day_limits, text "*"), starred (up_to 1 31))
    ∷ ((month_limits, text "*"), starred (up_to 1 12))
    ∷ ((weekday_limits, text "*"), starred (up_to 0 6))
    -- outside the limits
    ∷ ((hour_limits, text "24"), refuses OutOfLimits 1)
    ∷ ((day_limits, text "0"), refuses OutOfLimits 1)
    ∷ ((day_limits, text "32"), refuses OutOfLimits 1)
    ∷ ((month_limits, text "13"), refuses OutOfLimits 1)
    ∷ ((weekday_limits, text "8"), refuses OutOfLimits 1)
    -- one whose low 8 bits are within
    ∷ ((minute_limits, text "256"), refuses OutOfLimits 1)
    ∷ ((minute_limits, text "0-257"), refuses OutOfLimits 1)
    ∷ ((minute_limits, text "256-1"), refuses OutOfLimits 1)
    ∷ ((minute_limits, text "10-20/5"), of (10 ∷ 15 ∷ 20 ∷ []))
    -- in an element 6 comes before 7, and 7 before 8; the first bad element decides
    ∷ ((minute_limits, text "61-60/0"), refuses OutOfLimits 1)
    ∷ ((minute_limits, text "10-9/0"), refuses Reversed 1)
    ∷ ((minute_limits, text "70,10-9"), refuses OutOfLimits 1)
    -- the third and the fifth element at their own first bytes too, after elements of every form
    ∷ ((minute_limits, text "1,2,70"), refuses OutOfLimits 5)
    ∷ ((minute_limits, text "1,2-3,10-20/5,7-6,8"), refuses Reversed 15)
    ∷ ((minute_limits, text "0,0,0,0,1-2/0"), refuses StepZero 9)
    ∷ [])
unfolding reading
examples = refl

-- F4, F5: names where a number may be
names : Hold read
    (((weekday_limits, text "mon-fri"), of (up_to 1 5))
    ∷ ((month_limits, text "jan,jul"), of (1 ∷ 7 ∷ []))
    -- in any letter case
    ∷ ((weekday_limits, text "Mon"), of (1 ∷ []))
    ∷ ((weekday_limits, text "Sat"), of (6 ∷ []))
    ∷ ((weekday_limits, text "FRI-Sun"), of (5 ∷ 6 ∷ 0 ∷ []))
    ∷ ((month_limits, text "JAN"), of (1 ∷ []))
    ∷ ((month_limits, text "fEb,DeC"), of (2 ∷ 12 ∷ []))
    ∷ ((weekday_limits, text "TUE,WED,THU"), of (2 ∷ 3 ∷ 4 ∷ []))
    ∷ ((month_limits, text "MAY,NOV"), of (5 ∷ 11 ∷ []))
    ∷ ((month_limits, text "FEB,APR,JUL,AUG"), of (2 ∷ 4 ∷ 7 ∷ 8 ∷ []))
    -- from high to low, also in the second element
    ∷ ((weekday_limits, text "fri-mon"), refuses Reversed 1)
    ∷ ((weekday_limits, text "mon,sat-tue"), refuses Reversed 5)
    -- mixed
    ∷ ((weekday_limits, text "1-fri"), of (up_to 1 5))
    ∷ ((weekday_limits, text "mon,3"), of (1 ∷ 3 ∷ []))
    ∷ ((weekday_limits, text "mon-5/2"), of (1 ∷ 3 ∷ 5 ∷ []))
    -- `sun` goes by how the ends are written: Sunday alone, every day twice, Sunday twice, and from high to low
    ∷ ((weekday_limits, text "sun-sun"), of (0 ∷ []))
    ∷ ((weekday_limits, text "SUN-sun"), of (0 ∷ []))
    ∷ ((weekday_limits, text "Sun-sUN"), of (0 ∷ []))
    ∷ ((weekday_limits, text "suN-mon"), of (0 ∷ 1 ∷ []))
    ∷ ((weekday_limits, text "mon,sat-SUN"), of (1 ∷ 6 ∷ 0 ∷ []))
    ∷ ((weekday_limits, text "tue-sun/5"), of (2 ∷ 0 ∷ []))
    ∷ ((weekday_limits, text "0-sun"), of (up_to 0 6))
    ∷ ((weekday_limits, text "sun-7"), of (up_to 0 6))
    ∷ ((weekday_limits, text "7-sun"), of (0 ∷ []))
    ∷ ((weekday_limits, text "sun-0"), of (0 ∷ []))
    ∷ ((weekday_limits, text "mon-0"), refuses Reversed 1)
    -- no name as a step, and none of the other field
    ∷ ((weekday_limits, text "mon/2"), refuses Malformed 1)
    ∷ ((weekday_limits, text "*/mon"), refuses Malformed 1)
    ∷ ((weekday_limits, text "1-5/mon"), refuses Malformed 1)
    ∷ ((weekday_limits, text "jan"), refuses Malformed 1)
    ∷ ((month_limits, text "1-sun"), refuses Malformed 1)
    -- a name has its three letters, no fewer and no more
    ∷ ((weekday_limits, text "mo"), refuses Malformed 1)
    ∷ ((weekday_limits, text "monday"), refuses Malformed 1)
    ∷ ((month_limits, text "1-"), refuses Malformed 1)
    ∷ [])
unfolding reading
names = refl

-- each name alone is the one value that it names
month-names : Hold read
    (((month_limits, text "jan"), of (1 ∷ []))
    ∷ ((month_limits, text "feb"), of (2 ∷ []))
    ∷ ((month_limits, text "mar"), of (3 ∷ []))
    ∷ ((month_limits, text "apr"), of (4 ∷ []))
    ∷ ((month_limits, text "may"), of (5 ∷ []))
    ∷ ((month_limits, text "jun"), of (6 ∷ []))
    ∷ ((month_limits, text "jul"), of (7 ∷ []))
    ∷ ((month_limits, text "aug"), of (8 ∷ []))
    ∷ ((month_limits, text "sep"), of (9 ∷ []))
    ∷ ((month_limits, text "oct"), of (10 ∷ []))
    ∷ ((month_limits, text "nov"), of (11 ∷ []))
    ∷ ((month_limits, text "dec"), of (12 ∷ []))
    ∷ [])
unfolding reading
month-names = refl

weekday-names : Hold read
    (((weekday_limits, text "sun"), of (0 ∷ []))
    ∷ ((weekday_limits, text "mon"), of (1 ∷ []))
    ∷ ((weekday_limits, text "tue"), of (2 ∷ []))
    ∷ ((weekday_limits, text "wed"), of (3 ∷ []))
    ∷ ((weekday_limits, text "thu"), of (4 ∷ []))
    ∷ ((weekday_limits, text "fri"), of (5 ∷ []))
    ∷ ((weekday_limits, text "sat"), of (6 ∷ []))
    ∷ [])
unfolding reading
weekday-names = refl

-- ---- W1 to W6: the wrapping dialect

-- its limits: the same first, bits and names
dialects : Hold (in_dialect Wrapping)
    ((minute_limits, record { first = 0; last = 59; bits = 60; names = None; wraps = true })
    ∷ (hour_limits, record { first = 0; last = 23; bits = 24; names = None; wraps = true })
    ∷ (day_limits, record { first = 1; last = 31; bits = 32; names = None; wraps = true })
    ∷ (month_limits, record { first = 1; last = 12; bits = 13; names = Months; wraps = true })
    ∷ (weekday_limits, record { first = 0; last = 6; bits = 7; names = Weekdays; wraps = true })
    ∷ [])
unfolding in_dialect
dialects = refl

-- a field's bytes in both dialects, the first in front
abbrev both : Limits × List ℕ → Result Allowed Fault × Result Allowed Fault
both (limits, s) = (read_field (in_dialect Rising limits) 1 s, read_field (in_dialect Wrapping limits) 1 s)

-- the step counts on across the join
wrapped-steps : Hold both
    (((weekday_limits, text "sat-tue/2"), (refuses Reversed 1, of (6 ∷ 1 ∷ [])))
    ∷ ((hour_limits, text "22-3/2"), (refuses Reversed 1, of (22 ∷ 0 ∷ 2 ∷ [])))
    ∷ ((hour_limits, text "21-3/2"), (refuses Reversed 1, of (21 ∷ 23 ∷ 1 ∷ 3 ∷ [])))
    ∷ ((hour_limits, text "22-3/5"), (refuses Reversed 1, of (22 ∷ 3 ∷ [])))
    ∷ ((hour_limits, text "22-3/6"), (refuses Reversed 1, of (22 ∷ [])))
    ∷ ((day_limits, text "30-2/2"), (refuses Reversed 1, of (30 ∷ 1 ∷ [])))
    ∷ ((month_limits, text "11-3/3"), (refuses Reversed 1, of (11 ∷ 2 ∷ [])))
    ∷ ((weekday_limits, text "sat-sun/2"), (of (6 ∷ []), of (6 ∷ [])))
    ∷ ((weekday_limits, text "mon-sun/2"), (of (1 ∷ 3 ∷ 5 ∷ 0 ∷ []), of (1 ∷ 3 ∷ 5 ∷ 0 ∷ [])))
    ∷ [])
unfolding reading
wrapped-steps = refl

wrapped : Hold both
    -- over midnight
    (((hour_limits, text "22-3"), (refuses Reversed 1, of (22 ∷ 23 ∷ 0 ∷ 1 ∷ 2 ∷ 3 ∷ [])))
    -- source 001
    ∷ ((hour_limits, text "8-18/3,19-7"), (refuses Reversed 8, of (8 ∷ 11 ∷ 14 ∷ 17 ∷ 19 ∷ 20 ∷ 21 ∷ 22 ∷ 23 ∷ 0 ∷ 1 ∷ 2 ∷ 3 ∷ 4 ∷ 5 ∷ 6 ∷ 7 ∷ [])))
    -- fields without 0
    ∷ ((day_limits, text "31-1"), (refuses Reversed 1, of (31 ∷ 1 ∷ [])))
    ∷ ((day_limits, text "31-0"), (refuses OutOfLimits 1, refuses OutOfLimits 1))
    ∷ ((month_limits, text "12-2"), (refuses Reversed 1, of (12 ∷ 1 ∷ 2 ∷ [])))
    ∷ ((month_limits, text "nov-feb"), (refuses Reversed 1, of (11 ∷ 12 ∷ 1 ∷ 2 ∷ [])))
    -- Sunday is 0 alone, by number and by name
    ∷ ((weekday_limits, text "fri-sun"), (of (5 ∷ 6 ∷ 0 ∷ []), of (5 ∷ 6 ∷ 0 ∷ [])))
    ∷ ((weekday_limits, text "fri-mon"), (refuses Reversed 1, of (5 ∷ 6 ∷ 0 ∷ 1 ∷ [])))
    ∷ ((weekday_limits, text "0-sun"), (of (up_to 0 6), of (0 ∷ [])))
    ∷ ((weekday_limits, text "sun-sun"), (of (0 ∷ []), of (0 ∷ [])))
    ∷ ((weekday_limits, text "sun-sat"), (of (up_to 0 6), of (up_to 0 6)))
    ∷ ((weekday_limits, text "mon-0"), (refuses Reversed 1, of (1 ∷ 2 ∷ 3 ∷ 4 ∷ 5 ∷ 6 ∷ 0 ∷ [])))
    ∷ ((weekday_limits, text "7"), (of (0 ∷ []), refuses OutOfLimits 1))
    ∷ ((weekday_limits, text "0-7"), (of (up_to 0 6), refuses OutOfLimits 1))
    ∷ ((weekday_limits, text "7-1"), (refuses Reversed 1, refuses OutOfLimits 1))
    ∷ ((weekday_limits, text "7-sun"), (of (0 ∷ []), refuses OutOfLimits 1))
    -- stars: the same sets
    ∷ ((weekday_limits, text "*"), (starred (up_to 0 6), starred (up_to 0 6)))
    ∷ ((weekday_limits, text "*/7"), (starred (0 ∷ []), starred (0 ∷ [])))
    ∷ ((weekday_limits, text "*/6"), (starred (0 ∷ 6 ∷ []), starred (0 ∷ 6 ∷ [])))
    ∷ ((weekday_limits, text "*/2"), (starred (0 ∷ 2 ∷ 4 ∷ 6 ∷ []), starred (0 ∷ 2 ∷ 4 ∷ 6 ∷ [])))
    ∷ ((day_limits, text "*/10"), (starred (1 ∷ 11 ∷ 21 ∷ 31 ∷ []), starred (1 ∷ 11 ∷ 21 ∷ 31 ∷ [])))
    -- the other refusals, in their order: 6 before 8
    ∷ ((hour_limits, text "24-3/0"), (refuses OutOfLimits 1, refuses OutOfLimits 1))
    ∷ ((hour_limits, text "22-3/0"), (refuses Reversed 1, refuses StepZero 1))
    ∷ ((hour_limits, text "1,22-3,9/2"), (refuses Malformed 1, refuses Malformed 1))
    -- a star may only be in front
    ∷ ((hour_limits, text "5,*"), (refuses Malformed 1, refuses Malformed 1))
    ∷ ((hour_limits, text "5,*/2"), (refuses Malformed 1, refuses Malformed 1))
    ∷ [])
unfolding reading
wrapped = refl

-- the whole field, but not where it rises
wrapped-whole : Hold both
    (((minute_limits, text "5-4"), (refuses Reversed 1, of (up_to 5 59 ++ up_to 0 4)))
    ∷ ((minute_limits, text "5-5"), (of (5 ∷ []), of (5 ∷ [])))
    ∷ ((minute_limits, text "0-59"), (of (up_to 0 59), of (up_to 0 59)))
    ∷ ((minute_limits, text "59-0"), (refuses Reversed 1, of (59 ∷ 0 ∷ [])))
    ∷ ((day_limits, text "2-1"), (refuses Reversed 1, of (up_to 2 31 ++ 1 ∷ [])))
    ∷ [])
unfolding reading
wrapped-whole = refl

-- `sun` in the second dialect, in any letter case and in each place
wrapped-sundays : Hold both
    (((weekday_limits, text "SUN-sun"), (of (0 ∷ []), of (0 ∷ [])))
    ∷ ((weekday_limits, text "Mon-SUN"), (of (1 ∷ 2 ∷ 3 ∷ 4 ∷ 5 ∷ 6 ∷ 0 ∷ []), of (1 ∷ 2 ∷ 3 ∷ 4 ∷ 5 ∷ 6 ∷ 0 ∷ [])))
    ∷ ((weekday_limits, text "mon,SUN"), (of (1 ∷ 0 ∷ []), of (1 ∷ 0 ∷ [])))
    ∷ ((weekday_limits, text "sun-mon,sat-sun"), (of (0 ∷ 1 ∷ 6 ∷ []), of (0 ∷ 1 ∷ 6 ∷ [])))
    ∷ ((weekday_limits, text "tue-sun/5"), (of (2 ∷ 0 ∷ []), of (2 ∷ 0 ∷ [])))
    ∷ [])
unfolding reading
wrapped-sundays = refl

-- ---- P4, P5: back to a text

-- a set's values and the flag, under limits
abbrev write : Limits × (List ℕ × Bool) → List ℕ
write (limits, (values, star)) = field_text limits (set_of values) star

written : Hold write
    -- every value, flagged
    (((minute_limits, (up_to 0 59, true)), text "*")
    ∷ ((day_limits, (up_to 1 31, true)), text "*")
    ∷ ((weekday_limits, (up_to 0 6, true)), text "*")
    -- the smallest step that gives the set
    ∷ ((month_limits, (1 ∷ 3 ∷ 5 ∷ 7 ∷ 9 ∷ 11 ∷ [], true)), text "*/2")
    ∷ ((minute_limits, (0 ∷ 30 ∷ [], true)), text "*/30")
    ∷ ((minute_limits, (0 ∷ 59 ∷ [], true)), text "*/59")
    -- `*/9999` is the first value alone
    ∷ ((minute_limits, (0 ∷ [], true)), text "*/60")
    ∷ ((hour_limits, (0 ∷ [], true)), text "*/24")
    ∷ ((day_limits, (1 ∷ [], true)), text "*/31")
    ∷ ((month_limits, (1 ∷ [], true)), text "*/12")
    ∷ ((month_limits, (1 ∷ 12 ∷ [], true)), text "*/11")
    -- 0 and 7, both Sunday
    ∷ ((weekday_limits, (0 ∷ [], true)), text "*/7")
    ∷ ((weekday_limits, (0 ∷ 6 ∷ [], true)), text "*/6")
    -- numbers, rising, also where every value is there
    ∷ ((minute_limits, (5 ∷ [], false)), text "5")
    ∷ ((minute_limits, (59 ∷ 0 ∷ 10 ∷ 9 ∷ [], false)), text "0,9,10,59")
    ∷ ((month_limits, (up_to 1 12, false)), text "1,2,3,4,5,6,7,8,9,10,11,12")
    ∷ ((day_limits, (31 ∷ 1 ∷ [], false)), text "1,31")
    -- Friday, Saturday, Sunday
    ∷ ((weekday_limits, (5 ∷ 6 ∷ 0 ∷ [], false)), text "0,5,6")
    ∷ [])
unfolding writing
written = refl

-- whether a field may mean a set and a flag
abbrev mean : Limits × (List ℕ × Bool) → Bool
mean (limits, (values, star)) = is_field limits (set_of values) star

meant : Hold mean
    (((minute_limits, (up_to 0 59, true)), true)
    ∷ ((month_limits, (1 ∷ 7 ∷ [], true)), true)
    -- no step leads from 0 to 1 and ends there, or leaves the first value out
    ∷ ((minute_limits, (0 ∷ 1 ∷ [], true)), false)
    ∷ ((minute_limits, (30 ∷ [], true)), false)
    ∷ ((minute_limits, ([], true)), false)
    ∷ ((minute_limits, (0 ∷ 1 ∷ [], false)), true)
    ∷ ((minute_limits, (60 ∷ [], false)), false)
    ∷ ((day_limits, (0 ∷ 1 ∷ [], false)), false)
    ∷ ((weekday_limits, (0 ∷ 7 ∷ [], false)), false)
    ∷ ((weekday_limits, ([], false)), false)
    ∷ [])
unfolding writing
meant = refl
