-- Every decision that a field's next byte makes, over all 256 bytes, in both dialects; the lists of names and of refusals whole; and texts that
-- are almost of a field's form.
-- In the comments `?` is the byte that is tried.
-- Assumes nothing.
use Rattle.std.specs.Prelude.{ℕ, ◌+◌, ◌-◌, ◌*◌, ◌/◌, ◌%◌, ◌≡◌, refl, Bool, true, false, List, [], ◌∷◌, ◌++◌, map, replicate, Ok, Err, Result}
use Rattle.refusal.specs.declared.Refusal.TheVariants.{Malformed, OutOfLimits, Reversed, StepZero}
use Rattle.refusal.specs.Numbers.{number_of}
use Rattle.octets.specs.Texts.{text}
use Rattle.octets.specs.Rows.{Hold}
use Rattle.octets.specs.AllBytes.{Lead, one, range, each, passing_at, trying}
use Rattle.octets.specs.Sets.{set_of, up_to}
use Rattle.field.specs.declared.Limits.{Limits}
use Rattle.field.specs.declared.Allowed.{Allowed}
use Rattle.field.specs.declared.Fault.{Fault}
use Rattle.field.specs.declared.Dialect.TheVariants.{Rising, Wrapping}
use Rattle.field.specs.Limits.{minute_limits, hour_limits, day_limits, month_limits, weekday_limits, in_dialect}
use Rattle.field.specs.Names.{month_names, weekday_names}
use Rattle.field.specs.Refusals.{malformed, out_of_limits, reversed, step_zero}
use Rattle.field.specs.Fields.{read_field}
use Rattle.field.specs.Computing.{reading}
use Rattle.field.specs.Judgement.{refuses, means}

abbrev of : List ℕ → Result Allowed Fault
of values = means (set_of values) false

abbrev starred : List ℕ → Result Allowed Fault
starred values = means (set_of values) true

-- not of the form, and outside the limits, at the field's first byte
abbrev bad : Result Allowed Fault
bad = refuses Malformed 1

abbrev outside : Result Allowed Fault
outside = refuses OutOfLimits 1

-- in both dialects
abbrev both : Limits → List ℕ → List (Result Allowed Fault)
both l s = read_field (in_dialect Rising l) 1 s ∷ read_field (in_dialect Wrapping l) 1 s ∷ []

abbrev twice : Result Allowed Fault → List (Result Allowed Fault)
twice a = a ∷ a ∷ []

-- minute, hour, day, month and weekday, in the first dialect and then in the second
abbrev all : List ℕ → List (Result Allowed Fault)
all s =
    map (λ l. read_field (in_dialect Rising l) 1 s) (minute_limits ∷ hour_limits ∷ day_limits ∷ month_limits ∷ weekday_limits ∷ [])
    ++ map (λ l. read_field (in_dialect Wrapping l) 1 s) (minute_limits ∷ hour_limits ∷ day_limits ∷ month_limits ∷ weekday_limits ∷ [])

-- the same in each of the ten
abbrev ten : Result Allowed Fault → List (Result Allowed Fault)
ten a = replicate 10 a

-- ---- the first byte, alone: a digit is its value, `*` is first to last, and nothing else is a field

minute-first : Lead (λ b. both minute_limits (b ∷ []))
    (one 42 (twice (starred (up_to 0 59))) ∷ each 48 57 (λ b. twice (of ((b - 48) ∷ []))) ∷ [])
    (λ b. twice bad)
unfolding trying reading
minute-first = refl

hour-first : Lead (λ b. both hour_limits (b ∷ []))
    (one 42 (twice (starred (up_to 0 23))) ∷ each 48 57 (λ b. twice (of ((b - 48) ∷ []))) ∷ [])
    (λ b. twice bad)
unfolding trying reading
hour-first = refl

day-first : Lead (λ b. both day_limits (b ∷ []))
    (one 42 (twice (starred (up_to 1 31))) ∷ one 48 (twice outside) ∷ each 49 57 (λ b. twice (of ((b - 48) ∷ []))) ∷ [])
    (λ b. twice bad)
unfolding trying reading
day-first = refl

month-first : Lead (λ b. both month_limits (b ∷ []))
    (one 42 (twice (starred (up_to 1 12))) ∷ one 48 (twice outside) ∷ each 49 57 (λ b. twice (of ((b - 48) ∷ []))) ∷ [])
    (λ b. twice bad)
unfolding trying reading
month-first = refl

-- 7 is Sunday in the first dialect only
weekday-first : Lead (λ b. both weekday_limits (b ∷ []))
    (one 42 (twice (starred (up_to 0 6)))
    ∷ each 48 54 (λ b. twice (of ((b - 48) ∷ [])))
    ∷ one 55 (of (0 ∷ []) ∷ outside ∷ [])
    ∷ range 56 57 (twice outside)
    ∷ [])
    (λ b. twice bad)
unfolding trying reading
weekday-first = refl

-- ---- after a digit: `1?`, `1?2` and `1?*`; and before one

after-digit : Lead (λ b. both minute_limits (49 ∷ b ∷ [])) (each 48 57 (λ b. twice (of ((b - 38) ∷ []))) ∷ []) (λ b. twice bad)
unfolding trying reading
after-digit = refl

-- only a comma, a dash and one more digit may follow: 102 and above are outside every field
between-digits : Lead (λ b. all (49 ∷ b ∷ text "2"))
    (one 44 (ten (of (1 ∷ 2 ∷ []))) ∷ one 45 (ten (of (1 ∷ 2 ∷ []))) ∷ range 48 57 (ten outside) ∷ [])
    (λ b. ten bad)
unfolding trying reading
between-digits = refl

before-star : Lead (λ b. all (49 ∷ b ∷ text "*")) [] (λ b. ten bad)
unfolding trying reading
before-star = refl

-- before a digit: `?1`
before-digit : Lead (λ b. both minute_limits (b ∷ text "1"))
    (each 48 53 (λ b. twice (of (((b - 48) * 10 + 1) ∷ []))) ∷ range 54 57 (twice outside) ∷ [])
    (λ b. twice bad)
unfolding trying reading
before-digit = refl

-- the fourth digit, and no fifth one
fourth-digit : Lead (λ b. both minute_limits (text "000" ++ b ∷ [])) (each 48 57 (λ b. twice (of ((b - 48) ∷ []))) ∷ []) (λ b. twice bad)
unfolding trying reading
fourth-digit = refl

no-fifth : Lead (λ b. all (text "0001" ++ b ∷ [])) [] (λ b. ten bad)
unfolding trying reading
no-fifth = refl

-- ---- after `*`, and after `*/`

after-star : Lead (λ b. all (42 ∷ b ∷ [])) [] (λ b. ten bad)
unfolding trying reading
after-star = refl

-- only a slash leads to a step: `*?5`
star-step : Lead (λ b. both hour_limits (42 ∷ b ∷ text "5")) (one 47 (twice (starred (0 ∷ 5 ∷ 10 ∷ 15 ∷ 20 ∷ []))) ∷ []) (λ b. twice bad)
unfolding trying reading
star-step = refl

-- `*/?` as a month: step 0 is 8, and a step keeps the first value and each step-th after it
after-slash : Lead (λ b. both month_limits (text "*/" ++ b ∷ []))
    (one 48 (twice (refuses StepZero 1))
    ∷ one 49 (twice (starred (up_to 1 12)))
    ∷ one 50 (twice (starred (1 ∷ 3 ∷ 5 ∷ 7 ∷ 9 ∷ 11 ∷ [])))
    ∷ one 51 (twice (starred (1 ∷ 4 ∷ 7 ∷ 10 ∷ [])))
    ∷ one 52 (twice (starred (1 ∷ 5 ∷ 9 ∷ [])))
    ∷ one 53 (twice (starred (1 ∷ 6 ∷ 11 ∷ [])))
    ∷ each 54 57 (λ b. twice (starred (1 ∷ (b - 47) ∷ [])))
    ∷ [])
    (λ b. twice bad)
unfolding trying reading
after-slash = refl

-- `*/1?`, and `*/1?x`
after-step : Lead (λ b. both hour_limits (text "*/1" ++ b ∷ []))
    (one 48 (twice (starred (0 ∷ 10 ∷ 20 ∷ []))) ∷ one 49 (twice (starred (0 ∷ 11 ∷ 22 ∷ []))) ∷ each 50 57 (λ b. twice (starred (0 ∷ (b - 38) ∷ []))) ∷ [])
    (λ b. twice bad)
unfolding trying reading
after-step = refl

after-step-more : Lead (λ b. all (text "*/1" ++ b ∷ text "x")) [] (λ b. ten bad)
unfolding trying reading
after-step-more = refl

-- ---- after a dash, and after a range

-- `1-?`: in the second dialect 0 is reached over the join
after-dash : Lead (λ b. both hour_limits (text "1-" ++ b ∷ []))
    (one 48 (refuses Reversed 1 ∷ of (up_to 1 23 ++ 0 ∷ []) ∷ []) ∷ each 49 57 (λ b. twice (of (up_to 1 (b - 48)))) ∷ [])
    (λ b. twice bad)
unfolding trying reading
after-dash = refl

-- `1-2?`
after-range : Lead (λ b. both day_limits (text "1-2" ++ b ∷ [])) (each 48 57 (λ b. twice (of (up_to 1 (b - 28)))) ∷ []) (λ b. twice bad)
unfolding trying reading
after-range = refl

-- `1-2?1`: a comma, a slash and one more digit may follow, and no second dash
range-more : Lead (λ b. all (text "1-2" ++ b ∷ text "1"))
    (one 44 (ten (of (1 ∷ 2 ∷ []))) ∷ one 47 (ten (of (1 ∷ 2 ∷ []))) ∷ range 48 57 (ten outside) ∷ [])
    (λ b. ten bad)
unfolding trying reading
range-more = refl

-- `1-2/?`
range-step : Lead (λ b. all (text "1-2/" ++ b ∷ []))
    (one 48 (ten (refuses StepZero 1)) ∷ one 49 (ten (of (1 ∷ 2 ∷ []))) ∷ range 50 57 (ten (of (1 ∷ []))) ∷ [])
    (λ b. ten bad)
unfolding trying reading
range-step = refl

-- `1-2/1?2`: a comma, and digits
range-step-more : Lead (λ b. all (text "1-2/1" ++ b ∷ text "2"))
    (one 44 (ten (of (1 ∷ 2 ∷ []))) ∷ range 48 57 (ten (of (1 ∷ []))) ∷ [])
    (λ b. ten bad)
unfolding trying reading
range-step-more = refl

-- ---- after a comma: `1,?`, and `?,1`; no star is an element

after-comma : Lead (λ b. both hour_limits (text "1," ++ b ∷ [])) (each 48 57 (λ b. twice (of (1 ∷ (b - 48) ∷ []))) ∷ []) (λ b. twice bad)
unfolding trying reading
after-comma = refl

before-comma : Lead (λ b. both hour_limits (b ∷ text ",1")) (each 48 57 (λ b. twice (of (1 ∷ (b - 48) ∷ []))) ∷ []) (λ b. twice bad)
unfolding trying reading
before-comma = refl

-- ---- texts that are almost of a field's form: each refused in every field, in both dialects

almost : Hold all
    (map (λ (s : List ℕ). (s, ten bad))
    ([]
    -- a star with something else than a step
    ∷ text "*/" ∷ text "**" ∷ text "*/*" ∷ text "*2" ∷ text "*-2" ∷ text "*,2" ∷ text "*/2/3" ∷ text "*/2,3" ∷ text "*/2-3" ∷ text "*/+2" ∷ text "*/ 2" ∷ text "/*" ∷ text "/2"
    -- a range that lacks an end or has one more
    ∷ text "-" ∷ text "1-" ∷ text "-2" ∷ text "1--2" ∷ text "1-2-3" ∷ text "1-2-" ∷ text "1-*" ∷ text "1-,2"
    -- a step that lacks its range or its number, or is one too many
    ∷ text "/" ∷ text "1/2" ∷ text "1/" ∷ text "1-5/" ∷ text "1-/2" ∷ text "1-5/2/2" ∷ text "1-5/2-3" ∷ text "1/2-5" ∷ text "1-5//2" ∷ text "1-5/*"
    -- a list that lacks an element, and a star in one
    ∷ text "," ∷ text ",1" ∷ text "1," ∷ text "1,,2" ∷ text "1,*" ∷ text "1,*/2" ∷ text "*/2,*" ∷ text "1,1-" ∷ text "1-2/,1"
    -- five digits in each place of a number
    ∷ text "00001" ∷ text "00001-2" ∷ text "1-00002" ∷ text "1-2/00001" ∷ text "*/00001" ∷ text "1,00002"
    -- a sign, a blank, a letter
    ∷ text "+1" ∷ text "1 " ∷ text "\t1" ∷ text "1x" ∷ text "0x1" ∷ text "?" ∷ text "1~2" ∷ text "L" ∷ text "@1"
    ∷ []))
unfolding reading
almost = refl

-- and four digits in each place
four-digits : Hold all
    ((text "0001", ten (of (1 ∷ [])))
    ∷ (text "0001-0002", ten (of (1 ∷ 2 ∷ [])))
    ∷ (text "0001-0002/0001", ten (of (1 ∷ 2 ∷ [])))
    ∷ (text "0001-0002/9999", ten (of (1 ∷ [])))
    ∷ (text "9999", ten outside)
    ∷ (text "0001-9999", ten outside)
    ∷ [])
unfolding reading
four-digits = refl

-- each digit of four has its weight: 1,000 to 9,000, 100 to 900, and what their lower digits alone would be; as values, as ends and as steps
heavy : Hold all
    (map (λ (s : List ℕ). (s, ten outside))
    (text "1000" ∷ text "1001" ∷ text "2005" ∷ text "3001" ∷ text "4097" ∷ text "5001" ∷ text "6001" ∷ text "7001" ∷ text "8001" ∷ text "9001"
    ∷ text "0100" ∷ text "0101" ∷ text "0205" ∷ text "0257" ∷ text "0513" ∷ text "1025" ∷ text "2049" ∷ text "8193" ∷ text "101" ∷ text "901"
    ∷ text "1-1002" ∷ text "1001-2" ∷ text "1-0102" ∷ text "1001-1002"
    ∷ []))
unfolding reading
heavy = refl

heavy-steps : Hold all
    (map (λ (s : List ℕ). (s, ten (of (1 ∷ []))))
    (text "1-5/1001" ∷ text "1-5/2002" ∷ text "1-5/9001" ∷ text "1-5/101" ∷ text "1-5/0102" ∷ text "1-5/257" ∷ text "1-5/4097" ∷ text "1-5/8193" ∷ text "1-5/1000" ∷ []))
unfolding reading
heavy-steps = refl

-- ---- each number of two digits: its value from the field's first to its last

-- n as two digits
abbrev two_digits : ℕ → List ℕ
two_digits n = (48 + n / 10) ∷ (48 + n % 10) ∷ []

-- what the numbers 0 to 99 give
abbrev numbers : Limits → List (List (Result Allowed Fault))
numbers l = map (λ n. both l (two_digits n)) (up_to 0 99)

-- each its own value from first to last
abbrev values : ℕ → ℕ → List (List (Result Allowed Fault))
values first last = map (λ n. twice (of (n ∷ []))) (up_to first last)

abbrev others : ℕ → List (List (Result Allowed Fault))
others n = replicate n (twice outside)

minutes : numbers minute_limits ≡ values 0 59 ++ others 40
unfolding reading
minutes = refl

hours : numbers hour_limits ≡ values 0 23 ++ others 76
unfolding reading
hours = refl

days : numbers day_limits ≡ others 1 ++ values 1 31 ++ others 68
unfolding reading
days = refl

months : numbers month_limits ≡ others 1 ++ values 1 12 ++ others 87
unfolding reading
months = refl

-- 7 is Sunday in the first dialect only
weekdays : numbers weekday_limits ≡ values 0 6 ++ (of (0 ∷ []) ∷ outside ∷ []) ∷ others 92
unfolding reading
weekdays = refl

-- ---- the nineteen names, and no others

month-list : month_names
    ≡ text "jan" ∷ text "feb" ∷ text "mar" ∷ text "apr" ∷ text "may" ∷ text "jun" ∷ text "jul" ∷ text "aug" ∷ text "sep" ∷ text "oct" ∷ text "nov" ∷ text "dec" ∷ []
unfolding month_names
month-list = refl

weekday-list : weekday_names ≡ text "sun" ∷ text "mon" ∷ text "tue" ∷ text "wed" ∷ text "thu" ∷ text "fri" ∷ text "sat" ∷ []
unfolding weekday_names
weekday-list = refl

abbrev is_read : Result Allowed Fault → Bool
is_read (Ok v) = true
is_read (Err fault) = false

-- for each letter of a name, the bytes that make a field in its place
abbrev letters : Limits → List ℕ → List (List ℕ)
letters l name = passing_at (λ s. is_read (read_field l 1 s)) name 0 3

abbrev three : List ℕ → List ℕ → List ℕ → List (List ℕ)
three a b c = a ∷ b ∷ c ∷ []

-- each letter in both cases; `jan` and `jun`, `mar` and `may`, `jun` and `jul` differ in one letter
month-letters : Hold (letters month_limits)
    ((text "jan", three (text "Jj") (text "AUau") (text "Nn"))
    ∷ (text "feb", three (text "Ff") (text "Ee") (text "Bb"))
    ∷ (text "mar", three (text "Mm") (text "Aa") (text "RYry"))
    ∷ (text "apr", three (text "Aa") (text "Pp") (text "Rr"))
    ∷ (text "may", three (text "Mm") (text "Aa") (text "RYry"))
    ∷ (text "jun", three (text "Jj") (text "AUau") (text "LNln"))
    ∷ (text "jul", three (text "Jj") (text "Uu") (text "LNln"))
    ∷ (text "aug", three (text "Aa") (text "Uu") (text "Gg"))
    ∷ (text "sep", three (text "Ss") (text "Ee") (text "Pp"))
    ∷ (text "oct", three (text "Oo") (text "Cc") (text "Tt"))
    ∷ (text "nov", three (text "Nn") (text "Oo") (text "Vv"))
    ∷ (text "dec", three (text "Dd") (text "Ee") (text "Cc"))
    ∷ [])
unfolding trying reading
month-letters = refl

weekday-letters : Hold (letters weekday_limits)
    ((text "sun", three (text "Ss") (text "Uu") (text "Nn"))
    ∷ (text "mon", three (text "Mm") (text "Oo") (text "Nn"))
    ∷ (text "tue", three (text "Tt") (text "Uu") (text "Ee"))
    ∷ (text "wed", three (text "Ww") (text "Ee") (text "Dd"))
    ∷ (text "thu", three (text "Tt") (text "Hh") (text "Uu"))
    ∷ (text "fri", three (text "Ff") (text "Rr") (text "Ii"))
    ∷ (text "sat", three (text "Ss") (text "Aa") (text "Tt"))
    ∷ [])
unfolding trying reading
weekday-letters = refl

-- a byte after or before a name: no byte makes it a field
month-longer : Lead (λ b. both month_limits (text "dec" ++ b ∷ []) ++ both month_limits (b ∷ text "jan")) [] (λ b. twice bad ++ twice bad)
unfolding trying reading
month-longer = refl

weekday-longer : Lead (λ b. both weekday_limits (text "sat" ++ b ∷ []) ++ both weekday_limits (b ∷ text "sun")) [] (λ b. twice bad ++ twice bad)
unfolding trying reading
weekday-longer = refl

-- no name in a field of numbers, none of the other field, none as a step, and none without its last letter
no_names : map (λ s. both minute_limits s ++ both hour_limits s ++ both day_limits s ++ both weekday_limits s) month_names ≡ replicate 12 (replicate 8 bad)
unfolding reading
no_names = refl

no-weekdays : map (λ s. both minute_limits s ++ both hour_limits s ++ both day_limits s ++ both month_limits s) weekday_names ≡ replicate 7 (replicate 8 bad)
unfolding reading
no-weekdays = refl

almost-names : Hold (λ s. both month_limits s ++ both weekday_limits s)
    (map (λ (s : List ℕ). (s, replicate 4 bad))
    (text "j" ∷ text "ja" ∷ text "an" ∷ text "janu" ∷ text "january" ∷ text "sept" ∷ text "s" ∷ text "su" ∷ text "un" ∷ text "sund" ∷ text "tues" ∷ text "thur"
    ∷ text "*/jan" ∷ text "*/mon" ∷ text "1-2/feb" ∷ text "1-2/tue" ∷ text "jan-" ∷ text "mon-" ∷ text "-jan" ∷ text "-mon" ∷ text "jan/2" ∷ text "mon/2"
    ∷ text "jan,," ∷ text "mon," ∷ text ",jan" ∷ text ",mon" ∷ text "jan*" ∷ text "mon*" ∷ text "jan1" ∷ text "mon1" ∷ text "1jan" ∷ text "1mon"
    ∷ []))
unfolding reading
almost-names = refl

-- ---- the refusals of a field

refusals : map number_of (malformed ∷ out_of_limits ∷ reversed ∷ step_zero ∷ []) ≡ 5 ∷ 6 ∷ 7 ∷ 8 ∷ []
unfolding number_of
refusals = refl
