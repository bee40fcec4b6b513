-- Every pair of weekday names as a range, and every name alone, in both dialects; the sets by the words of F5 and W4. In the first dialect a
-- range rises, with `sun` 0 below and 7 above another day, and is refused with 7 where it falls; in the second it goes on to the upper end over Saturday.
-- Assumes nothing.
use Rattle.std.specs.Prelude.{ℕ, refl, false, List, [], ◌∷◌, Result}
use Rattle.refusal.specs.declared.Refusal.TheVariants.{Reversed}
use Rattle.octets.specs.Texts.{text}
use Rattle.octets.specs.Rows.{Hold}
use Rattle.octets.specs.Sets.{set_of}
use Rattle.field.specs.declared.Limits.{Limits}
use Rattle.field.specs.declared.Allowed.{Allowed}
use Rattle.field.specs.declared.Fault.{Fault}
use Rattle.field.specs.declared.Dialect.TheVariants.{Rising, Wrapping}
use Rattle.field.specs.Limits.{month_limits, weekday_limits, in_dialect}
use Rattle.field.specs.Fields.{read_field}
use Rattle.field.specs.Computing.{reading}
use Rattle.field.specs.Judgement.{refuses, means}

-- the values, with no star in front
abbrev of : List ℕ → Result Allowed Fault
of values = means (set_of values) false

-- a field's bytes in both dialects, the first in front
abbrev both : Limits × List ℕ → Result Allowed Fault × Result Allowed Fault
both (limits, s) = (read_field (in_dialect Rising limits) 1 s, read_field (in_dialect Wrapping limits) 1 s)

-- ---- the pairs

-- from Sunday
from-sun : Hold both
    (((weekday_limits, text "sun-sun"), (of (0 ∷ []), of (0 ∷ [])))
    ∷ ((weekday_limits, text "sun-mon"), (of (0 ∷ 1 ∷ []), of (0 ∷ 1 ∷ [])))
    ∷ ((weekday_limits, text "sun-tue"), (of (0 ∷ 1 ∷ 2 ∷ []), of (0 ∷ 1 ∷ 2 ∷ [])))
    ∷ ((weekday_limits, text "sun-wed"), (of (0 ∷ 1 ∷ 2 ∷ 3 ∷ []), of (0 ∷ 1 ∷ 2 ∷ 3 ∷ [])))
    ∷ ((weekday_limits, text "sun-thu"), (of (0 ∷ 1 ∷ 2 ∷ 3 ∷ 4 ∷ []), of (0 ∷ 1 ∷ 2 ∷ 3 ∷ 4 ∷ [])))
    ∷ ((weekday_limits, text "sun-fri"), (of (0 ∷ 1 ∷ 2 ∷ 3 ∷ 4 ∷ 5 ∷ []), of (0 ∷ 1 ∷ 2 ∷ 3 ∷ 4 ∷ 5 ∷ [])))
    ∷ ((weekday_limits, text "sun-sat"), (of (0 ∷ 1 ∷ 2 ∷ 3 ∷ 4 ∷ 5 ∷ 6 ∷ []), of (0 ∷ 1 ∷ 2 ∷ 3 ∷ 4 ∷ 5 ∷ 6 ∷ [])))
    ∷ [])
unfolding reading
from-sun = refl

-- from Monday
from-mon : Hold both
    (((weekday_limits, text "mon-sun"), (of (1 ∷ 2 ∷ 3 ∷ 4 ∷ 5 ∷ 6 ∷ 0 ∷ []), of (1 ∷ 2 ∷ 3 ∷ 4 ∷ 5 ∷ 6 ∷ 0 ∷ [])))
    ∷ ((weekday_limits, text "mon-mon"), (of (1 ∷ []), of (1 ∷ [])))
    ∷ ((weekday_limits, text "mon-tue"), (of (1 ∷ 2 ∷ []), of (1 ∷ 2 ∷ [])))
    ∷ ((weekday_limits, text "mon-wed"), (of (1 ∷ 2 ∷ 3 ∷ []), of (1 ∷ 2 ∷ 3 ∷ [])))
    ∷ ((weekday_limits, text "mon-thu"), (of (1 ∷ 2 ∷ 3 ∷ 4 ∷ []), of (1 ∷ 2 ∷ 3 ∷ 4 ∷ [])))
    ∷ ((weekday_limits, text "mon-fri"), (of (1 ∷ 2 ∷ 3 ∷ 4 ∷ 5 ∷ []), of (1 ∷ 2 ∷ 3 ∷ 4 ∷ 5 ∷ [])))
    ∷ ((weekday_limits, text "mon-sat"), (of (1 ∷ 2 ∷ 3 ∷ 4 ∷ 5 ∷ 6 ∷ []), of (1 ∷ 2 ∷ 3 ∷ 4 ∷ 5 ∷ 6 ∷ [])))
    ∷ [])
unfolding reading
from-mon = refl

-- from Tuesday
from-tue : Hold both
    (((weekday_limits, text "tue-sun"), (of (2 ∷ 3 ∷ 4 ∷ 5 ∷ 6 ∷ 0 ∷ []), of (2 ∷ 3 ∷ 4 ∷ 5 ∷ 6 ∷ 0 ∷ [])))
    ∷ ((weekday_limits, text "tue-mon"), (refuses Reversed 1, of (2 ∷ 3 ∷ 4 ∷ 5 ∷ 6 ∷ 0 ∷ 1 ∷ [])))
    ∷ ((weekday_limits, text "tue-tue"), (of (2 ∷ []), of (2 ∷ [])))
    ∷ ((weekday_limits, text "tue-wed"), (of (2 ∷ 3 ∷ []), of (2 ∷ 3 ∷ [])))
    ∷ ((weekday_limits, text "tue-thu"), (of (2 ∷ 3 ∷ 4 ∷ []), of (2 ∷ 3 ∷ 4 ∷ [])))
    ∷ ((weekday_limits, text "tue-fri"), (of (2 ∷ 3 ∷ 4 ∷ 5 ∷ []), of (2 ∷ 3 ∷ 4 ∷ 5 ∷ [])))
    ∷ ((weekday_limits, text "tue-sat"), (of (2 ∷ 3 ∷ 4 ∷ 5 ∷ 6 ∷ []), of (2 ∷ 3 ∷ 4 ∷ 5 ∷ 6 ∷ [])))
    ∷ [])
unfolding reading
from-tue = refl

-- from Wednesday
from-wed : Hold both
    (((weekday_limits, text "wed-sun"), (of (3 ∷ 4 ∷ 5 ∷ 6 ∷ 0 ∷ []), of (3 ∷ 4 ∷ 5 ∷ 6 ∷ 0 ∷ [])))
    ∷ ((weekday_limits, text "wed-mon"), (refuses Reversed 1, of (3 ∷ 4 ∷ 5 ∷ 6 ∷ 0 ∷ 1 ∷ [])))
    ∷ ((weekday_limits, text "wed-tue"), (refuses Reversed 1, of (3 ∷ 4 ∷ 5 ∷ 6 ∷ 0 ∷ 1 ∷ 2 ∷ [])))
    ∷ ((weekday_limits, text "wed-wed"), (of (3 ∷ []), of (3 ∷ [])))
    ∷ ((weekday_limits, text "wed-thu"), (of (3 ∷ 4 ∷ []), of (3 ∷ 4 ∷ [])))
    ∷ ((weekday_limits, text "wed-fri"), (of (3 ∷ 4 ∷ 5 ∷ []), of (3 ∷ 4 ∷ 5 ∷ [])))
    ∷ ((weekday_limits, text "wed-sat"), (of (3 ∷ 4 ∷ 5 ∷ 6 ∷ []), of (3 ∷ 4 ∷ 5 ∷ 6 ∷ [])))
    ∷ [])
unfolding reading
from-wed = refl

-- from Thursday
from-thu : Hold both
    (((weekday_limits, text "thu-sun"), (of (4 ∷ 5 ∷ 6 ∷ 0 ∷ []), of (4 ∷ 5 ∷ 6 ∷ 0 ∷ [])))
    ∷ ((weekday_limits, text "thu-mon"), (refuses Reversed 1, of (4 ∷ 5 ∷ 6 ∷ 0 ∷ 1 ∷ [])))
    ∷ ((weekday_limits, text "thu-tue"), (refuses Reversed 1, of (4 ∷ 5 ∷ 6 ∷ 0 ∷ 1 ∷ 2 ∷ [])))
    ∷ ((weekday_limits, text "thu-wed"), (refuses Reversed 1, of (4 ∷ 5 ∷ 6 ∷ 0 ∷ 1 ∷ 2 ∷ 3 ∷ [])))
    ∷ ((weekday_limits, text "thu-thu"), (of (4 ∷ []), of (4 ∷ [])))
    ∷ ((weekday_limits, text "thu-fri"), (of (4 ∷ 5 ∷ []), of (4 ∷ 5 ∷ [])))
    ∷ ((weekday_limits, text "thu-sat"), (of (4 ∷ 5 ∷ 6 ∷ []), of (4 ∷ 5 ∷ 6 ∷ [])))
    ∷ [])
unfolding reading
from-thu = refl

-- from Friday
from-fri : Hold both
    (((weekday_limits, text "fri-sun"), (of (5 ∷ 6 ∷ 0 ∷ []), of (5 ∷ 6 ∷ 0 ∷ [])))
    ∷ ((weekday_limits, text "fri-mon"), (refuses Reversed 1, of (5 ∷ 6 ∷ 0 ∷ 1 ∷ [])))
    ∷ ((weekday_limits, text "fri-tue"), (refuses Reversed 1, of (5 ∷ 6 ∷ 0 ∷ 1 ∷ 2 ∷ [])))
    ∷ ((weekday_limits, text "fri-wed"), (refuses Reversed 1, of (5 ∷ 6 ∷ 0 ∷ 1 ∷ 2 ∷ 3 ∷ [])))
    ∷ ((weekday_limits, text "fri-thu"), (refuses Reversed 1, of (5 ∷ 6 ∷ 0 ∷ 1 ∷ 2 ∷ 3 ∷ 4 ∷ [])))
    ∷ ((weekday_limits, text "fri-fri"), (of (5 ∷ []), of (5 ∷ [])))
    ∷ ((weekday_limits, text "fri-sat"), (of (5 ∷ 6 ∷ []), of (5 ∷ 6 ∷ [])))
    ∷ [])
unfolding reading
from-fri = refl

-- from Saturday
from-sat : Hold both
    (((weekday_limits, text "sat-sun"), (of (6 ∷ 0 ∷ []), of (6 ∷ 0 ∷ [])))
    ∷ ((weekday_limits, text "sat-mon"), (refuses Reversed 1, of (6 ∷ 0 ∷ 1 ∷ [])))
    ∷ ((weekday_limits, text "sat-tue"), (refuses Reversed 1, of (6 ∷ 0 ∷ 1 ∷ 2 ∷ [])))
    ∷ ((weekday_limits, text "sat-wed"), (refuses Reversed 1, of (6 ∷ 0 ∷ 1 ∷ 2 ∷ 3 ∷ [])))
    ∷ ((weekday_limits, text "sat-thu"), (refuses Reversed 1, of (6 ∷ 0 ∷ 1 ∷ 2 ∷ 3 ∷ 4 ∷ [])))
    ∷ ((weekday_limits, text "sat-fri"), (refuses Reversed 1, of (6 ∷ 0 ∷ 1 ∷ 2 ∷ 3 ∷ 4 ∷ 5 ∷ [])))
    ∷ ((weekday_limits, text "sat-sat"), (of (6 ∷ []), of (6 ∷ [])))
    ∷ [])
unfolding reading
from-sat = refl

-- ---- each name alone, in both dialects

-- months from 1 on
months-alone : Hold both
    (((month_limits, text "jan"), (of (1 ∷ []), of (1 ∷ [])))
    ∷ ((month_limits, text "feb"), (of (2 ∷ []), of (2 ∷ [])))
    ∷ ((month_limits, text "mar"), (of (3 ∷ []), of (3 ∷ [])))
    ∷ ((month_limits, text "apr"), (of (4 ∷ []), of (4 ∷ [])))
    ∷ ((month_limits, text "may"), (of (5 ∷ []), of (5 ∷ [])))
    ∷ ((month_limits, text "jun"), (of (6 ∷ []), of (6 ∷ [])))
    ∷ ((month_limits, text "jul"), (of (7 ∷ []), of (7 ∷ [])))
    ∷ ((month_limits, text "aug"), (of (8 ∷ []), of (8 ∷ [])))
    ∷ ((month_limits, text "sep"), (of (9 ∷ []), of (9 ∷ [])))
    ∷ ((month_limits, text "oct"), (of (10 ∷ []), of (10 ∷ [])))
    ∷ ((month_limits, text "nov"), (of (11 ∷ []), of (11 ∷ [])))
    ∷ ((month_limits, text "dec"), (of (12 ∷ []), of (12 ∷ [])))
    ∷ [])
unfolding reading
months-alone = refl

-- weekdays from 0 on: a name alone is no upper end
weekdays-alone : Hold both
    (((weekday_limits, text "sun"), (of (0 ∷ []), of (0 ∷ [])))
    ∷ ((weekday_limits, text "mon"), (of (1 ∷ []), of (1 ∷ [])))
    ∷ ((weekday_limits, text "tue"), (of (2 ∷ []), of (2 ∷ [])))
    ∷ ((weekday_limits, text "wed"), (of (3 ∷ []), of (3 ∷ [])))
    ∷ ((weekday_limits, text "thu"), (of (4 ∷ []), of (4 ∷ [])))
    ∷ ((weekday_limits, text "fri"), (of (5 ∷ []), of (5 ∷ [])))
    ∷ ((weekday_limits, text "sat"), (of (6 ∷ []), of (6 ∷ [])))
    ∷ [])
unfolding reading
weekdays-alone = refl
