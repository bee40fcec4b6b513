-- Spans of days that follow one another, as years do, or the months of a year (G6, G8): how long some of them are together, and in which
-- one a day is. `days j` is how many days span number j has.
-- Assumes nothing.
use Rattle.std.specs.Prelude.{ℕ, zero, suc, ◌+◌, ◌-◌, cond, ltb}
use Rattle.calendar.specs.declared.walk.Place.{Place}

-- G8: the days of n spans, from number i on
unfoldable pub span : (ℕ → ℕ) → ℕ → ℕ → ℕ
span days i zero = 0
span days i (suc n) = days i + span days (suc i) n

-- G6: where day d is among n spans, counted from the first day of number i. It is in number i if that has more than d days, and otherwise
-- among the spans after it, with the rest of d.
unfoldable pub walk : (ℕ → ℕ) → ℕ → ℕ → ℕ → Place
walk days i zero d = record { at = i; rest = d }
walk days i (suc n) d =
    let after = walk days (suc i) n (d - days i) in
    cond (ltb d (days i)) (record { at = i; rest = d }) after
