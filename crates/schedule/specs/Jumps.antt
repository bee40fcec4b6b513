-- The mark of a queue, and how an announced minute is judged beside it (Q4, Q5, Q6).
-- Assumes nothing.
use Rattle.std.specs.Prelude.{ℕ, ◌+◌, Bool, true, false, cond, ◌||◌, leb, ltb, Option, Some, None}
use Rattle.calendar.specs.Dates.{last_minute}
use Rattle.schedule.specs.declared.jump.Case.{Case}
use Rattle.schedule.specs.declared.jump.Case.TheVariants.{Anew, After, Held}
use Rattle.schedule.specs.Search.{passes}

-- Q1, Q12: none, or a minute of the calendar
abbrev pub is_mark : Option ℕ → Bool
is_mark None = true
is_mark (Some h) = leb h last_minute

-- Q4, Q5: how many minutes after the mark fixed entries are caught up, and how many before it the clock is new
abbrev pub catch_up_limit : ℕ
catch_up_limit = 180

-- Q4, Q5, Q6: where minute m is beside mark h: anew, after the mark, or held
unfoldable pub case_of : Option ℕ → ℕ → Case
case_of None m = Anew
case_of (Some h) m = cond (ltb (h + catch_up_limit) m || leb (m + catch_up_limit) h) Anew (cond (ltb h m) (After h) Held)

-- Q4, Q5, Q6: whether minute m calls an entry, where p says which minutes it matches
unfoldable pub judged : Case → Bool → (ℕ → Bool) → ℕ → Bool
judged Anew fixed p m = p m
judged (After h) fixed p m = cond fixed (passes p h m) (p m)
judged Held fixed p m = cond fixed false (p m)

-- Q4, Q5, Q6: the mark after minute m, in each case
abbrev pub mark_in : Case → Option ℕ → ℕ → Option ℕ
mark_in Anew mark m = Some m
mark_in (After h) mark m = Some m
mark_in Held mark m = mark

-- Q4, Q5, Q6, Q8: the mark after minute m
unfoldable pub mark_after : Option ℕ → ℕ → Option ℕ
mark_after mark m = mark_in (case_of mark m) mark m
