-- Minutes beside the mark 1000, and what they call, by hand, at the limits of Q4, Q5 and Q6.
-- Assumes nothing.
use Rattle.std.specs.Prelude.{refl, Bool, true, false, [], ◌∷◌, ℕ, eqb, Option, Some, None}
use Rattle.octets.specs.Rows.{Hold}
use Rattle.schedule.specs.declared.jump.Case.{Case}
use Rattle.schedule.specs.declared.jump.Case.TheVariants.{Anew, After, Held}
use Rattle.schedule.specs.Search.{least_of, from, passes}
use Rattle.schedule.specs.Jumps.{is_mark, case_of, judged, mark_after}

marks : Hold is_mark ((None, true) ∷ (Some 0, true) ∷ (Some 4223371679, true) ∷ (Some 4223371680, false) ∷ [])
marks = refl

-- the case of a minute, and the mark after it
abbrev beside : Option ℕ × ℕ → Case × Option ℕ
beside (mark, m) = (case_of mark m, mark_after mark m)

cases : Hold beside
    (((None, 1000), (Anew, Some 1000))
    -- 181 and 180 above, 1 above
    ∷ ((Some 1000, 1181), (Anew, Some 1181))
    ∷ ((Some 1000, 1180), (After 1000, Some 1180))
    ∷ ((Some 1000, 1001), (After 1000, Some 1001))
    -- the mark itself, 179 and 180 below
    ∷ ((Some 1000, 1000), (Held, Some 1000))
    ∷ ((Some 1000, 821), (Held, Some 1000))
    ∷ ((Some 1000, 820), (Anew, Some 820))
    -- a clock that falls to 1970, and one that comes back
    ∷ ((Some 29738970, 0), (Anew, Some 0))
    ∷ ((Some 0, 29738970), (Anew, Some 29738970))
    -- at the calendar's first minute, and at its last
    ∷ ((Some 0, 0), (Held, Some 0))
    ∷ ((Some 179, 0), (Held, Some 179))
    ∷ ((Some 180, 0), (Anew, Some 0))
    ∷ ((Some 4223371679, 4223371500), (Held, Some 4223371679))
    ∷ ((Some 4223371679, 4223371499), (Anew, Some 4223371499))
    ∷ ((Some 4223371499, 4223371679), (After 4223371499, Some 4223371679))
    ∷ ((Some 4223371498, 4223371679), (Anew, Some 4223371679))
    ∷ [])
unfolding case_of mark_after
cases = refl

-- whether minute m calls an entry that matches the minute 1100 alone, one that is fixed and one that isn't
abbrev called : Option ℕ × ℕ → Bool × Bool
called (mark, m) = (judged (case_of mark m) true (λ n. eqb n 1100) m, judged (case_of mark m) false (λ n. eqb n 1100) m)

calls : Hold called
    (((None, 1100), (true, true))
    ∷ ((None, 1101), (false, false))
    -- caught up: from the minute after the mark on, and up to the minute itself
    ∷ ((Some 1099, 1100), (true, true))
    ∷ ((Some 1000, 1100), (true, true))
    ∷ ((Some 1000, 1180), (true, false))
    ∷ ((Some 1000, 1099), (false, false))
    ∷ ((Some 1000, 1181), (false, false))
    -- held: the minute is announced again, and before a mark that passed it
    ∷ ((Some 1100, 1101), (false, false))
    ∷ ((Some 1100, 1100), (false, true))
    ∷ ((Some 1279, 1100), (false, true))
    ∷ ((Some 1280, 1100), (true, true))
    ∷ [])
unfolding case_of judged passes from least_of
calls = refl
