-- How soon a day matches: within the gap, and among the calendar's first days, even where a date must fall on a weekday.
-- Assumes nothing.
use mathlib.Core.Path.{◌≡◌, refl, ◌∙◌}
use mathlib.Core.Bool.{Bool, true, false}
use Prim.Native.Nat.{ℕ, ◌+◌, ◌-◌, ◌%◌, ◌≤◌, ◌<◌}
use native.Mathlib.Omega.{arith}
use lib.Dec.{T, eqb, eqb→eq}
use mir.Facts.{and_yes}
use Rattle.calendar.specs.Gregorian.{leap}
use Rattle.calendar.specs.Dates.{calendar_days, weekday_of}
use Rattle.calendar.proofs.Theorems.{start_at}
use Rattle.schedule.specs.declared.Schedule.{Schedule}
use Rattle.schedule.specs.Gap.{gap_days}
use Rattle.schedule.specs.Match.{matches_day, matches_on}
use Rattle.schedule.proofs.LeapYears.{leap_at, leap_on, first_days, leap-on-soon}
use Rattle.schedule.proofs.Dates.{into, Is, into-small, Comes, date-comes, date-comes-first, date-matches}

-- some day matches among the g days from x on
abbrev pub Within : Schedule → ℕ → ℕ → Type 0
Within s x g = (d : ℕ) × (x ≤ d) × (d < x + g) × (matches_on s d ≡ true)

-- each date comes among them in a leap year that begins on each weekday
abbrev pub Covers : ℕ → ℕ → Type 0
Covers x g = (v m d : ℕ) → v < 7 → Is true m d → Comes (leap_on v) true m d x g

T_true : (b : Bool) → T b → b ≡ true
T_true true t = refl
T_true false t = absurd t

leap-is : (j : ℕ) → T (leap_at j) → leap (1970 + j) ≡ true
unfolding leap_at
leap-is j t = T_true (leap (1970 + j)) t

leap_on-is : (v j : ℕ) → T (leap_on v j) → T (leap_at j) × (weekday_of (start_at j) ≡ v)
unfolding leap_on
leap_on-is v j t = let p = and_yes (leap_at j) (eqb (weekday_of (start_at j)) v) t in (p.0, eqb→eq _ _ p.1)

-- a day c days after one that falls on the weekday c days before w
falls-on : (start c w : ℕ) → c ≤ 365 → w < 7 → weekday_of start ≡ (w + 371 - c) % 7 → weekday_of (start + c) ≡ w
unfolding weekday_of
falls-on start c w h k e = omega arith

leaps : (v j : ℕ) → T (leap_on v j) → leap (1970 + j) ≡ true
leaps v j u = leap-is j (leap_on-is v j u).0

-- so it is in each gap, and in the calendar's first days
pub gap-covers : (x : ℕ) → x + gap_days ≤ calendar_days → Covers x gap_days
gap-covers x h v m d k i = date-comes {q = leap_on v} (leap-on-soon v k) (leaps v) i x h

pub first-covers : Covers 0 first_days
first-covers v m d k i = date-comes-first {q = leap_on v} (leap-on-soon v k) (leaps v) i

-- a date on a weekday
pub date-within : (x g : ℕ) → Covers x g → (s : Schedule) (m d w : ℕ) → Is true m d → w < 7 → matches_day s m d w ≡ true → Within s x g
date-within x g all s m d w i hw t =
    let v = (w + 371 - into true m d) % 7 in
    let c = all v m d (omega arith) i in
    let f = falls-on (start_at c.year) (into true m d) w (into-small i) hw (leap_on-is v c.year c.passes).1 in
    (start_at c.year + into true m d, c.low, c.high, date-matches c.leaps c.before i s ∙ rw f t)
