-- Laws of the next firing: a search by two digits, days of 1,440 minutes.
-- Assumes nothing.
use mathlib.Core.Path.{◌≡◌, ap, fun_ext}
use mathlib.Core.Bool.{Bool}
use Prim.Native.Nat.{ℕ, ◌+◌, ◌*◌, ◌≤◌}
use lib.Dec.{lit<}
use borrow.Author.Tests.{le-leb}
use Rattle.std.specs.Prelude.{Ok}
use Rattle.calendar.specs.Dates.{calendar_days, last_minute}
use Rattle.schedule.specs.declared.Schedule.{Schedule}
use Rattle.schedule.specs.Match.{matches, matches_on, matches_at}
use Rattle.schedule.specs.Search.{from}
use Rattle.schedule.specs.Next.{firing_after}
use Rattle.schedule.proofs.Search.{digits}
use Rattle.schedule.proofs.Gap.{matches-parts}

-- the least matching minute of the calendar, by its digits
abbrev pub by_days : Schedule → ℕ → ℕ
by_days s n = from (digits 1440 (lit< tt) (matches_on s) (matches_at s)) (calendar_days * 1440) n

pub by-days : (s : Schedule) (n : ℕ) → from (matches s) (last_minute + 1) n ≡ by_days s n
by-days s n = ap (λ (p : ℕ → Bool). from p (last_minute + 1) n) (fun_ext (matches-parts s))

pub firing-found : (s : Schedule) (m n : ℕ) → n ≡ by_days s (m + 1) → n ≤ last_minute → Ok n ≡ firing_after s m
unfolding firing_after
firing-found s m n e h = rw (by-days s (m + 1), ← e, le-leb n last_minute h)
