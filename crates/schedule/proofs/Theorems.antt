-- What holds of a schedule's firings, with no search in it.
--   next-at, next-never, next_past: the next firing; the three cases leave nothing out, so each is also the only one
--   can-fire: a schedule fires at some time exactly if the closed test that the code makes says so
--   matching-fires: so does one that matches any minute of the calendar
--   next-on-calendar: a firing that is told is on the calendar
--   fires-within, next-within: it is silent for at most `gap` minutes; fires-first: and from minute 0 for 27 years
--   gap_is, gap-reached: the number, and that it is exactly reached
--   known-days: the next firings among the known days; never: and none, where a computed test finds no day and minute (ever)
-- And under an offset from UTC:
--   local-date: a local date serves as well as the minute
--   utc-same, utc-next: an offset of 0 changes nothing
--   next-at-in, next-never-in, next-past-in: the next firing, all of it in UTC; next-is-in: and what one that is told is;
--     next-refused-in: and that there are two refusals
--   matching-fires-in, next-on-calendar-in: as without an offset
--   slow-agrees: a plain clock walk, minute by minute, comes to the same for every schedule, offset and minute
--   next-by: an entry matches a minute after h, up to m, just where its next firing after h comes by m
--   known-days-in: next firings around the ends of the local calendar
--   gap-on, gap-before, fires-within-in: silent for at most `gap` minutes, and 720 more from before 1970 locally (the third demand's bound)
--   next-within-in: a firing that is told is at most `gap` minutes ahead, from before 1970 locally too
--   matches-shifts-in, next-shifts-in: 400 years later it is the same, where both minutes are on the calendar locally
--   matches-before, matches-at, matches-after: under an offset a minute matches by its local minute, and by none off the calendar
-- And beside a mark:
--   case-above, case-below, case-after, case-held: which case a minute is
--   judged-unfixed: an entry that isn't fixed is judged by the minute
--   mark-stays: a mark of the calendar stays one
--   unmarked-judged, far-judged, caught-up, held-judged: which minutes call an entry beside a mark, in plain orders; caught-up: a fixed one exactly if any minute since
--     the mark matches; first-mark, mark-moves, mark-held: what the mark becomes
--   JumpRules also says what a mark may be: mark-none, mark_on, mark-off; Zones which number stands for an offset: ahead-is
-- Assumes nothing.
use mathlib.Core.Path.{◌≡◌, refl}
use mathlib.Core.Bool.{Bool, true, false, cond}
use Prim.Native.Nat.{ℕ, ◌+◌, ◌≤◌, ◌<◌}
use native.Mathlib.Nat.{lt_of_not-le}
use native.Mathlib.Decide.{dec_le}
use native.Mathlib.Omega.{arith}
use lib.Dec.{leb}
use borrow.Author.Tests.{le-leb, lt-leb, leb-true}
use Rattle.std.specs.Prelude.{Ok, Err}
use Rattle.calendar.specs.Dates.{last_minute, cycle_minutes}
use Rattle.schedule.specs.declared.Schedule.{Schedule}
use Rattle.schedule.specs.Match.{matches}
use Rattle.schedule.specs.Search.{from}
use Rattle.schedule.specs.Next.{can_fire, firing_after, next_after}
use Rattle.schedule.proofs.Search.{Least, least-from, from-none, from_past}
use Rattle.schedule.specs.Refusals.{never_fires, past_the_end}
pub use Rattle.schedule.proofs.Gap.{can-fire, matching-fires, fires-within, fires-first}
unfoldable pub use Rattle.schedule.proofs.KnownDays.{ever}
pub use Rattle.schedule.proofs.KnownDays.{known-days, never, gap_is, gap-reached}
pub use Rattle.schedule.proofs.Clocks.{slow-agrees}
pub use Rattle.schedule.proofs.KnownLocalDays.{known-days-in}
pub use Rattle.schedule.proofs.LocalMinutes.{matches-before, matches-at, matches-after}
pub use Rattle.schedule.proofs.Jumps.{case-above, case-below, case-after, case-held, judged-unfixed, mark-stays}
pub use Rattle.schedule.proofs.JumpRules.{unmarked-judged, far-judged, caught-up, held-judged, first-mark, mark-moves, mark-held}
pub use Rattle.schedule.proofs.Shifts.{matches-shifts, matches-shifts-in, next-shifts-in}
pub use Rattle.schedule.proofs.Offsets.{zone-fits}
pub use Rattle.schedule.proofs.LocalTheorems.{local-date, utc-same, utc-next, next-at-in, next-never-in, next-past-in, next-refused-in, next-is-in, matching-fires-in, next-on-calendar-in, next-by, gap-on, gap-before, fires-within-in, next-within-in, next-within}

-- the least matching minute after m, up to the calendar's last
pub next-at : (s : Schedule) (m n : ℕ) → m < n → n ≤ last_minute → matches s n ≡ true
    → ((k : ℕ) → m < k → k < n → matches s k ≡ false) → next_after s m ≡ Ok n
unfolding next_after firing_after
next-at s m n h k t none =
    let l : Least (matches s) (last_minute + 1) (m + 1) n =
    record { low = omega arith; high = omega arith; passes = λ _. t; none = λ i u v. none i (omega arith) v }
    in
    rw (matching-fires s n k t, ← least-from (omega arith) l, le-leb n last_minute k)

-- never, where no minute of the cycle matches
pub next-never : (s : Schedule) (m : ℕ) → ((k : ℕ) → k < cycle_minutes → matches s k ≡ false) → next_after s m ≡ Err never_fires
unfolding next_after can_fire
next-never s m none =
    let e = from-none (matches s) cycle_minutes 0 (omega arith) (λ k _ v. none k v) in
    rw (← e)

-- past the end, where one matches and none is left
pub next_past : (s : Schedule) (m : ℕ) → can_fire s ≡ true → ((k : ℕ) → m < k → k ≤ last_minute → matches s k ≡ false) → next_after s m ≡ Err past_the_end
unfolding next_after firing_after
next_past s m f none = rw f (elim (dec_le m last_minute) [ yes h ↦ rw (← within h) | no h ↦ rw (← from_past (matches s) (last_minute + 1) (m + 1) (after h), lt-leb (m + 1) last_minute (after' h)) ])
  where
    within : m ≤ last_minute → last_minute + 1 ≡ from (matches s) (last_minute + 1) (m + 1)
    within h = from-none (matches s) (last_minute + 1) (m + 1) (omega arith) (λ k u v. none k (omega arith) (omega arith))

    after' : (m ≤ last_minute → ⊥) → last_minute < m + 1
    after' h = let l = lt_of_not-le h in omega arith

    after : (m ≤ last_minute → ⊥) → last_minute + 1 ≤ m + 1
    after h = let l = lt_of_not-le h in omega arith

-- a firing that is told is on the calendar
pub next-on-calendar : (s : Schedule) (m n : ℕ) → next_after s m ≡ Ok n → n ≤ last_minute
unfolding next_after firing_after
next-on-calendar s m n e = go (can_fire s) (leb k last_minute) refl e
  where
    k : ℕ
    k = from (matches s) (last_minute + 1) (m + 1)

    go : (b c : Bool) → leb k last_minute ≡ c → cond b (cond c (Ok k) (Err past_the_end)) (Err never_fires) ≡ Ok n → n ≤ last_minute
    go true true r f = let i : k ≡ n = cc in omega (arith, leb-true k last_minute r)
    go true false r f = let z : ◌≡◌ {A = ℕ} 0 1 = cc in omega arith
    go false c r f = let z : ◌≡◌ {A = ℕ} 0 1 = cc in omega arith
