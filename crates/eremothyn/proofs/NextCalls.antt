-- A next firing by table bytes in both kinds and both dialects. It is no row: a search up to the calendar's end isn't computed, but the entry that is
-- read is, and that it matches the minute.
-- Assumes nothing.
use mathlib.Core.Path.{◌≡◌, refl}
use mathlib.Core.Bool.{true, false}
use mathlib.Core.List.{List, [], ◌∷◌}
use Prim.Native.Nat.{ℕ, ◌+◌, ◌<◌, ◌≤◌}
use native.Mathlib.Omega.{arith}
use lib.IntN.{pos}
use borrow.Author.Tests.{le-leb}
use Rattle.std.specs.Prelude.{Ok}
use Rattle.octets.specs.Sets.{set_of, up_to}
use Rattle.calendar.specs.Dates.{last_minute}
use Rattle.schedule.specs.declared.Schedule.{Schedule}
use Rattle.schedule.specs.Local.{biased_offset, matches_in}
use Rattle.schedule.specs.Computing.{firing}
use Rattle.schedule.proofs.Theorems.{next-at-in}
use Rattle.line.specs.declared.Rules.{Rules}
use Rattle.line.specs.declared.time.When.TheVariants.{Timed}
use Rattle.crontab.specs.declared.entry.Entry.{Entry}
use Rattle.crontab.specs.Tables.{table_of, entry_in}
use Rattle.crontab.specs.Firings.{next_of, next_answer, next_in}
use Rattle.crontab.specs.Computing.{reading}
use Rattle.eremothyn.specs.Rules.{rules_of}
use Rattle.eremothyn.specs.Entries.{next_number}
use Rattle.eremothyn.specs.Calls.{next_call}
use Rattle.eremothyn.specs.FourWays.{short}

-- the minute after m, if the entry matches it
next-minute : (rules : Rules) (s : List ℕ) (i : ℕ) (e : Entry) (times : Schedule) (m n : ℕ) → entry_in (table_of rules s) i ≡ Ok e → e.when ≡ Timed times
    → m < n → n ≤ m + 1 → n ≤ last_minute → matches_in times (biased_offset e.offset) n ≡ true → next_number (next_in (table_of rules s) i m) ≡ n
unfolding next_in next_answer next_of next_number
next-minute rules s i e times m n found timed after near on match =
    rw (found, le-leb m last_minute (omega arith), timed, next-at-in times (biased_offset e.offset) m n after on match (λ k low high. absurd (omega arith)))

-- noon on Fridays to Sundays
abbrev noons : Schedule
noons =
    record {
      minutes = set_of (0 ∷ []);
      hours = set_of (12 ∷ []);
      days = set_of (up_to 1 31);
      months = set_of (up_to 1 12);
      weekdays = set_of (0 ∷ 5 ∷ 6 ∷ []);
      stars = record { minutes = false; hours = false; days = true; months = true; weekdays = false };
    }

-- entry 1 of the short table, whose command is after the user column in a system's
abbrev noon : ℕ → ℕ → Entry
noon start end = record { when = Timed noons; line = 5; at = 45; start = start; end = end; offset = pos 60 }

read : (entry_in (table_of (rules_of 0 0) (short 0)) 1 ≡ Ok (noon 58 67))
    × (entry_in (table_of (rules_of 0 1) (short 1)) 1 ≡ Ok (noon 58 67))
    × (entry_in (table_of (rules_of 1 0) (short 0)) 1 ≡ Ok (noon 64 67))
    × (entry_in (table_of (rules_of 1 1) (short 1)) 1 ≡ Ok (noon 64 67))
unfolding reading rules_of
read = (refl, refl, refl, refl)

matches : matches_in noons (biased_offset (pos 60)) 72660 ≡ true
unfolding firing
matches = refl

-- 12:00 at +01:00 on a Friday: minute 72,660
pub next-four-ways :
    (next_call (short 0) 0 0 1 72659 ≡ 72660) × (next_call (short 1) 0 1 1 72659 ≡ 72660) × (next_call (short 0) 1 0 1 72659 ≡ 72660) × (next_call (short 1) 1 1 1 72659 ≡ 72660)
next-four-ways = (
  next-minute (rules_of 0 0) (short 0) 1 (noon 58 67) noons 72659 72660 read.0 refl (omega arith) (omega arith) (omega arith) matches,
  next-minute (rules_of 0 1) (short 1) 1 (noon 58 67) noons 72659 72660 read.1 refl (omega arith) (omega arith) (omega arith) matches,
  next-minute (rules_of 1 0) (short 0) 1 (noon 64 67) noons 72659 72660 read.2 refl (omega arith) (omega arith) (omega arith) matches,
  next-minute (rules_of 1 1) (short 1) 1 (noon 64 67) noons 72659 72660 read.3 refl (omega arith) (omega arith) (omega arith) matches,
)
