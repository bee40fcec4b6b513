-- The hypotheses of the claims about the chain can be met, and are needed.
-- Assumes nothing.
use mathlib.Core.Path.{◌≡◌, refl, ap, ◌∙◌}
use Rattle.std.specs.Prelude.{Ok, Option, Some}
use Rattle.refusal.specs.declared.Refusal.{Refusal}
use Rattle.schedule.specs.Local.{max_west}
use mathlib.Core.Bool.{true, not, and-false}
use mathlib.Core.List.{List, []}
use Prim.Native.Nat.{ℕ, ◌+◌, ◌≤◌}
use native.Mathlib.Omega.{arith}
use borrow.Author.Tests.{le-leb}
use lib.IntN.{negsuc}
use Rattle.calendar.specs.Dates.{last_minute, cycle_minutes}
use Rattle.schedule.specs.Examples as schedule
use Rattle.schedule.specs.Local.{next_after_in}
use Rattle.schedule.proofs.Theorems.{known-days-in, next-is-in, next-at-in, case-held}
use Rattle.schedule.specs.Jumps.{judged}
use Rattle.line.specs.declared.time.When.TheVariants.{Timed}
use Rattle.crontab.specs.declared.entry.Entry.{Entry}
use Rattle.crontab.specs.Computing.{reading, zoning}
use Rattle.crontab.specs.Tables.{table_of, entry_in, count_in, refusal_in}
use Rattle.crontab.specs.Firings.{next_of, next_answer, next_in}
use Rattle.std.specs.Prelude.{Result}
use Rattle.fifo.specs.Queues.{Queue, is_waiting, pick}
use Rattle.fifo.specs.Layout.{queue_of, stored, is_queue}
use Rattle.fifo.specs.Steps.{Step, calls, joins, joiners, ticked, refilled}
use Rattle.fifo.proofs.Theorems.{fresh-queue, announced-queue}
use Rattle.runqueue.specs.Jobs.{job_at, jobs_of}
use Rattle.runqueue.specs.Demand.{biased_offset_of}
use Rattle.runqueue.specs.Chain.{emptied, announced, joins_over, OnBoth, Shifting, BothEnds, FreshUnmarked, user_rules, midnight_table, midnights, MarkNeeded, west_evenings, ShiftMet, ShiftFails}
use Rattle.runqueue.proofs.Exits.{init-good, tick-good}
use Rattle.runqueue.proofs.TableJobs.{few}
use Rattle.runqueue.proofs.Shifts.{answer-shifts}

-- ---- evenings at -12:00

evening : Entry
evening = record { when = Timed schedule.evenings; line = 2; at = 15; start = 26; end = 27; offset = negsuc 719 }

evening-is : job_at (table_of user_rules west_evenings) 0 ≡ evening
unfolding job_at evening reading schedule.schedules
evening-is = refl

evening-found : entry_in (table_of user_rules west_evenings) 0 ≡ Ok evening
unfolding entry_in evening reading schedule.schedules
evening-found = refl

biased-offset-is : biased_offset_of user_rules west_evenings 0 ≡ 0
unfolding evening
biased-offset-is = rw evening-is

evening-next : (m n : ℕ) → m ≤ last_minute → next_after_in schedule.evenings 0 m ≡ Ok n → next_in (table_of user_rules west_evenings) 0 m ≡ Ok n
unfolding next_in next_answer next_of evening
evening-next m n h e = rw (evening-found, le-leb m last_minute h, e)

-- none fires from minute 0 to the first evening
from-max_west : next_after_in schedule.evenings 0 max_west ≡ Ok 1800
from-max_west =
    let (u, v, t, none) = next-is-in schedule.evenings 0 0 1800 known-days-in.3 in
    next-at-in schedule.evenings 0 max_west 1800 (omega arith) v t (λ k h i. none k (omega arith) i)

evening-shifting : Shifting (biased_offset_of user_rules west_evenings 0) max_west 1800 (1800 + cycle_minutes)
evening-shifting =
    rw biased-offset-is (record {
      start = record { utc = omega arith; from = omega arith; to = omega arith };
      shifted = record { utc = omega arith; from = omega arith; to = omega arith };
      answer = record { utc = omega arith; from = omega arith; to = omega arith };
      other = record { utc = omega arith; from = omega arith; to = omega arith };
    })

pub shift-met : ShiftMet
shift-met =
    let here = evening-next max_west 1800 (omega arith) from-max_west in
    (evening-shifting, here, (answer-shifts user_rules west_evenings 0 max_west 1800 evening-shifting).0 here)

pub shift-fails : ShiftFails
shift-fails = (
  rw biased-offset-is (record { utc = omega arith; from = omega arith; to = omega arith }),
  rw biased-offset-is (record { utc = omega arith; from = omega arith; to = omega arith }),
  rw biased-offset-is (record { utc = omega arith; from = omega arith; to = omega arith }),
  evening-next 0 1800 (omega arith) known-days-in.3,
  evening-next cycle_minutes (cycle_minutes + 360) (omega arith) known-days-in.4,
)

pub both_ends : BothEnds
both_ends = (record { utc = omega arith; from = omega arith; to = omega arith }, record { utc = omega arith; from = omega arith; to = omega arith })

-- and the first ones, at +14:00, in UTC and at -12:00
pub both-starts : OnBoth 1560 0 × OnBoth max_west 0 × OnBoth 0 max_west
both-starts = (
  record { utc = omega arith; from = omega arith; to = omega arith },
  record { utc = omega arith; from = omega arith; to = omega arith },
  record { utc = omega arith; from = omega arith; to = omega arith },
)

-- A start may be the calendar's first minute, and the later answer its last, in UTC and, locally, at +14:00.
pub shift-reaches : Shifting max_west 0 4012991999 4223371679 × Shifting 1560 0 4012991159 4223370839
shift-reaches = (
  record {
    start = record { utc = omega arith; from = omega arith; to = omega arith };
    shifted = record { utc = omega arith; from = omega arith; to = omega arith };
    answer = record { utc = omega arith; from = omega arith; to = omega arith };
    other = record { utc = omega arith; from = omega arith; to = omega arith };
  },
  record {
    start = record { utc = omega arith; from = omega arith; to = omega arith };
    shifted = record { utc = omega arith; from = omega arith; to = omega arith };
    answer = record { utc = omega arith; from = omega arith; to = omega arith };
    other = record { utc = omega arith; from = omega arith; to = omega arith };
  },
)

-- ---- a fresh line

pub fresh_unmarked : FreshUnmarked
unfolding jobs_of
fresh_unmarked rules table room good enough = rw (init-good (table_of rules table) room good) (fresh-queue (jobs_of (table_of rules table)) (few rules table) room enough)

-- ---- a line that has a mark

midnight-good : refusal_in midnights ≡ 0
unfolding reading
midnight-good = refl

midnight-one : (jobs_of midnights).count ≡ 1
unfolding jobs_of reading
midnight-one = refl

midnight-fixed : (jobs_of midnights).fixed 0 ≡ true
unfolding jobs_of job_at zoning
midnight-fixed = refl

-- the entry is held back
nobody-joins : (m : Option ℕ) → m ≡ Some 1440 → (ticked (jobs_of midnights) 1440 (record { mark = m; waiting = [] })).waiting ≡ []
unfolding ticked joiners joins calls judged pick is_waiting
nobody-joins m e = rw (e, midnight-one, case-held 1440 1440 (omega arith) (omega arith), midnight-fixed, and-false (not ((jobs_of midnights).boot 0)))

after-mark : (room : List ℕ) → is_queue (count_in midnights) room ≡ true → (queue_of room).mark ≡ Some 1440 → (queue_of (announced midnights 1440 room)).waiting ≡ []
unfolding announced emptied refilled jobs_of
after-mark room line e =
    let step = tick-good midnights (stored (record { mark = (queue_of room).mark; waiting = [] }) room) midnight-good 1440 in
    ap (λ (s : Step (Result ℕ Refusal)). (queue_of s.room).waiting) step
    ∙ ap (λ (l : Queue). l.waiting) (announced-queue (jobs_of midnights) (few user_rules midnight_table) 1440 (omega arith) room line)
    ∙ nobody-joins (queue_of room).mark e

pub mark-needed : MarkNeeded
unfolding zoning joins_over is_waiting
mark-needed room line e = (refl, rw (after-mark room line e))
