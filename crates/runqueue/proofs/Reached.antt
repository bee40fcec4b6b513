-- The bound of the third demand is met exactly: `0 0 29 2 */7`, held back at one of its minutes, is named by the last request.
-- Assumes nothing.
use mathlib.Core.Path.{◌≡◌, refl, ◌∙◌}
use mathlib.Core.Bool.{true, false}
use mathlib.Core.List.{List, []}
use Prim.Native.Nat.{ℕ, ◌+◌, ◌-◌, ◌≤◌, ◌<◌}
use native.Mathlib.Nat.{lt_of_not-le}
use native.Mathlib.Decide.{dec_le}
use native.Mathlib.Omega.{arith}
use lib.ListN.{take}
use lib.IntN.{pos}
use borrow.Author.Tests.{leb-true}
use Rattle.std.specs.Prelude.{Ok, Some}
use Rattle.octets.specs.Texts.{text}
use Rattle.octets.proofs.Search.{none_passes}
use Rattle.calendar.specs.Dates.{last_minute}
use Rattle.schedule.specs.Examples as schedule
use Rattle.schedule.specs.Local.{matches_in, next_after_in}
use Rattle.schedule.specs.Jumps.{case_of, judged, mark_after}
use Rattle.schedule.proofs.Theorems.{gap-reached, utc-next, next-is-in, case-after, case-held}
use Rattle.line.specs.declared.Rules.{Rules}
use Rattle.field.specs.declared.Dialect.TheVariants.{Rising}
use Rattle.line.specs.declared.Kind.TheVariants.{User}
use Rattle.line.specs.declared.time.When.TheVariants.{Timed}
use Rattle.crontab.specs.declared.entry.Entry.{Entry}
use Rattle.crontab.specs.Computing.{reading}
use Rattle.crontab.specs.Tables.{table_of}
use Rattle.crontab.specs.Firings.{is_boot, is_fixed, fires_at}
use Rattle.fifo.specs.Queues.{is_waiting, pick}
use Rattle.fifo.specs.Layout.{roomy}
use Rattle.fifo.specs.Steps.{Jobs, fresh, calls, joins, joiners, ticked, behind, popped}
use Rattle.fifo.specs.Fairness.{up_to, Names, marks}
use Rattle.fifo.specs.Buffer.{call_on, calls_on, buffer_after_all, started}
use Rattle.fifo.specs.Steady.{steady}
use Rattle.fifo.proofs.Theorems.{steady-consecutive, held_stays, outrun, quiet, two_run}
use Rattle.runqueue.specs.Jobs.{job_at, jobs_of}
use Rattle.runqueue.specs.Demand.{jobs_in, CanFire, OnCalendar, bound_from, OnCalendarEvery, bound_every_from, leap_sundays, HoldReached}
use Rattle.runqueue.proofs.TableJobs.{few}
use Rattle.runqueue.proofs.TableFair.{table-fair-steady}

abbrev jobs : Jobs
jobs = jobs_in (record { kind = User; dialect = Rising }) leap_sundays

-- ---- the table

entry : Entry
entry = record { when = Timed schedule.leap_sundays; line = 1; at = 0; start = 13; end = 14; offset = pos 0 }

count-is : jobs.count ≡ 1
unfolding jobs_of reading
count-is = refl

entry-is : job_at (table_of (record { kind = User; dialect = Rising }) leap_sundays) 0 ≡ entry
unfolding job_at entry reading schedule.schedules
entry-is = refl

timed : jobs.boot 0 ≡ false
unfolding jobs_of is_boot entry
timed = rw entry-is

fixed : jobs.fixed 0 ≡ true
unfolding jobs_of is_fixed entry schedule.schedules
fixed = rw entry-is

matched : (m : ℕ) → jobs.matches 0 m ≡ matches_in schedule.leap_sundays 720 m
unfolding jobs_of fires_at entry
matched m = rw entry-is

-- ---- its minutes

-- it fires in 2088 and then in 2128
next-is : next_after_in schedule.leap_sundays 720 62147520 ≡ Ok 83184480
next-is = utc-next schedule.leap_sundays 62147520 ∙ gap-reached

silent : (m : ℕ) → 62147520 < m → m < 83184480 → jobs.matches 0 m ≡ false
silent m h k = matched m ∙ (next-is-in schedule.leap_sundays 720 62147520 83184480 next-is).3 m h k

fires-first : jobs.matches 0 62147520 ≡ true
unfolding schedule.schedules
fires-first = matched 62147520

-- ---- none of the minutes before the last calls it

-- up to the mark it is held
held : (j : ℕ) → j < 180 → calls jobs (marks (Some 62147520) 62147341 j) (62147341 + j) 0 ≡ false
unfolding calls judged
held j h =
    rw (held_stays j 62147520 62147341 (omega arith) (omega arith), case-held 62147520 (62147341 + j) (omega arith) (omega arith), fixed)

-- behind it no minute matches
unmatched : (j : ℕ) → 180 ≤ j → j < 21037139 → calls jobs (marks (Some 62147520) 62147341 j) (62147341 + j) 0 ≡ false
unfolding calls judged
unmatched j h k =
    rw (outrun (Some 62147520) 62147340 j h, case-after (62147340 + j) (62147341 + j) (omega arith) (omega arith), fixed)
    (none_passes (jobs.matches 0) (62147340 + j) (62147341 + j) (λ m u v. silent m (omega arith) (omega arith)))

uncalled : (j : ℕ) → j < 21037139 → (x : ℕ) → x < jobs.count → calls jobs (marks (Some 62147520) 62147341 j) (62147341 + j) x ≡ false
uncalled j k x b =
    let one : x ≡ 0 = omega (arith, count-is) in
    rw one (elim (dec_le 180 j) [ yes h ↦ unmatched j h k | no h ↦ held j (lt_of_not-le h) ])

-- ---- the line when they begin: nobody waits, and the mark is the first minute

begins : popped (ticked jobs 62147520 (fresh jobs)) ≡ record { mark = Some 62147520; waiting = [] }
unfolding popped behind ticked joiners joins calls judged mark_after case_of fresh pick is_waiting
begins = rw (count-is, timed, fires-first)

-- ---- the claim

can-fire : CanFire (record { kind = User; dialect = Rising }) leap_sundays 0
unfolding entry schedule.schedules
can-fire =
    record {
      entry = omega (arith, count-is);
      timed = timed;
      minute = 62147520;
      cycle = omega arith;
      matched = rw entry-is;
    }

bound-is : bound_from (record { kind = User; dialect = Rising }) leap_sundays 0 62147340 ≡ 21037140
unfolding entry
bound-is = rw (count-is, entry-is)

on-calendar : OnCalendar (record { kind = User; dialect = Rising }) leap_sundays 0 62147340
unfolding entry
on-calendar = record { utc = rw bound-is (omega arith); local = rw (bound-is, entry-is) (omega arith) }

-- for any numbers, so that nothing is computed so often
none_before : (size : ℕ) (buffer : List ℕ) (n k : ℕ) → roomy 1 (take size buffer) ≡ true → 62147340 + n ≤ last_minute → 0 < k → k ≤ 21037139
    → Names jobs 0 (up_to k (calls_on jobs (buffer_after_all jobs (started jobs size buffer) (steady size 62147520 1)) (steady size 62147341 n))) → ⊥
unfolding calls_on call_on steady
none_before size buffer n k r end some h =
    let small = few (record { kind = User; dialect = Rising }) leap_sundays in
    let room : roomy jobs.count (take size buffer) ≡ true = rw count-is r in
    let first = steady size 62147520 1 in
    let second = calls_on jobs (buffer_after_all jobs (started jobs size buffer) first) (steady size 62147341 n) in
    let run = two_run jobs small size buffer room 62147519 1 62147340 n (omega arith) end in
    let consecutive = (steady-consecutive jobs 62147340 n size buffer first small room end).1 in
    quiet jobs 0 second (Some 62147520) 62147341 n k true (λ j b. uncalled j (omega arith)) (λ z. absurd (omega (arith, z))) (rw begins at run.1) consecutive

pub limit-reached : HoldReached
limit-reached size buffer r =
    let rules : Rules = record { kind = User; dialect = Rising } in
    let n = bound_from rules leap_sundays 0 62147340 in
    let room : roomy jobs.count (take size buffer) ≡ true = rw count-is r in (
      can-fire,
      on-calendar,
      omega (arith, bound-is),
      table-fair-steady rules leap_sundays 0 62147340 size buffer (steady size 62147520 1) can-fire room on-calendar,
      none_before size buffer n (n - 1) r on-calendar.utc (omega (arith, bound-is)) (omega (arith, bound-is)),
    )

-- The demand's last minute may be the calendar's last, 4,223,371,679; at +14:00, where that is the last locally, the one 840 minutes sooner.
pub demand-ends :
    OnCalendar (record { kind = User; dialect = Rising }) (text "* * * * * a\n") 0 (4223371679 - 21037140)
    × OnCalendar (record { kind = User; dialect = Rising }) (text "CRON_TZ=+14:00\n* * * * * a\n") 0 (4223370839 - 21037140)
unfolding jobs_of job_at reading
demand-ends = (record { utc = leb-true _ _ refl; local = leb-true _ _ refl }, record { utc = leb-true _ _ refl; local = leb-true _ _ refl })

-- The demand's bound: 720 minutes are added where t falls before 1970 locally, and nowhere else; and a minute for each entry but one. And t may be
-- the calendar's first minute, before 1970 locally too.
pub demand-begins :
    let rules : Rules = record { kind = User; dialect = Rising } in
    let west = text "CRON_TZ=-12:00\n* * * * * a\n" in
    let east = text "CRON_TZ=+14:00\n* * * * * a\n" in
    let three = text "* * * * * a\n@reboot b\n* * * * * c\n" in
    (bound_from rules west 0 719 ≡ 21037860)
    × (bound_from rules west 0 720 ≡ 21037140)
    × (bound_from rules east 0 0 ≡ 21037140)
    × (bound_from rules three 2 0 ≡ 21037142)
    × OnCalendar rules west 0 0
    × OnCalendar rules east 0 0
    × OnCalendar rules three 2 0
unfolding jobs_of job_at reading
demand-begins = (
  refl,
  refl,
  refl,
  refl,
  record { utc = leb-true _ _ refl; local = leb-true _ _ refl },
  record { utc = leb-true _ _ refl; local = leb-true _ _ refl },
  record { utc = leb-true _ _ refl; local = leb-true _ _ refl },
)

-- With a request once a day, k = 1,440, the last minute may be the calendar's last, too, and locally; 720 minutes are added where t falls before 1970
-- locally; each entry adds k minutes.
pub every-ends :
    let rules : Rules = record { kind = User; dialect = Rising } in
    let west = text "CRON_TZ=-12:00\n* * * * * a\n" in
    let three = text "* * * * * a\n@reboot b\n* * * * * c\n" in
    OnCalendarEvery rules (text "* * * * * a\n") 1440 0 (4223371679 - 21038579)
    × OnCalendarEvery rules (text "CRON_TZ=+14:00\n* * * * * a\n") 1440 0 (4223370839 - 21038579)
    × (bound_every_from rules west 1440 0 719 ≡ 21039299)
    × (bound_every_from rules west 1440 0 720 ≡ 21038579)
    × (bound_every_from rules three 1440 2 0 ≡ 21041459)
unfolding jobs_of job_at reading
every-ends = (
  record { utc = leb-true _ _ refl; local = leb-true _ _ refl },
  record { utc = leb-true _ _ refl; local = leb-true _ _ refl },
  refl,
  refl,
  refl,
)
