-- What the claims about tables are made of, computed by table bytes: where it holds, and for each of its parts where it doesn't.
-- Assumes nothing.
use Rattle.std.specs.Prelude.{◌≡◌, refl, List, [], ◌∷◌, ℕ}
use Rattle.std.proofs.Common.{sym, true≢false, arith, le-leb}
use Rattle.octets.specs.Texts.{text}
use Rattle.octets.specs.Rows.{Hold}
use Rattle.octets.specs.Passing.{passing, passing_up_to}
use Rattle.crontab.specs.Computing.{zoning}
use Rattle.crontab.specs.Tables.{table_of}
use Rattle.crontab.specs.Firings.{next_of, next_answer, next_in}
use Rattle.fifo.specs.Steps.{refilled}
use Rattle.fifo.specs.Examples.{running}
use Rattle.runqueue.specs.Jobs.{job_at, jobs_of}
use Rattle.runqueue.specs.Calls.{tick_table}
use Rattle.runqueue.specs.Demand.{CanFire, bound_from, OnCalendar, bound_every_from, OnCalendarEvery}
use Rattle.runqueue.specs.Chain.{Chain, due_after, emptied, announced, joins_over, OnBoth, Shifting, user_rules}

-- ---- the minutes of a chain

-- those at which entry 0 is due, up to the calendar's end
abbrev last_due : List ℕ × ℕ → List ℕ
last_due (s, m) = due_after (table_of user_rules s) 0 m

due-after : Hold last_due
    (((text "* * * * * a\n", 4223371677), 4223371678 ∷ 4223371679 ∷ [])
    ∷ ((text "* * * * * a\n", 4223371679), [])
    ∷ ((text "*/2 * * * * a\n", 4223371676), 4223371678 ∷ [])
    ∷ ((text "@reboot a\n", 4223371677), [])
    -- a refused table, and one without the entry
    ∷ ((text "60\n", 4223371677), [])
    ∷ ((text "A=b\n", 4223371677), [])
    -- its own clock is past the calendar's end
    ∷ ((text "CRON_TZ=+00:01\n* * * * * a\n", 4223371677), 4223371678 ∷ [])
    ∷ [])
unfolding due_after passing passing_up_to zoning
due-after = refl

-- those whose announcement lets the entry join, of three from minute 59 on
abbrev unmarked : List ℕ → List ℕ
unmarked rest = 69 ∷ 82 ∷ 81 ∷ 49 ∷ 0 ∷ 0 ∷ 0 ∷ 0 ∷ rest

abbrev marked_at60 : List ℕ → List ℕ
marked_at60 rest = 69 ∷ 82 ∷ 81 ∷ 49 ∷ 61 ∷ 0 ∷ 0 ∷ 0 ∷ rest

abbrev joins_from59 : List ℕ × List ℕ → List ℕ
joins_from59 (s, room) = joins_over (table_of user_rules s) 0 3 59 room

joins-over : Hold joins_from59
    -- the queue is emptied before each, so that it joins again
    (((text "* * * * * a\n", unmarked (1 ∷ 0 ∷ 0 ∷ 0 ∷ [])), 59 ∷ 60 ∷ 61 ∷ [])
    ∷ ((text "0 1 * * * a\n", unmarked (0 ∷ 0 ∷ 0 ∷ 0 ∷ [])), 60 ∷ [])
    -- a mark of minute 60 holds a fixed entry back, and no other
    ∷ ((text "0 1 * * * a\n", marked_at60 (0 ∷ 0 ∷ 0 ∷ 0 ∷ [])), [])
    ∷ ((text "0 * * * * a\n", marked_at60 (0 ∷ 0 ∷ 0 ∷ 0 ∷ [])), 60 ∷ [])
    ∷ ((text "@reboot a\n", unmarked (0 ∷ 0 ∷ 0 ∷ 0 ∷ [])), [])
    -- too little room
    ∷ ((text "* * * * * a\n", unmarked (0 ∷ 0 ∷ 0 ∷ [])), [])
    ∷ [])
unfolding joins_over announced emptied refilled tick_table jobs_of job_at running zoning
joins-over = refl

-- ---- where the words of the claims don't hold

-- a boot entry, and no entry
cannot-fire : (CanFire user_rules (text "@reboot a\n") 0 → ⊥) × (CanFire user_rules (text "* * * * * a\n") 1 → ⊥) × (CanFire user_rules (text "60\n") 0 → ⊥)
unfolding jobs_of job_at zoning
cannot-fire = ((λ c. true≢false c.timed), (λ c. omega (arith, c.entry)), (λ c. omega (arith, c.entry)))

abbrev utc_table : List ℕ
utc_table = text "* * * * * a\n"

abbrev east_table : List ℕ
east_table = text "CRON_TZ=+14:00\n* * * * * a\n"

-- the bound of one entry: 21,036,960 + 180, with 720 more from before 1970 locally, and k minutes for a request every k
bounds :
    bound_from user_rules utc_table 0 0 ∷ bound_from user_rules east_table 0 0 ∷ bound_from user_rules (text "CRON_TZ=-12:00\n* * * * * a\n") 0 719
    ∷ bound_from user_rules (text "CRON_TZ=-12:00\n* * * * * a\n") 0 720 ∷ bound_every_from user_rules utc_table 1440 0 0 ∷ bound_from user_rules (text "@reboot a\n* * * * * b\n") 1 0 ∷ []
    ≡ 21037140 ∷ 21037140 ∷ 21037860 ∷ 21037140 ∷ 21038579 ∷ 21037141 ∷ []
unfolding jobs_of job_at zoning
bounds = refl

-- a minute too late, in UTC, and locally at +14:00
not-on-calendar :
    (OnCalendar user_rules utc_table 0 4202334540 → ⊥)
    × (OnCalendar user_rules east_table 0 4202333700 → ⊥)
    × (OnCalendarEvery user_rules utc_table 1440 0 4202333101 → ⊥)
    × (OnCalendarEvery user_rules east_table 1440 0 4202332261 → ⊥)
unfolding jobs_of job_at zoning
not-on-calendar = (
  (λ o. true≢false (sym (le-leb _ _ o.utc))),
  (λ o. true≢false (sym (le-leb _ _ o.local))),
  (λ o. true≢false (sym (le-leb _ _ o.utc))),
  (λ o. true≢false (sym (le-leb _ _ o.local))),
)

-- off the calendar in UTC, before 1970 locally, after 9999 locally
not-on-both : (OnBoth 720 4223371680 → ⊥) × (OnBoth 0 719 → ⊥) × (OnBoth 1560 4223370840 → ⊥)
not-on-both = ((λ o. omega (arith, o.utc)), (λ o. omega (arith, o.from)), (λ o. omega (arith, o.to)))

-- each of the four minutes: the start, the shifted one, the one answer and the other
not-shifting :
    (Shifting 0 719 720 720 → ⊥)
    × (Shifting 720 4012992000 0 0 → ⊥)
    × (Shifting 0 720 719 720 → ⊥)
    × (Shifting 720 0 0 4223371680 → ⊥)
not-shifting = (
  (λ s. omega (arith, s.start.from)),
  (λ s. omega (arith, s.shifted.utc)),
  (λ s. omega (arith, s.answer.from)),
  (λ s. omega (arith, s.other.utc)),
)

-- a boot entry has no next firing
not-chain : Chain (table_of user_rules (text "@reboot a\n")) 0 0 (1 ∷ []) → ⊥
unfolding next_in next_answer next_of zoning
not-chain c = let e = c.0 in let z : ◌≡◌ {A = ℕ} 0 1 = cc in omega arith
