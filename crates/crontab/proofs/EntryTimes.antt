-- What an entry does goes by its time and its offset alone: where it is in its table doesn't matter, nor how long its command is.
-- Assumes nothing.
use mathlib.Core.Path.{◌≡◌, refl}
use mathlib.Core.Bool.{true, false, or-true}
use Prim.Native.Nat.{ℕ, ◌≤◌, ◌<◌}
use lib.IntN.{ℤ}
use borrow.Author.Tests.{le-leb, lt-leb}
use Rattle.std.specs.Prelude.{Err, Ok}
use Rattle.refusal.specs.declared.Refusal.TheVariants.{NotOnCalendar, AtBootOnly}
use Rattle.calendar.specs.Dates.{last_minute}
use Rattle.schedule.specs.declared.Schedule.{Schedule}
use Rattle.schedule.specs.Local.{biased_offset, matches_in, next_after_in}
use Rattle.schedule.specs.Jumps.{judged}
use Rattle.schedule.specs.declared.jump.Case.{Case}
use Rattle.line.specs.declared.time.When.{When}
use Rattle.line.specs.declared.time.When.TheVariants.{Reboot, Timed}
use Rattle.crontab.specs.declared.entry.Entry.{Entry}
use Rattle.crontab.specs.declared.select.Selector.TheVariants.{AtBoot, At}
use Rattle.crontab.specs.Firings.{is_boot, is_fixed, fires_at, due_of, next_of}
use Rattle.crontab.specs.Selections.{is_selected}

abbrev pub entry_of : When → ℕ → ℕ → ℕ → ℕ → ℤ → Entry
entry_of when line at start end offset = record { when = when; line = line; at = at; start = start; end = end; offset = offset }

module _ (line at start end : ℕ) (offset : ℤ) where
  -- an `@reboot` entry
  abbrev boot : Entry
  boot = entry_of Reboot line at start end offset

  pub boot-is : (is_boot boot ≡ true) × (is_fixed boot ≡ false)
  unfolding is_boot is_fixed
  boot-is = (refl, refl)

  pub boot-fires : (m : ℕ) → fires_at boot m ≡ false
  unfolding fires_at
  boot-fires m = refl

  pub boot-due : (m : ℕ) → m ≤ last_minute → (due_of boot m ≡ Ok false) × (next_of boot m ≡ Err AtBootOnly)
  unfolding due_of next_of fires_at
  boot-due m h = rw (le-leb m last_minute h) (refl, refl)

  -- any other
  module _ (s : Schedule) where
    abbrev timed : Entry
    timed = entry_of (Timed s) line at start end offset

    pub timed-is : is_boot timed ≡ false
    unfolding is_boot
    timed-is = refl

    -- fixed exactly if neither its minute nor its hour field begins with `*`
    pub fixed-is : (s.stars.minutes ≡ false → s.stars.hours ≡ false → is_fixed timed ≡ true)
        × (s.stars.minutes ≡ true → is_fixed timed ≡ false) × (s.stars.hours ≡ true → is_fixed timed ≡ false)
    unfolding is_fixed
    fixed-is = ((λ m h. rw (m, h)), (λ m. rw m), (λ h. rw (h, or-true s.stars.minutes)))

    pub timed-fires : (m : ℕ) → fires_at timed m ≡ matches_in s (biased_offset offset) m
    unfolding fires_at
    timed-fires m = refl

    pub timed-due : (m : ℕ) → m ≤ last_minute → due_of timed m ≡ Ok (matches_in s (biased_offset offset) m)
    unfolding due_of fires_at
    timed-due m h = rw (le-leb m last_minute h)

    pub timed-next : (m : ℕ) → m ≤ last_minute → next_of timed m ≡ next_after_in s (biased_offset offset) m
    unfolding next_of
    timed-next m h = rw (le-leb m last_minute h)

-- a minute off the calendar is 14, before 15
pub off-calendar : (e : Entry) (m : ℕ) → last_minute < m → (due_of e m ≡ Err NotOnCalendar) × (next_of e m ≡ Err NotOnCalendar)
unfolding due_of next_of
off-calendar e m h = rw (lt-leb m last_minute h) (refl, refl)

-- which entries a fresh queue and an announcement ask for
pub chosen_is : (e : Entry) (m : ℕ) (c : Case) → m ≤ last_minute → (is_selected AtBoot e ≡ is_boot e) × (is_selected (At m c) e ≡ judged c (is_fixed e) (fires_at e) m)
unfolding is_selected
chosen_is e m c h = (refl, rw (le-leb m last_minute h))
