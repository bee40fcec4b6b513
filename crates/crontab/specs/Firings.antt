-- One entry of a table: whether it is a boot entry, whether it is fixed (M6), whether it is due (M5), its next firing (N1). The order of
-- refusals is R34; `entry_in` of Tables has its first two.
-- Assumes nothing.
use Rattle.std.specs.Prelude.{ℕ, Bool, true, false, not, cond, ◌||◌, leb, Result, Ok, Err, Option}
use Rattle.refusal.specs.declared.Refusal.{Refusal}
use Rattle.calendar.specs.Refusals.{not_on_calendar}
use Rattle.calendar.specs.Dates.{last_minute}
use Rattle.schedule.specs.declared.Schedule.{Schedule}
use Rattle.schedule.specs.Local.{biased_offset, matches_in, matches_local, next_after_in}
use Rattle.line.specs.declared.time.When.{When}
use Rattle.line.specs.declared.time.When.TheVariants.{Reboot, Timed}
use Rattle.crontab.specs.declared.entry.Entry.{Entry}
use Rattle.crontab.specs.declared.table.Table.{Table}
use Rattle.crontab.specs.declared.table.TableFault.{TableFault}
use Rattle.crontab.specs.Refusals.{at_boot_only}
use Rattle.crontab.specs.Tables.{entry_in}
use Rattle.calendar.specs.declared.Date.{Date}

-- ---- an entry

-- M4: what holds of boot entries, and what of a schedule
abbrev pub by_when : {A : Type 0} → When → A → (Schedule → A) → A
by_when Reboot boot timed = boot
by_when (Timed s) boot timed = timed s

-- M4: a boot entry
unfoldable pub is_boot : Entry → Bool
is_boot e = by_when e.when true (λ s. false)

-- M6: by the star flags of minute and hour
unfoldable pub is_fixed : Entry → Bool
is_fixed e = by_when e.when false (λ s. not (s.stars.minutes || s.stars.hours))

-- M3, M4: an entry matches a local date
unfoldable pub fires_on : Entry → Option Date → Bool
fires_on e d = by_when e.when false (λ s. matches_local s d)

-- M3, M4: an entry matches a minute
unfoldable pub fires_at : Entry → ℕ → Bool
fires_at e m = by_when e.when false (λ s. matches_in s (biased_offset e.offset) m)

-- M5, R14: off the calendar locally is no, and no refusal (O5)
unfoldable pub due_of : Entry → ℕ → Result Bool Refusal
due_of e m = cond (leb m last_minute) (Ok (fires_at e m)) (Err not_on_calendar)

-- N1, R14, R15, and R16, R17 by its schedule: the next firing of an entry
unfoldable pub next_of : Entry → ℕ → Result ℕ Refusal
next_of e m = cond (leb m last_minute) (by_when e.when (Err at_boot_only) (λ s. next_after_in s (biased_offset e.offset) m)) (Err not_on_calendar)

-- ---- an entry of a table, by its number

-- R34: due, of an entry that is found or isn't
unfoldable pub due_answer : Result Entry Refusal → ℕ → Result Bool Refusal
due_answer (Ok e) m = due_of e m
due_answer (Err refusal) m = Err refusal

-- M5, R34: due, of an entry by its number
unfoldable pub due_in : Result Table TableFault → ℕ → ℕ → Result Bool Refusal
due_in t i m = due_answer (entry_in t i) m

-- R34: the next firing of an entry that is found or isn't
unfoldable pub next_answer : Result Entry Refusal → ℕ → Result ℕ Refusal
next_answer (Ok e) m = next_of e m
next_answer (Err refusal) m = Err refusal

-- N1, R34: the next firing of an entry by its number
unfoldable pub next_in : Result Table TableFault → ℕ → ℕ → Result ℕ Refusal
next_in t i m = next_answer (entry_in t i) m
