-- N5 for an entry of a table: its next firing by asking of every minute. The refusals and their order are those of Firings. That `next`
-- answers this, for every table, is `next-by-clock` of proofs/Theorems.
-- Assumes nothing.
use Rattle.std.specs.Prelude.{ℕ, cond, leb, Result, Err, Ok}
use Rattle.refusal.specs.declared.Refusal.{Refusal}
use Rattle.calendar.specs.Refusals.{not_on_calendar}
use Rattle.calendar.specs.Dates.{last_minute}
use Rattle.schedule.specs.Local.{biased_offset}
use Rattle.schedule.specs.Clocks.{clock_after_in}
use Rattle.crontab.specs.declared.entry.Entry.{Entry}
use Rattle.crontab.specs.declared.table.Table.{Table}
use Rattle.crontab.specs.declared.table.TableFault.{TableFault}
use Rattle.crontab.specs.Refusals.{at_boot_only}
use Rattle.crontab.specs.Tables.{entry_in}
use Rattle.crontab.specs.Firings.{by_when}

-- N5, R34: R14, R15, then the walk with R16 and R17
unfoldable pub clock_of : Entry → ℕ → Result ℕ Refusal
clock_of e m = cond (leb m last_minute) (by_when e.when (Err at_boot_only) (λ s. clock_after_in s (biased_offset e.offset) m)) (Err not_on_calendar)

-- R34: an entry that isn't found has the table's refusal, or R13
unfoldable pub clock_answer : Result Entry Refusal → ℕ → Result ℕ Refusal
clock_answer (Ok e) m = clock_of e m
clock_answer (Err refusal) m = Err refusal

-- N5: an entry of a table, by its number
unfoldable pub clock_in : Result Table TableFault → ℕ → ℕ → Result ℕ Refusal
clock_in t i m = clock_answer (entry_in t i) m
