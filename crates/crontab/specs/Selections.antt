-- The entries of a table that a call of the queue selects, as a set of their numbers: the boot entries (Q2), or those that an announced
-- minute calls (Q3).
-- Assumes nothing.
use Rattle.std.specs.Prelude.{ℕ, Bool, false, cond, List, get_or, leb, ℤ, Option, None, Result, Ok, Err}
use Rattle.refusal.specs.declared.Refusal.{Refusal}
use Rattle.calendar.specs.Dates.{last_minute}
use Rattle.schedule.specs.Local.{biased_offset, local_date}
use Rattle.schedule.specs.Jumps.{judged}
use Rattle.octets.specs.BitSets.{bit_set_of}
use Rattle.crontab.specs.declared.entry.Entry.{Entry}
use Rattle.crontab.specs.declared.table.Table.{Table}
use Rattle.crontab.specs.declared.table.TableFault.{TableFault}
use Rattle.crontab.specs.declared.select.Selector.{Selector}
use Rattle.crontab.specs.declared.select.Selector.TheVariants.{AtBoot, At}
use Rattle.crontab.specs.declared.select.Selection.{Selection}
use Rattle.crontab.specs.Tables.{blank_entry}
use Rattle.crontab.specs.Firings.{is_boot, is_fixed, fires_at}
use Rattle.calendar.specs.declared.Date.{Date}

-- Q2, Q3, Q7: one entry, which matches by its local minute; none at a minute off the calendar
unfoldable pub is_selected : Selector → Entry → Bool
is_selected AtBoot e = is_boot e
is_selected (At minute case) e = cond (leb minute last_minute) (judged case (is_fixed e) (fires_at e) minute) false

-- O4: the local date of that minute under an offset, one for all entries under it
unfoldable pub date_under : Selector → ℤ → Option Date
date_under AtBoot offset = None
date_under (At minute case) offset = cond (leb minute last_minute) (local_date (biased_offset offset) minute) None

-- T1: a bit for each of 512 entries, in words of 64
abbrev pub bit_set_words : ℕ
bit_set_words = 8

-- Q2, Q3: the entries that pass a test, by number
unfoldable pub choice : (Entry → Bool) → List Entry → ℕ → Bool
choice p entries e = p (get_or entries e blank_entry)

-- Q2, Q3: the entries of a table that pass a test, or the table's refusal
unfoldable pub selected_by : (Entry → Bool) → Result Table TableFault → Result Selection Refusal
selected_by p (Ok t) = Ok (record { count = t.count; members = bit_set_of bit_set_words (choice p t.entries) t.count })
selected_by p (Err f) = Err f.refusal

-- Q2, Q3: the entries of a table that are selected
abbrev pub selected_in : Selector → Result Table TableFault → Result Selection Refusal
selected_in which t = selected_by (is_selected which) t
