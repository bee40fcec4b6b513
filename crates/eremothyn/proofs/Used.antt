-- Theorems of C's numbers that nothing else uses, used: the last entry of a system table in the second dialect, the calendar's last minute, a run that is longer
-- than a date, and the last of the known days. An added hypothesis, or a part less of a conclusion, breaks one of these.
-- Assumes nothing.
use Rattle.std.specs.Prelude.{Some}
use mathlib.Core.Path.{◌≡◌}
use mathlib.Core.List.{List, [], ◌∷◌}
use Prim.Native.Nat.{ℕ, ◌+◌, ◌≤◌, ◌<◌}
use lib.ListN.{length}
use Rattle.std.specs.Prelude.{Ok, IsOk}
use Rattle.octets.specs.Texts.{text}
use Rattle.octets.specs.Runs.{between}
use Rattle.octets.specs.OverFront.{over_front}
use Rattle.crontab.specs.declared.entry.Entry.{Entry}
use Rattle.crontab.specs.Tables.{table_of, entry_in, command_in}
use Rattle.command.specs.Parts.{input_of}
use Rattle.eremothyn.specs.declared.dates.DatePart.TheVariants.{Year, Month, Day, Hour, Minute, Weekday}
use Rattle.eremothyn.specs.Rules.{rules_of}
use Rattle.eremothyn.specs.Dates.{date_part, date_written, date_run}
use Rattle.eremothyn.specs.Calls.{command_offset_call, command_length_call, next_call}
use mathlib.Core.Bool.{false}
use Rattle.eremothyn.specs.Answer.{is_refused}
use Rattle.eremothyn.proofs.Theorems.{known-days, command-placed, date-parts, next-near}

pub command-last : (table : List ℕ) (e : Entry) → entry_in (table_of (rules_of 1 1) table) 511 ≡ Ok e
    → between table (command_offset_call table 1 1 511) (command_offset_call table 1 1 511 + command_length_call table 1 1 511) ≡ command_in table (entry_in (table_of (rules_of 1 1) table) 511)
command-last table e found = command-placed (rules_of 1 1) table 511 e found

pub date-last : (run : List ℕ) → 6 < length run → IsOk (date_written 4223371679 run)
    → date_run 4223371679 run
    ≡ over_front
    (date_part 4223371679 Year ∷ date_part 4223371679 Month ∷ date_part 4223371679 Day ∷ date_part 4223371679 Hour ∷ date_part 4223371679 Minute ∷ date_part 4223371679 Weekday ∷ []) run
date-last run longer granted = date-parts 4223371679 run granted

-- three of the eighteen, by their places: the seventh, the ninth and the last
pub known-all :
    (next_call (text "30 4 1,15 * 5 a\n") 0 0 0 270 ≡ 1710)
    × (next_call (text "0 0 30 2 1 a\n") 0 0 0 0 ≡ 46080)
    × (input_of (text "a\\%b%c%%d%") ≡ Some (text "c\n\nd\n"))
known-all = (known-days.6, known-days.8, known-days.17)

-- next-near: from the last minute after which there is one
pub near_last : (table : List ℕ) (kind dialect entry : ℕ)
    → let answer = next_call table kind dialect entry 4223371678 in is_refused answer ≡ false → answer ≤ 4244408638
near_last table kind dialect entry granted = next-near table kind dialect entry 4223371678 granted
