-- A table's entries by number (T7, E6), or its refusal with line and column.
-- Assumes nothing.
use Rattle.std.specs.Prelude.{ℕ, ◌+◌, cond, List, [], get_or, set, replicate, ltb, Result, Ok, Err}
use Rattle.refusal.specs.declared.Refusal.{Refusal}
use Rattle.refusal.specs.Numbers.{number_of}
use Rattle.octets.specs.Runs.{between}
use Rattle.line.specs.declared.Rules.{Rules}
use Rattle.line.specs.declared.time.When.TheVariants.{Reboot}
use Rattle.crontab.specs.declared.entry.Entry.{Entry}
use Rattle.crontab.specs.declared.table.Table.{Table}
use Rattle.crontab.specs.declared.table.TableFault.{TableFault}
use Rattle.crontab.specs.Limits.{max_entries}
use Rattle.crontab.specs.Refusals.{no_such_entry}
use Rattle.line.specs.Offsets.{utc}
use Rattle.crontab.specs.Items.{Items, done, fault, setting, entry, items_of}

-- E6: fills the place of an entry that isn't there
abbrev pub blank_entry : Entry
blank_entry = record { when = Reboot; line = 0; at = 0; start = 0; end = 0; offset = utc }

-- T7: before the first entry is read
unfoldable pub no_entries : List Entry
no_entries = replicate max_entries blank_entry

-- T7: its refusal, line and column
unfoldable pub refused_table : Refusal → ℕ → ℕ → Result Table TableFault
refused_table refusal line column = Err (record { refusal = refusal; line = line; column = column })

-- T7: with no entry
unfoldable pub empty_table : Table
empty_table = record { count = 0; entries = no_entries }

-- T7: an entry more
unfoldable pub with_entry : Table → Entry → Table
with_entry t e = record { count = t.count + 1; entries = set t.entries t.count e }

-- T7: a good table with items more
unfoldable pub with_items : Table → Items → Result Table TableFault
with_items t done = Ok t
with_items t (fault refusal line column) = refused_table refusal line column
with_items t (setting line name value later) = with_items t later
with_items t (entry e later) = with_items (with_entry t e) later

-- T7, T8: any bytes as a table
unfoldable pub table_of : Rules → List ℕ → Result Table TableFault
table_of rules s = with_items empty_table (items_of rules s)

-- A8: the count of entries, or the fault
unfoldable pub verdict_of : Result Table TableFault → Result ℕ TableFault
verdict_of (Ok t) = Ok t.count
verdict_of (Err f) = Err f

-- ---- the parts of what is read, refused or not

-- A8: the number of the refusal, 0 if there is none
abbrev pub refusal_in : {A : Type 0} → Result A TableFault → ℕ
refusal_in (Ok t) = 0
refusal_in (Err f) = number_of f.refusal

-- A8: the line of the fault, 0 if there is none
abbrev pub line_in : {A : Type 0} → Result A TableFault → ℕ
line_in (Ok t) = 0
line_in (Err f) = f.line

-- A8: its column, 0 if there is none
abbrev pub column_in : {A : Type 0} → Result A TableFault → ℕ
column_in (Ok t) = 0
column_in (Err f) = f.column

-- T7: the count of entries; a refused table has none
abbrev pub count_in : Result Table TableFault → ℕ
count_in (Ok t) = t.count
count_in (Err f) = 0

-- T7: the entries; a refused table has none
abbrev pub table_entries : Result Table TableFault → List Entry
table_entries (Ok t) = t.entries
table_entries (Err f) = no_entries

-- ---- an entry by its number, and its command

-- E6, R13, R34: an entry by its number
unfoldable pub entry_in : Result Table TableFault → ℕ → Result Entry Refusal
entry_in (Ok t) i = cond (ltb i t.count) (Ok (get_or t.entries i blank_entry)) (Err no_such_entry)
entry_in (Err f) i = Err f.refusal

-- E5, R40: its raw command; empty if there is no such entry
unfoldable pub command_in : List ℕ → Result Entry Refusal → List ℕ
command_in s (Ok e) = between s e.start e.end
command_in s (Err refusal) = []
