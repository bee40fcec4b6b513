-- The refusals of a table, an entry or a setting of it. R2 to R11, R20, R25 and R27 are a line's, R14 is the calendar's,
-- R16 and R17 are the schedule's.
-- Assumes nothing.
use Rattle.refusal.specs.declared.Refusal.{Refusal}
use Rattle.refusal.specs.declared.Refusal.TheVariants.{TableTooLong, TooManyEntries, NoSuchEntry, AtBootOnly, NoSetting, CutTable}

-- R1: too many bytes
abbrev pub table_too_long : Refusal
table_too_long = TableTooLong

-- R12: too many entries
abbrev pub too_many_entries : Refusal
too_many_entries = TooManyEntries

-- R13: no entry of that number
abbrev pub no_such_entry : Refusal
no_such_entry = NoSuchEntry

-- R15: the next firing of a boot entry
abbrev pub at_boot_only : Refusal
at_boot_only = AtBootOnly

-- R19: no such setting
abbrev pub no_setting : Refusal
no_setting = NoSetting

-- R26: the last byte isn't a newline
abbrev pub cut_table : Refusal
cut_table = CutTable
