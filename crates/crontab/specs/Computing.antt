-- All that a table is read by, under one name: an example that is computed says `unfolding reading`.
-- Assumes nothing.
use Rattle.refusal.specs.Numbers.{number_of}
use Rattle.schedule.specs.Computing.{firing}
use Rattle.line.specs.Computing as line
use Rattle.crontab.specs.Items.{after_line, last_fault, items_from, items_of}
use Rattle.crontab.specs.Tables.{no_entries, refused_table, empty_table, with_entry, with_items, table_of, entry_in, command_in}
use Rattle.crontab.specs.Settings.{name_in, value_in, setting_from, setting_in, line_or, next_line_from, next_line_in}
use Rattle.crontab.specs.Firings.{is_boot, is_fixed, fires_on, fires_at, due_of, due_answer, due_in}
use Rattle.crontab.specs.Lines.{onto, lines_of, is_cut, is_last}
use Rattle.crontab.specs.Owners.{shifted, owner_from, owner_of, owner_answer}

unfoldable pub reading : Unit {0}
unfolding line.reading number_of onto lines_of is_cut is_last after_line last_fault items_from items_of no_entries refused_table empty_table with_entry with_items table_of
    entry_in command_in name_in value_in setting_from setting_in line_or next_line_from next_line_in shifted owner_from owner_of owner_answer
reading = tt

-- and all that an entry is due by
unfoldable pub zoning : Unit {0}
unfolding reading firing is_boot is_fixed fires_on fires_at due_of due_answer due_in
zoning = tt
