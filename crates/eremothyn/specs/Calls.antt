-- Every call of the header that takes a table or records: what it answers, and what each buffer holds after it, by its parameters in the
-- header's order and by nothing else (A7, A13). The contracts cite these, and so do the worked tables of Examples.
-- Assumes nothing.
use Rattle.std.specs.Prelude.{ℕ, List}
use Rattle.crontab.specs.Items.{items_of}
use Rattle.crontab.specs.Tables.{table_of, entry_in, column_in, line_in}
use Rattle.crontab.specs.Owners.{owner_in}
use Rattle.crontab.specs.Settings.{setting_in, next_line_in}
use Rattle.crontab.specs.Firings.{due_in, next_in}
use Rattle.normal.specs.NormalForms.{normal_form}
use Rattle.records.specs.Calls.{compiled, decompiled}
use Rattle.firings.specs.Calls.{firings_in, merged_in}
use Rattle.runqueue.specs.Calls.{init_table, tick_table, pop_table, entry_table}
use Rattle.reload.specs.Calls.{reload_tables}
use Rattle.eremothyn.specs.declared.entries.Place.TheVariants.{Line, CommandOffset, CommandLength}
use Rattle.eremothyn.specs.declared.settings.Shown.TheVariants.{NameOffset, NameLength, ValueOffset, ValueLength}
use Rattle.eremothyn.specs.declared.owners.Owned.TheVariants.{UserOffset, UserLength, GroupOffset, GroupLength, ClassOffset, ClassLength}
use Rattle.eremothyn.specs.Rules.{dialect_of, rules_of}
use Rattle.eremothyn.specs.Tables.{check_number}
use Rattle.eremothyn.specs.Entries.{due_number, next_number, place_number}
use Rattle.eremothyn.specs.Commands.{split_number, split_of, stdin_length}
use Rattle.eremothyn.specs.Owners.{owner_number}
use Rattle.eremothyn.specs.Settings.{setting_number, line_number}
use Rattle.eremothyn.specs.NormalForms.{normal_number}
use Rattle.eremothyn.specs.Queue.{tick_number, pop_number}
use Rattle.eremothyn.specs.Lists.{filled_number}

-- ---- a table

-- A8: the count of entries
abbrev pub check_call : List ℕ → ℕ → ℕ → ℕ
check_call table kind dialect = check_number (table_of (rules_of kind dialect) table)

-- A8: the line of its fault
abbrev pub fault_line_call : List ℕ → ℕ → ℕ → ℕ
fault_line_call table kind dialect = line_in (table_of (rules_of kind dialect) table)

-- A8: the column of its fault
abbrev pub fault_column_call : List ℕ → ℕ → ℕ → ℕ
fault_column_call table kind dialect = column_in (table_of (rules_of kind dialect) table)

-- ---- an entry of it

-- M5, A1: whether an entry is due
abbrev pub due_call : List ℕ → ℕ → ℕ → ℕ → ℕ → ℕ
due_call table kind dialect entry minute = due_number (due_in (table_of (rules_of kind dialect) table) entry minute)

-- N1, A1: an entry's next firing
abbrev pub next_call : List ℕ → ℕ → ℕ → ℕ → ℕ → ℕ
next_call table kind dialect entry minute = next_number (next_in (table_of (rules_of kind dialect) table) entry minute)

-- E7: an entry's line
abbrev pub entry_line_call : List ℕ → ℕ → ℕ → ℕ → ℕ
entry_line_call table kind dialect entry = place_number (entry_in (table_of (rules_of kind dialect) table) entry) Line

-- E7, A10: where an entry's command starts
abbrev pub command_offset_call : List ℕ → ℕ → ℕ → ℕ → ℕ
command_offset_call table kind dialect entry = place_number (entry_in (table_of (rules_of kind dialect) table) entry) CommandOffset

-- E7, A10: its length
abbrev pub command_length_call : List ℕ → ℕ → ℕ → ℕ → ℕ
command_length_call table kind dialect entry = place_number (entry_in (table_of (rules_of kind dialect) table) entry) CommandLength

-- ---- lists of firings

-- I3, A4: how many firings of an entry
abbrev pub firings_call : List ℕ → ℕ → ℕ → ℕ → ℕ → ℕ → List ℕ → ℕ
firings_call table kind dialect entry a b run = filled_number (firings_in (table_of (rules_of kind dialect) table) entry a b run).answer

-- I1, I3: the buffer after it
abbrev pub firings_run : List ℕ → ℕ → ℕ → ℕ → ℕ → ℕ → List ℕ → List ℕ
firings_run table kind dialect entry a b run = (firings_in (table_of (rules_of kind dialect) table) entry a b run).run

-- I3, A4: how many firings of a table
abbrev pub merged_firings_call : List ℕ → ℕ → ℕ → ℕ → ℕ → List ℕ → List ℕ → ℕ
merged_firings_call table kind dialect a b minutes entries = filled_number (merged_in (table_of (rules_of kind dialect) table) a b minutes entries).answer

-- I2, I4: the buffer of minutes after it
abbrev pub merged_firings_minutes : List ℕ → ℕ → ℕ → ℕ → ℕ → List ℕ → List ℕ → List ℕ
merged_firings_minutes table kind dialect a b minutes entries = (merged_in (table_of (rules_of kind dialect) table) a b minutes entries).minutes

-- I2, I4: the buffer of entries after it
abbrev pub merged_firings_entries : List ℕ → ℕ → ℕ → ℕ → ℕ → List ℕ → List ℕ → List ℕ
merged_firings_entries table kind dialect a b minutes entries = (merged_in (table_of (rules_of kind dialect) table) a b minutes entries).entries

-- ---- commands

-- K6, A11: the length of the shell line
abbrev pub split_command_call : List ℕ → ℕ → ℕ → ℕ → List ℕ → List ℕ → ℕ
split_command_call table kind dialect entry shell input = split_number (split_of (rules_of kind dialect) table entry shell input).answer

-- K6: the buffer of the shell line after it
abbrev pub split_command_shell : List ℕ → ℕ → ℕ → ℕ → List ℕ → List ℕ → List ℕ
split_command_shell table kind dialect entry shell input = (split_of (rules_of kind dialect) table entry shell input).shell

-- K6: the buffer of the input after it
abbrev pub split_command_input : List ℕ → ℕ → ℕ → ℕ → List ℕ → List ℕ → List ℕ
split_command_input table kind dialect entry shell input = (split_of (rules_of kind dialect) table entry shell input).input

-- A3, A11: the length of the input
abbrev pub stdin_length_call : List ℕ → ℕ → ℕ → ℕ → ℕ
stdin_length_call table kind dialect entry = stdin_length (rules_of kind dialect) table entry

-- ---- the user column

-- U4, A10: where the user starts
abbrev pub user_offset_call : List ℕ → ℕ → ℕ → ℕ → ℕ
user_offset_call table kind dialect entry = owner_number (owner_in (rules_of kind dialect) table entry) UserOffset

-- U4, A10: its length
abbrev pub user_length_call : List ℕ → ℕ → ℕ → ℕ → ℕ
user_length_call table kind dialect entry = owner_number (owner_in (rules_of kind dialect) table entry) UserLength

-- U4, A10: where the group starts
abbrev pub group_offset_call : List ℕ → ℕ → ℕ → ℕ → ℕ
group_offset_call table kind dialect entry = owner_number (owner_in (rules_of kind dialect) table entry) GroupOffset

-- U4, A10: its length
abbrev pub group_length_call : List ℕ → ℕ → ℕ → ℕ → ℕ
group_length_call table kind dialect entry = owner_number (owner_in (rules_of kind dialect) table entry) GroupLength

-- U4, A10: where the class starts
abbrev pub class_offset_call : List ℕ → ℕ → ℕ → ℕ → ℕ
class_offset_call table kind dialect entry = owner_number (owner_in (rules_of kind dialect) table entry) ClassOffset

-- U4, A10: its length
abbrev pub class_length_call : List ℕ → ℕ → ℕ → ℕ → ℕ
class_length_call table kind dialect entry = owner_number (owner_in (rules_of kind dialect) table entry) ClassLength

-- ---- settings

-- S8, A10: where the name starts
abbrev pub setting_name_offset_call : List ℕ → ℕ → ℕ → ℕ → ℕ
setting_name_offset_call table kind dialect line = setting_number (setting_in (items_of (rules_of kind dialect) table) line) NameOffset

-- S8, A10: its length
abbrev pub setting_name_length_call : List ℕ → ℕ → ℕ → ℕ → ℕ
setting_name_length_call table kind dialect line = setting_number (setting_in (items_of (rules_of kind dialect) table) line) NameLength

-- S8, A10: where the value starts
abbrev pub setting_value_offset_call : List ℕ → ℕ → ℕ → ℕ → ℕ
setting_value_offset_call table kind dialect line = setting_number (setting_in (items_of (rules_of kind dialect) table) line) ValueOffset

-- S8, A10: its length
abbrev pub setting_value_length_call : List ℕ → ℕ → ℕ → ℕ → ℕ
setting_value_length_call table kind dialect line = setting_number (setting_in (items_of (rules_of kind dialect) table) line) ValueLength

-- S9: the line of the next setting
abbrev pub next_setting_call : List ℕ → ℕ → ℕ → ℕ → ℕ
next_setting_call table kind dialect line = line_number (next_line_in (items_of (rules_of kind dialect) table) line)

-- ---- the normal form

-- P9, A12: the length of the normal form
abbrev pub normal_form_call : List ℕ → ℕ → List ℕ → ℕ
normal_form_call table dialect text = normal_number (normal_form (dialect_of dialect) table text).answer

-- P9: the buffer after it
abbrev pub normal_form_text : List ℕ → ℕ → List ℕ → List ℕ
normal_form_text table dialect text = (normal_form (dialect_of dialect) table text).buffer

-- ---- records

-- B7, A12: the length of the records
abbrev pub compile_call : List ℕ → ℕ → List ℕ → ℕ
compile_call table dialect records = normal_number (compiled (dialect_of dialect) table records).answer

-- B7: the buffer after it
abbrev pub compile_records : List ℕ → ℕ → List ℕ → List ℕ
compile_records table dialect records = (compiled (dialect_of dialect) table records).buffer

-- B11: the length of the text
abbrev pub decompile_call : List ℕ → List ℕ → ℕ
decompile_call records text = normal_number (decompiled records text).answer

-- B11: the buffer after it
abbrev pub decompile_text : List ℕ → List ℕ → List ℕ
decompile_text records text = (decompiled records text).buffer

-- ---- the queue

-- Q2: how many wait
abbrev pub queue_init_call : List ℕ → ℕ → ℕ → List ℕ → ℕ
queue_init_call table kind dialect room = tick_number (init_table (table_of (rules_of kind dialect) table) room).answer

-- Q2: the buffer after it
abbrev pub queue_init_room : List ℕ → ℕ → ℕ → List ℕ → List ℕ
queue_init_room table kind dialect room = (init_table (table_of (rules_of kind dialect) table) room).room

-- Q3: how many joined
abbrev pub queue_tick_call : List ℕ → ℕ → ℕ → List ℕ → ℕ → ℕ
queue_tick_call table kind dialect room minute = tick_number (tick_table (table_of (rules_of kind dialect) table) minute room).answer

-- Q3: the buffer after it
abbrev pub queue_tick_room : List ℕ → ℕ → ℕ → List ℕ → ℕ → List ℕ
queue_tick_room table kind dialect room minute = (tick_table (table_of (rules_of kind dialect) table) minute room).room

-- Q9, A3: the front entry
abbrev pub queue_pop_call : List ℕ → ℕ → ℕ → List ℕ → ℕ
queue_pop_call table kind dialect room = pop_number (pop_table (table_of (rules_of kind dialect) table) room).answer

-- Q9: the buffer after it
abbrev pub queue_pop_room : List ℕ → ℕ → ℕ → List ℕ → List ℕ
queue_pop_room table kind dialect room = (pop_table (table_of (rules_of kind dialect) table) room).room

-- Q10, A3: the entry at a place
abbrev pub queue_entry_call : List ℕ → ℕ → ℕ → List ℕ → ℕ → ℕ
queue_entry_call table kind dialect room place = pop_number (entry_table (table_of (rules_of kind dialect) table) place room)

-- L5: how many are queued
abbrev pub queue_reload_call : List ℕ → List ℕ → ℕ → ℕ → List ℕ → ℕ
queue_reload_call old new kind dialect room = tick_number (reload_tables (rules_of kind dialect) old new room).answer

-- L4: the buffer after it
abbrev pub queue_reload_room : List ℕ → List ℕ → ℕ → ℕ → List ℕ → List ℕ
queue_reload_room old new kind dialect room = (reload_tables (rules_of kind dialect) old new room).room
