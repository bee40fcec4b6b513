-- Every call by table bytes as a user's and as the system's, in both dialects: two tables that differ in one byte, of which each dialect takes one
-- and refuses the other. Weekdays 5-7 are Friday to Sunday in the first, 5-0 in the second. Before the entries are 300 empty lines, a comment, a
-- quoted setting and an offset; the name, the value, the command and its input are longer than 255 bytes, so that every answer which can be above 255
-- is. Above 65,535 can only be minutes: a table has at most 49,152 bytes and 512 entries.
-- Assumes nothing.
use Rattle.std.specs.Prelude.{refl, List, [], ◌∷◌, ◌++◌, ℕ, zero, suc, replicate}
use Rattle.octets.specs.Texts.{text}
use Rattle.octets.specs.Rows.{Hold}
use Rattle.records.specs.Calls.{record_fault}
use Rattle.reload.specs.Computing.{reloading}
use Rattle.eremothyn.specs.Calls.{check_call, fault_line_call, fault_column_call, due_call, entry_line_call, command_offset_call, command_length_call, firings_call, firings_run, merged_firings_call, merged_firings_minutes, merged_firings_entries, split_command_call, split_command_shell, split_command_input, stdin_length_call, user_offset_call, user_length_call, group_offset_call, group_length_call, class_offset_call, class_length_call, setting_name_offset_call, setting_name_length_call, setting_value_offset_call, setting_value_length_call, next_setting_call, normal_form_call, normal_form_text, compile_call, compile_records, decompile_call, decompile_text, queue_init_call, queue_init_room, queue_tick_call, queue_tick_room, queue_pop_call, queue_pop_room, queue_entry_call, queue_reload_call, queue_reload_room}
use Rattle.eremothyn.specs.Computing.{answering}

-- ---- the tables

-- the last weekday of the range, by the dialect
abbrev pub sunday : ℕ → List ℕ
sunday zero = text "7"
sunday (suc d) = text "0"

-- Line 302 has a name at byte 304 and a value at 608, line 303 an offset with its name at 911 and its value at 919. Entry 0 is on line 304, and entry 1
-- on line 305, which begins at byte 947; their user columns are at 934 and 960, and commands after those at 943 and 969.
abbrev long_table : ℕ → List ℕ
long_table dialect =
    replicate 300 10 ++ text "# c\n" ++ replicate 300 65 ++ text " = \"" ++ replicate 301 98 ++ text "\"\nCRON_TZ=+01:00\n@reboot u:gg/ccc a%b\n0 12 * * 5-" ++ sunday dialect
    ++ text " u:gg/ccc " ++ replicate 302 101 ++ text "%" ++ replicate 303 105 ++ text "\n"

-- ---- checks

abbrev checked : ℕ × ℕ × ℕ → List ℕ
checked (which, kind, dialect) =
    let s = long_table which in check_call s kind dialect ∷ fault_line_call s kind dialect ∷ fault_column_call s kind dialect ∷ []

-- a weekday 7 is 6 in the second dialect, and a range to 0 is 7 in the first, each at the element
checks : Hold checked
    (((0, 0, 0), 2 ∷ 0 ∷ 0 ∷ [])
    ∷ ((1, 0, 1), 2 ∷ 0 ∷ 0 ∷ [])
    ∷ ((0, 1, 0), 2 ∷ 0 ∷ 0 ∷ [])
    ∷ ((1, 1, 1), 2 ∷ 0 ∷ 0 ∷ [])
    ∷ ((0, 0, 1), 4294967302 ∷ 305 ∷ 10 ∷ [])
    ∷ ((0, 1, 1), 4294967302 ∷ 305 ∷ 10 ∷ [])
    ∷ ((1, 0, 0), 4294967303 ∷ 305 ∷ 10 ∷ [])
    ∷ ((1, 1, 0), 4294967303 ∷ 305 ∷ 10 ∷ [])
    ∷ [])
unfolding answering
checks = refl

-- ---- entries, settings and commands, by a kind and a dialect with that dialect's table

-- of an entry: its line, its command's place and length, the three parts of its user column, and its input's length
abbrev placed : ℕ × (ℕ × ℕ) → List ℕ
placed (i, (k, d)) =
    let s = long_table d in
    entry_line_call s k d i ∷ command_offset_call s k d i ∷ command_length_call s k d i
    ∷ user_offset_call s k d i ∷ user_length_call s k d i ∷ group_offset_call s k d i ∷ group_length_call s k d i ∷ class_offset_call s k d i ∷ class_length_call s k d i
    ∷ stdin_length_call s k d i ∷ []

-- in a user's table what looks like a user column belongs to the command
entries : Hold placed
    (((0, (0, 0)), 304 ∷ 934 ∷ 12 ∷ 0 ∷ 0 ∷ 0 ∷ 0 ∷ 0 ∷ 0 ∷ 1 ∷ [])
    ∷ ((0, (1, 1)), 304 ∷ 943 ∷ 3 ∷ 934 ∷ 1 ∷ 936 ∷ 2 ∷ 939 ∷ 3 ∷ 1 ∷ [])
    ∷ ((1, (0, 0)), 305 ∷ 960 ∷ 615 ∷ 0 ∷ 0 ∷ 0 ∷ 0 ∷ 0 ∷ 0 ∷ 303 ∷ [])
    ∷ ((1, (0, 1)), 305 ∷ 960 ∷ 615 ∷ 0 ∷ 0 ∷ 0 ∷ 0 ∷ 0 ∷ 0 ∷ 303 ∷ [])
    ∷ ((1, (1, 0)), 305 ∷ 969 ∷ 606 ∷ 960 ∷ 1 ∷ 962 ∷ 2 ∷ 965 ∷ 3 ∷ 303 ∷ [])
    ∷ ((1, (1, 1)), 305 ∷ 969 ∷ 606 ∷ 960 ∷ 1 ∷ 962 ∷ 2 ∷ 965 ∷ 3 ∷ 303 ∷ [])
    ∷ [])
unfolding answering
entries = refl

-- a setting's name and value by its line, and the next setting from that line on
abbrev shown : ℕ × (ℕ × ℕ) → List ℕ
shown (line, (k, d)) =
    let s = long_table d in
    setting_name_offset_call s k d line ∷ setting_name_length_call s k d line ∷ setting_value_offset_call s k d line ∷ setting_value_length_call s k d line
    ∷ next_setting_call s k d line ∷ []

settings : Hold shown
    (((302, (0, 0)), 304 ∷ 300 ∷ 608 ∷ 301 ∷ 302 ∷ [])
    ∷ ((302, (0, 1)), 304 ∷ 300 ∷ 608 ∷ 301 ∷ 302 ∷ [])
    ∷ ((302, (1, 0)), 304 ∷ 300 ∷ 608 ∷ 301 ∷ 302 ∷ [])
    ∷ ((302, (1, 1)), 304 ∷ 300 ∷ 608 ∷ 301 ∷ 302 ∷ [])
    ∷ ((303, (1, 1)), 911 ∷ 7 ∷ 919 ∷ 6 ∷ 303 ∷ [])
    -- the comment's line and an entry's: 19; the next setting is on line 302, or there is none
    ∷ ((301, (1, 0)), 4294967315 ∷ 4294967315 ∷ 4294967315 ∷ 4294967315 ∷ 302 ∷ [])
    ∷ ((304, (0, 1)), 4294967315 ∷ 4294967315 ∷ 4294967315 ∷ 4294967315 ∷ 4294967315 ∷ [])
    ∷ [])
unfolding answering
settings = refl

-- the command of entry 1 split, in buffers with two bytes more than it takes, and with one too few for either part: 18
abbrev split_into : ℕ × ℕ × (ℕ × ℕ) → ℕ × List ℕ × List ℕ
split_into (shell_size, input_size, (k, d)) =
    let s = long_table d in
    let shell : List ℕ = replicate shell_size 45 in
    let input : List ℕ = replicate input_size 61 in
    (split_command_call s k d 1 shell input, split_command_shell s k d 1 shell input, split_command_input s k d 1 shell input)

abbrev user_split : ℕ × List ℕ × List ℕ
user_split = (311, text "u:gg/ccc " ++ replicate 302 101 ++ text "--", replicate 303 105 ++ text "==")

abbrev system_split : ℕ × List ℕ × List ℕ
system_split = (302, replicate 302 101 ++ text "--", replicate 303 105 ++ text "==")

splits : Hold split_into
    (((313, 305, (0, 0)), user_split)
    ∷ ((313, 305, (0, 1)), user_split)
    ∷ ((304, 305, (1, 0)), system_split)
    ∷ ((304, 305, (1, 1)), system_split)
    ∷ ((310, 303, (0, 1)), (4294967314, replicate 310 45, replicate 303 61))
    ∷ ((302, 302, (1, 0)), (4294967314, replicate 302 45, replicate 302 61))
    ∷ [])
unfolding answering
splits = refl

-- ---- the normal text and the records, which have no kind: the same from either dialect's table, with bytes after them that stay

abbrev normal_text : List ℕ
normal_text =
    replicate 300 65 ++ text "=" ++ replicate 301 98 ++ text "\nCRON_TZ=+01:00\n@reboot u:gg/ccc a%b\n0 12 * * 0,5,6 u:gg/ccc " ++ replicate 302 101 ++ text "%" ++ replicate 303 105
    ++ text "\n"

-- each a length and a kind of two bytes, and a body: the setting, with its name's length, 300; the offset; the boot entry; and the other, of minute 0,
-- hour 12, all days and months, the weekdays 0, 5 and 6, with the stars of day and month
abbrev records : List ℕ
records =
    93 ∷ 2 ∷ 3 ∷ 0 ∷ 44 ∷ 1 ∷ replicate 300 65 ++ replicate 301 98
    ++ 17 ∷ 0 ∷ 4 ∷ 0 ∷ 7 ∷ 0 ∷ text "CRON_TZ+01:00"
    ++ 14 ∷ 0 ∷ 2 ∷ 0 ∷ text "u:gg/ccc a%b"
    ++ 125 ∷ 2 ∷ 1 ∷ 0 ∷ 1 ∷ 0 ∷ 0 ∷ 0 ∷ 0 ∷ 0 ∷ 0 ∷ 0 ∷ 0 ∷ 16 ∷ 0 ∷ 0 ∷ 254 ∷ 255 ∷ 255 ∷ 255 ∷ 254 ∷ 31 ∷ 97 ∷ 12
    ∷ text "u:gg/ccc " ++ replicate 302 101 ++ text "%" ++ replicate 303 105

abbrev written : ℕ → (ℕ × List ℕ) × (ℕ × List ℕ)
written d =
    let s = long_table d in (
      (normal_form_call s d (replicate 1272 45), normal_form_text s d (replicate 1272 45)),
      (compile_call s d (replicate 1283 45), compile_records s d (replicate 1283 45)),
    )

writes : Hold written
    ((0, ((1270, normal_text ++ text "--"), (1281, records ++ text "--")))
    ∷ (1, ((1270, normal_text ++ text "--"), (1281, records ++ text "--")))
    ∷ [])
unfolding answering
writes = refl

abbrev read_back : List ℕ × List ℕ → ℕ × List ℕ × ℕ
read_back (s, buffer) = (decompile_call s buffer, decompile_text s buffer, record_fault s)

unfoldable pub repeated : ℕ → List ℕ → List ℕ
repeated zero s = []
repeated (suc n) s = s ++ repeated n s

reads-back : Hold read_back
    (((records, replicate 1272 45), (1270, normal_text ++ text "--", 0))
    -- a bad record after 300 that are skipped
    ∷ ((repeated 300 (2 ∷ 0 ∷ 0 ∷ 128 ∷ []) ++ 2 ∷ 0 ∷ 5 ∷ 0 ∷ [], text "-"), (4294967319, text "-", 301))
    ∷ [])
unfolding answering repeated
reads-back = refl

-- ---- a short table of the same kind, for firings and the queue

abbrev pub short : ℕ → List ℕ
short dialect = text "# c\nA = 'b'\nCRON_TZ=+01:00\n@reboot u:g/c a%b\n0 12 * * 5-" ++ sunday dialect ++ text " u:g/c e%i\n"

-- ---- firings: 12:00 at +01:00 is 11:00 in UTC; day 50 is a Friday, and minute 72,660 its 11:00

abbrev due_at : ℕ × (ℕ × ℕ) → List ℕ
due_at (m, (k, d)) = let s = short d in due_call s k d 0 m ∷ due_call s k d 1 m ∷ []

-- a Thursday, Friday, Saturday, Sunday and Monday, and a minute later
due : Hold due_at
    (((71220, (0, 0)), 0 ∷ 0 ∷ [])
    ∷ ((72660, (0, 0)), 0 ∷ 1 ∷ [])
    ∷ ((74100, (0, 1)), 0 ∷ 1 ∷ [])
    ∷ ((75540, (1, 0)), 0 ∷ 1 ∷ [])
    ∷ ((75540, (1, 1)), 0 ∷ 1 ∷ [])
    ∷ ((76980, (1, 1)), 0 ∷ 0 ∷ [])
    ∷ ((72661, (1, 0)), 0 ∷ 0 ∷ [])
    ∷ [])
unfolding answering
due = refl

-- up to Friday's, in buffers of two: one firing, and what is after it stays; in empty ones none, and more remain
abbrev listed : ℕ × (ℕ × ℕ) → ℕ × List ℕ × (ℕ × List ℕ × List ℕ)
listed (size, (k, d)) =
    let s = short d in
    let run : List ℕ = replicate size 7 in (
      firings_call s k d 1 72659 72660 run,
      firings_run s k d 1 72659 72660 run,
      (
        merged_firings_call s k d 72659 72660 run run,
        merged_firings_minutes s k d 72659 72660 run run,
        merged_firings_entries s k d 72659 72660 run run,
      ),
    )

abbrev one_listed : ℕ × List ℕ × (ℕ × List ℕ × List ℕ)
one_listed = (1, 72660 ∷ 7 ∷ [], (1, 72660 ∷ 7 ∷ [], 1 ∷ 7 ∷ []))

lists : Hold listed
    (((2, (0, 0)), one_listed)
    ∷ ((2, (0, 1)), one_listed)
    ∷ ((2, (1, 0)), one_listed)
    ∷ ((2, (1, 1)), one_listed)
    ∷ ((0, (1, 1)), (8589934592, [], (8589934592, [], [])))
    ∷ [])
unfolding answering
lists = refl

-- ---- the queue: what each call answers, and the buffer after it, of which four bytes are more than two entries take

pub data Ask : Type 0 where
  init : Ask
  tick : ℕ → Ask
  pop : Ask
  look : ℕ → Ask

-- one after the other, each with the buffer that the last one left
unfoldable pub run : List ℕ → ℕ → ℕ → List ℕ → List Ask → List (ℕ × List ℕ)
run table k d buffer [] = []
run table k d buffer (init ∷ asks) =
    let after = queue_init_room table k d buffer in (queue_init_call table k d buffer, after) ∷ run table k d after asks
run table k d buffer (tick minute ∷ asks) =
    let after = queue_tick_room table k d buffer minute in (queue_tick_call table k d buffer minute, after) ∷ run table k d after asks
run table k d buffer (pop ∷ asks) =
    let after = queue_pop_room table k d buffer in (queue_pop_call table k d buffer, after) ∷ run table k d after asks
run table k d buffer (look place ∷ asks) = (queue_entry_call table k d buffer place, buffer) ∷ run table k d buffer asks

-- the format number, the mark plus one, and the rest
abbrev pub unmarked : List ℕ → List ℕ
unmarked rest = 69 ∷ 82 ∷ 81 ∷ 49 ∷ 0 ∷ 0 ∷ 0 ∷ 0 ∷ rest

-- minute 72,660 is kept as 72,661
abbrev pub marked : List ℕ → List ℕ
marked rest = 69 ∷ 82 ∷ 81 ∷ 49 ∷ 213 ∷ 27 ∷ 1 ∷ 0 ∷ rest

abbrev queued : ℕ × ℕ → List (ℕ × List ℕ)
queued (k, d) = run (short d) k d (replicate 18 7) (init ∷ tick 72660 ∷ look 1 ∷ look 2 ∷ pop ∷ pop ∷ pop ∷ tick 72660 ∷ [])

abbrev queued_run : List (ℕ × List ℕ)
queued_run =
    (1, unmarked (1 ∷ 0 ∷ 0 ∷ 0 ∷ 7 ∷ 7 ∷ 7 ∷ 7 ∷ 7 ∷ 7 ∷ []))
    ∷ (1, marked (2 ∷ 0 ∷ 0 ∷ 0 ∷ 1 ∷ 0 ∷ 7 ∷ 7 ∷ 7 ∷ 7 ∷ []))
    ∷ (1, marked (2 ∷ 0 ∷ 0 ∷ 0 ∷ 1 ∷ 0 ∷ 7 ∷ 7 ∷ 7 ∷ 7 ∷ []))
    ∷ (4294967296, marked (2 ∷ 0 ∷ 0 ∷ 0 ∷ 1 ∷ 0 ∷ 7 ∷ 7 ∷ 7 ∷ 7 ∷ []))
    ∷ (0, marked (1 ∷ 0 ∷ 1 ∷ 0 ∷ 1 ∷ 0 ∷ 7 ∷ 7 ∷ 7 ∷ 7 ∷ []))
    ∷ (1, marked (0 ∷ 0 ∷ 1 ∷ 0 ∷ 1 ∷ 0 ∷ 7 ∷ 7 ∷ 7 ∷ 7 ∷ []))
    ∷ (4294967296, marked (0 ∷ 0 ∷ 1 ∷ 0 ∷ 1 ∷ 0 ∷ 7 ∷ 7 ∷ 7 ∷ 7 ∷ []))
    -- the entry is fixed, and the marked minute doesn't call it again
    ∷ (0, marked (0 ∷ 0 ∷ 1 ∷ 0 ∷ 1 ∷ 0 ∷ 7 ∷ 7 ∷ 7 ∷ 7 ∷ []))
    ∷ []

queues : Hold queued (((0, 0), queued_run) ∷ ((0, 1), queued_run) ∷ ((1, 0), queued_run) ∷ ((1, 1), queued_run) ∷ [])
unfolding run answering
queues = refl

-- a reload: the same entries in another order after a third, spelled otherwise, with the offset after the boot entry
abbrev turned : ℕ → List ℕ
turned dialect =
    text "@reboot  u:g/c z\n@reboot  u:g/c  a%b\nCRON_TZ='+01:00'\n00 12 * * 5-" ++ sunday dialect ++ text "  u:g/c  e%i\n"

abbrev reloaded : ℕ × ℕ → ℕ × List ℕ
reloaded (k, d) =
    let buffer = marked (2 ∷ 0 ∷ 1 ∷ 0 ∷ 0 ∷ 0 ∷ 7 ∷ 7 ∷ 7 ∷ 7 ∷ []) in
    (queue_reload_call (short d) (turned d) k d buffer, queue_reload_room (short d) (turned d) k d buffer)

-- in a user's table the blanks between belong to the command, so that neither stays
reloads : Hold reloaded
    (((0, 0), (0, marked (0 ∷ 0 ∷ 1 ∷ 0 ∷ 0 ∷ 0 ∷ 7 ∷ 7 ∷ 7 ∷ 7 ∷ [])))
    ∷ ((0, 1), (0, marked (0 ∷ 0 ∷ 1 ∷ 0 ∷ 0 ∷ 0 ∷ 7 ∷ 7 ∷ 7 ∷ 7 ∷ [])))
    ∷ ((1, 0), (2, marked (2 ∷ 0 ∷ 2 ∷ 0 ∷ 1 ∷ 0 ∷ 7 ∷ 7 ∷ 7 ∷ 7 ∷ [])))
    ∷ ((1, 1), (2, marked (2 ∷ 0 ∷ 2 ∷ 0 ∷ 1 ∷ 0 ∷ 7 ∷ 7 ∷ 7 ∷ 7 ∷ [])))
    ∷ [])
unfolding answering reloading
reloads = refl
