-- What C callers get: each composed definition by table bytes, as rows of what is asked and what
-- comes back. 4294967296 and n is refusal n.
-- Assumes nothing.
use Rattle.std.specs.Prelude.{◌≡◌, refl, List, [], ◌∷◌, ◌++◌, true, false, ℕ, zero, suc, ◌+◌, ◌-◌, replicate, Ok}
use Rattle.octets.specs.Texts.{text}
use Rattle.octets.specs.Rows.{Hold}
use Rattle.crontab.specs.Limits.{max_table}
use Rattle.records.specs.Calls.{record_fault}
use Rattle.reload.specs.Computing.{reloading}
use Rattle.firings.specs.declared.Filled.TheVariants.{All, More}
use Rattle.eremothyn.specs.declared.dates.DatePart.TheVariants.{Year, Month, Day, Hour, Minute, Weekday}
use Rattle.eremothyn.specs.Answer.{is_refused}
use Rattle.eremothyn.specs.Dates.{date_part, date_minute, date_answer, date_run}
use Rattle.eremothyn.specs.Calls.{check_call, fault_line_call, fault_column_call, due_call, next_call, entry_line_call, command_offset_call, command_length_call, firings_call, firings_run, merged_firings_call, merged_firings_minutes, merged_firings_entries, split_command_call, split_command_shell, split_command_input, stdin_length_call, user_offset_call, user_length_call, group_offset_call, group_length_call, class_offset_call, class_length_call, setting_name_offset_call, setting_name_length_call, setting_value_offset_call, setting_value_length_call, next_setting_call, normal_form_call, normal_form_text, compile_call, compile_records, decompile_call, decompile_text, queue_init_call, queue_init_room, queue_tick_call, queue_tick_room, queue_pop_call, queue_pop_room, queue_entry_call, queue_reload_call, queue_reload_room}
use Rattle.eremothyn.specs.Lists.{filled_number}
use Rattle.eremothyn.specs.Computing.{answering}

-- ---- which answers are refusals

-- "nothing waits" and counts are none, and neither are counts where more remain
refusals : Hold is_refused
    ((0, false)
    ∷ (4294967295, false)
    ∷ (4294967296, false)
    ∷ (4294967297, true)
    ∷ (4294967324, true)
    ∷ (4294967551, true)
    ∷ (8589934592, false)
    ∷ (12884901887, false)
    ∷ [])
unfolding is_refused
refusals = refl

-- ---- dates

abbrev all_parts : ℕ → List ℕ
all_parts m = date_part m Year ∷ date_part m Month ∷ date_part m Day ∷ date_part m Hour ∷ date_part m Minute ∷ date_part m Weekday ∷ []

dates : Hold all_parts
    -- 9999-12-31 23:59, a Friday, and the minute after it, 14
    ((4223371679, 9999 ∷ 12 ∷ 31 ∷ 23 ∷ 59 ∷ 5 ∷ [])
    ∷ (4223371680, 4294967310 ∷ 4294967310 ∷ 4294967310 ∷ 4294967310 ∷ 4294967310 ∷ 4294967310 ∷ [])
    ∷ [])
unfolding answering
dates = refl

-- a date whole, at the front of a run
abbrev dated_on : ℕ × List ℕ → ℕ × List ℕ
dated_on (m, room) = (date_answer m room, date_run m room)

whole-dates : Hold dated_on
    -- 2000-02-29 04:30, a Tuesday; the numbers after them stay
    (((15863310, 1 ∷ 2 ∷ 3 ∷ 4 ∷ 5 ∷ 6 ∷ 7 ∷ 8 ∷ []), (6, 2000 ∷ 2 ∷ 29 ∷ 4 ∷ 30 ∷ 2 ∷ 7 ∷ 8 ∷ []))
    -- a run of six, and one of five: 18; 14 comes before it
    ∷ ((4223371679, 1 ∷ 2 ∷ 3 ∷ 4 ∷ 5 ∷ 6 ∷ []), (6, 9999 ∷ 12 ∷ 31 ∷ 23 ∷ 59 ∷ 5 ∷ []))
    ∷ ((4223371679, 1 ∷ 2 ∷ 3 ∷ 4 ∷ 5 ∷ []), (4294967314, 1 ∷ 2 ∷ 3 ∷ 4 ∷ 5 ∷ []))
    ∷ ((4223371680, 1 ∷ 2 ∷ 3 ∷ 4 ∷ 5 ∷ 6 ∷ 7 ∷ []), (4294967310, 1 ∷ 2 ∷ 3 ∷ 4 ∷ 5 ∷ 6 ∷ 7 ∷ []))
    ∷ ((4223371680, []), (4294967310, []))
    ∷ ((0, []), (4294967314, []))
    ∷ [])
unfolding answering
whole-dates = refl

abbrev minute_on : ℕ × ℕ × ℕ × ℕ × ℕ → ℕ
minute_on (year, month, day, hour, minute) = date_minute year month day hour minute

minutes : Hold minute_on
    -- 29 February of 2096 and of 2100
    (((2096, 2, 29, 0, 0), 66355200)
    ∷ ((2100, 2, 29, 0, 0), 4294967310)
    -- half past four on the first day, and the calendar's last minute
    ∷ ((1970, 1, 1, 4, 30), 270)
    ∷ ((9999, 12, 31, 23, 59), 4223371679)
    -- dates that don't exist: the hour 24, the minute 60, the day 0, the months 0 and 13
    ∷ ((1970, 1, 1, 24, 0), 4294967310)
    ∷ ((1970, 1, 1, 0, 60), 4294967310)
    ∷ ((1970, 1, 0, 0, 0), 4294967310)
    ∷ ((1970, 0, 1, 0, 0), 4294967310)
    ∷ ((1970, 13, 1, 0, 0), 4294967310)
    ∷ [])
unfolding answering
minutes = refl

-- ---- tables: the answer of a check, and the line and the column of its fault

abbrev checked : List ℕ → List ℕ
checked s = check_call s 0 0 ∷ fault_line_call s 0 0 ∷ fault_column_call s 0 0 ∷ []

tables : Hold checked
    ((text "@reboot x\n0 * * * * y\n", 2 ∷ 0 ∷ 0 ∷ [])
    -- 60 as a minute, on line 2 at column 3: 6
    ∷ (text "\n  60 0 * * * x\n", 4294967302 ∷ 2 ∷ 3 ∷ [])
    -- O2: an hour of one digit, at the value: R25
    ∷ (text "A=b\nCRON_TZ = +1:00\n", 4294967321 ∷ 2 ∷ 11 ∷ [])
    -- R26, R27: a last line without a newline, but for the empty table; a control byte; both, and each with another fault
    ∷ (text "@reboot x\n0 * * * * y", 4294967322 ∷ 2 ∷ 12 ∷ [])
    ∷ ([], 0 ∷ 0 ∷ 0 ∷ [])
    ∷ (text "@reboot x\r\n", 4294967323 ∷ 1 ∷ 10 ∷ [])
    ∷ (text "@reboot x\r\n@reboot y", 4294967323 ∷ 1 ∷ 10 ∷ [])
    ∷ (text "@reboot x\n60 * * * * y", 4294967302 ∷ 2 ∷ 1 ∷ [])
    ∷ [])
unfolding answering
tables = refl

-- ---- A6: a table is a user table if its kind is 0, else a system table

-- of an entry, where user, group and class start, and how long each is
abbrev watch : List ℕ
watch = text "A=b\n@reboot u:gh x\n0 * * * * v/c y\n"

abbrev owned : ℕ × ℕ → List ℕ
owned (kind, i) =
    user_offset_call watch kind 0 i ∷ user_length_call watch kind 0 i ∷ group_offset_call watch kind 0 i ∷ group_length_call watch kind 0 i
    ∷ class_offset_call watch kind 0 i ∷ class_length_call watch kind 0 i ∷ []

owners : Hold owned
    (((1, 0), 12 ∷ 1 ∷ 14 ∷ 2 ∷ 0 ∷ 0 ∷ [])
    ∷ ((18446744073709551615, 1), 29 ∷ 1 ∷ 0 ∷ 0 ∷ 31 ∷ 1 ∷ [])
    -- a user table has no user; no such entry: 13
    ∷ ((0, 0), 0 ∷ 0 ∷ 0 ∷ 0 ∷ 0 ∷ 0 ∷ [])
    ∷ ((1, 2), 4294967309 ∷ 4294967309 ∷ 4294967309 ∷ 4294967309 ∷ 4294967309 ∷ 4294967309 ∷ [])
    ∷ [])
unfolding answering
owners = refl

-- the check of a table by its kind, and the line and the column of its fault
abbrev checked_as : ℕ × List ℕ → List ℕ
checked_as (kind, s) = check_call s kind 0 ∷ fault_line_call s kind 0 ∷ fault_column_call s kind 0 ∷ []

kinds : Hold checked_as
    -- 20 at the user, 9 after it; a user table has neither
    (((1, text "@reboot x\n"), 4294967305 ∷ 1 ∷ 10 ∷ [])
    ∷ ((1, text "\n@reboot -a x\n"), 4294967316 ∷ 2 ∷ 9 ∷ [])
    ∷ ((2, text "@reboot a x\n"), 1 ∷ 0 ∷ 0 ∷ [])
    -- every number but 0 is the system's, one whose low 8 or 32 bits are 0 too
    ∷ ((256, text "@reboot x\n"), 4294967305 ∷ 1 ∷ 10 ∷ [])
    ∷ ((4294967296, text "@reboot x\n"), 4294967305 ∷ 1 ∷ 10 ∷ [])
    ∷ ((0, text "@reboot -a x\n"), 1 ∷ 0 ∷ 0 ∷ [])
    -- R26, R27: a system table's, too
    ∷ ((1, text "@reboot a x"), 4294967322 ∷ 1 ∷ 12 ∷ [])
    ∷ ((1, text "@reboot a\rx\n"), 4294967323 ∷ 1 ∷ 10 ∷ [])
    ∷ [])
unfolding answering
kinds = refl

-- ---- A6: a table is in the rising dialect if that is 0, else in the wrapping one

-- the check of a table by its kind and dialect, and the line and the column of its fault
abbrev checked_in : ℕ × (ℕ × List ℕ) → List ℕ
checked_in (kind, (dialect, s)) = check_call s kind dialect ∷ fault_line_call s kind dialect ∷ fault_column_call s kind dialect ∷ []

dialects : Hold checked_in
    -- from high to low: 7, or over midnight
    (((0, (0, text "0 22-3 * * * x\n")), 4294967303 ∷ 1 ∷ 3 ∷ [])
    ∷ ((0, (1, text "0 22-3 * * * x\n")), 1 ∷ 0 ∷ 0 ∷ [])
    ∷ ((0, (18446744073709551615, text "0 22-3 * * * x\n")), 1 ∷ 0 ∷ 0 ∷ [])
    ∷ ((0, (256, text "0 22-3 * * * x\n")), 1 ∷ 0 ∷ 0 ∷ [])
    ∷ ((0, (4294967296, text "0 22-3 * * * x\n")), 1 ∷ 0 ∷ 0 ∷ [])
    -- with a user between, in either
    ∷ ((1, (0, text "0 22-3 * * * u x\n")), 4294967303 ∷ 1 ∷ 3 ∷ [])
    ∷ ((1, (1, text "0 22-3 * * * u x\n")), 1 ∷ 0 ∷ 0 ∷ [])
    ∷ ((1, (1, text "0 22-3 * * * u\n")), 4294967305 ∷ 1 ∷ 15 ∷ [])
    -- a weekday 7: Sunday, or 6
    ∷ ((0, (0, text "0 0 * * 7 x\n")), 1 ∷ 0 ∷ 0 ∷ [])
    ∷ ((0, (1, text "0 0 * * 7 x\n")), 4294967302 ∷ 1 ∷ 9 ∷ [])
    ∷ [])
unfolding answering
dialects = refl

-- every call heeds both numbers, the kind first: a table that is good as a user's in the second dialect, and refused with 9 as the system's
-- there, with 7 in the first
abbrev heeding : List ℕ
heeding = text "0 22-3 * * * x\n"

abbrev room : List ℕ
room = replicate 12 0

abbrev heeded : ℕ × ℕ → List ℕ
heeded (k, d) =
    check_call heeding k d ∷ fault_line_call heeding k d ∷ fault_column_call heeding k d ∷ due_call heeding k d 0 1320 ∷ next_call heeding k d 1 0
    ∷ firings_call heeding k d 0 1319 1320 (7 ∷ []) ∷ merged_firings_call heeding k d 1319 1320 (7 ∷ []) (7 ∷ [])
    ∷ entry_line_call heeding k d 0 ∷ command_offset_call heeding k d 0 ∷ command_length_call heeding k d 0
    ∷ split_command_call heeding k d 0 (7 ∷ []) [] ∷ stdin_length_call heeding k d 0
    ∷ user_offset_call heeding k d 0 ∷ user_length_call heeding k d 0 ∷ group_offset_call heeding k d 0 ∷ group_length_call heeding k d 0
    ∷ class_offset_call heeding k d 0 ∷ class_length_call heeding k d 0
    ∷ setting_name_offset_call heeding k d 1 ∷ setting_name_length_call heeding k d 1 ∷ setting_value_offset_call heeding k d 1
    ∷ setting_value_length_call heeding k d 1 ∷ next_setting_call heeding k d 1
    ∷ queue_init_call heeding k d room ∷ queue_tick_call heeding k d room 0 ∷ queue_pop_call heeding k d room ∷ queue_entry_call heeding k d room 0
    ∷ queue_reload_call heeding heeding k d room ∷ []

-- what each lent run holds then
abbrev lent : ℕ × ℕ → List (List ℕ)
lent (k, d) =
    firings_run heeding k d 0 1319 1320 (7 ∷ []) ∷ merged_firings_minutes heeding k d 1319 1320 (7 ∷ []) (7 ∷ [])
    ∷ merged_firings_entries heeding k d 1319 1320 (7 ∷ []) (7 ∷ []) ∷ split_command_shell heeding k d 0 (7 ∷ []) []
    ∷ split_command_input heeding k d 0 (7 ∷ []) (7 ∷ []) ∷ []

heed : Hold heeded
    (((0, 1), 1 ∷ 0 ∷ 0 ∷ 1 ∷ 4294967309 ∷ 1 ∷ 1 ∷ 1 ∷ 13 ∷ 1 ∷ 1 ∷ 4294967296 ∷ replicate 6 0 ++ replicate 5 4294967315 ++ 0 ∷ replicate 4 4294967324)
    ∷ ((1, 1), 4294967305 ∷ 1 ∷ 15 ∷ replicate 25 4294967305)
    ∷ ((1, 0), 4294967303 ∷ 1 ∷ 3 ∷ replicate 25 4294967303)
    -- numbers whose low 32 bits are 0 are another kind and dialect, too
    ∷ ((0, 4294967296), 1 ∷ 0 ∷ 0 ∷ 1 ∷ 4294967309 ∷ 1 ∷ 1 ∷ 1 ∷ 13 ∷ 1 ∷ 1 ∷ 4294967296 ∷ replicate 6 0 ++ replicate 5 4294967315 ++ 0 ∷ replicate 4 4294967324)
    ∷ ((4294967296, 4294967296), 4294967305 ∷ 1 ∷ 15 ∷ replicate 25 4294967305)
    ∷ [])
unfolding answering reloading
heed = refl

heed-lent : Hold lent
    (((0, 1), (1320 ∷ []) ∷ (1320 ∷ []) ∷ (0 ∷ []) ∷ text "x" ∷ (7 ∷ []) ∷ [])
    ∷ ((1, 1), replicate 5 (7 ∷ []))
    ∷ ((1, 0), replicate 5 (7 ∷ []))
    ∷ [])
unfolding answering
heed-lent = refl

-- an input, the normal text, the records; and buffers, which hold a fresh queue, an empty one, and one in which the entry waits
abbrev giving : List ℕ
giving = text "0 22-3 * * * x%y\n"

abbrev line_with : List ℕ → List ℕ
line_with waiting = 69 ∷ 82 ∷ 81 ∷ 49 ∷ 0 ∷ 0 ∷ 0 ∷ 0 ∷ waiting

abbrev lent_more : ℕ × ℕ → List (List ℕ)
lent_more (k, d) =
    split_command_input giving k d 0 (7 ∷ []) (7 ∷ [])
    ∷ queue_init_room heeding k d (replicate 13 7)
    ∷ queue_tick_room heeding k d (line_with (0 ∷ 0 ∷ 7 ∷ 7 ∷ [])) 1320
    ∷ queue_pop_room heeding k d (line_with (1 ∷ 0 ∷ 0 ∷ 0 ∷ []))
    ∷ queue_reload_room heeding giving k d (line_with (1 ∷ 0 ∷ 0 ∷ 0 ∷ []))
    ∷ []

-- the mark of minute 1320 is 1321; bytes after a queue stay
heed-more : Hold lent_more
    ((
      (0, 1),
      text "y"
          ∷ (line_with (0 ∷ 0 ∷ 7 ∷ 7 ∷ 7 ∷ []))
          ∷ (69 ∷ 82 ∷ 81 ∷ 49 ∷ 41 ∷ 5 ∷ 0 ∷ 0 ∷ 1 ∷ 0 ∷ 0 ∷ 0 ∷ [])
          ∷ (line_with (0 ∷ 0 ∷ 0 ∷ 0 ∷ []))
          ∷ (line_with (0 ∷ 0 ∷ 0 ∷ 0 ∷ []))
          ∷ [],
    )
    ∷ (
      (1, 1),
      (7 ∷ []) ∷ replicate 13 7 ∷ line_with (0 ∷ 0 ∷ 7 ∷ 7 ∷ []) ∷ line_with (1 ∷ 0 ∷ 0 ∷ 0 ∷ []) ∷ line_with (1 ∷ 0 ∷ 0 ∷ 0 ∷ []) ∷ [],
    )
    ∷ (
      (1, 0),
      (7 ∷ []) ∷ replicate 13 7 ∷ line_with (0 ∷ 0 ∷ 7 ∷ 7 ∷ []) ∷ line_with (1 ∷ 0 ∷ 0 ∷ 0 ∷ []) ∷ line_with (1 ∷ 0 ∷ 0 ∷ 0 ∷ []) ∷ [],
    )
    ∷ [])
unfolding answering reloading
heed-more = refl

-- the normal text and the records of the same table by the dialect, with a byte after them: 7 in the first
abbrev written_in : ℕ → (ℕ × List ℕ) × (ℕ × List ℕ)
written_in d = (
  (normal_form_call heeding d (replicate 25 45), normal_form_text heeding d (replicate 25 45)),
  (compile_call heeding d (replicate 26 45), compile_records heeding d (replicate 26 45)),
)

abbrev in_second : (ℕ × List ℕ) × (ℕ × List ℕ)
in_second = (
  (24, text "0 0,1,2,3,22,23 * * * x\n-"),
  (
    25,
    23 ∷ 0 ∷ 1 ∷ 0 ∷ 1 ∷ 0 ∷ 0 ∷ 0 ∷ 0 ∷ 0 ∷ 0 ∷ 0 ∷ 15 ∷ 0 ∷ 192 ∷ 0 ∷ 254 ∷ 255 ∷ 255 ∷ 255 ∷ 254 ∷ 31 ∷ 127 ∷ 28 ∷ text "x-",
  ),
)

heed-written : Hold written_in
    ((0, ((4294967303, replicate 25 45), (4294967303, replicate 26 45)))
    ∷ (1, in_second)
    ∷ (4294967296, in_second)
    ∷ [])
unfolding answering
heed-written = refl

-- ---- numbers are heeded whole: one whose low 8, 16 or 32 bits are those of an entry, a minute, a line or a place is none

abbrev few : List ℕ
few = text "A=b\n0 * * * * x%y\n"

abbrev few_room : List ℕ
few_room = line_with (1 ∷ 0 ∷ 0 ∷ 0 ∷ [])

-- no such entry: 13
abbrev by_entry : ℕ → List ℕ
by_entry i =
    due_call few 0 0 i 60 ∷ next_call few 0 0 i 60 ∷ entry_line_call few 0 0 i ∷ command_offset_call few 0 0 i ∷ command_length_call few 0 0 i
    ∷ firings_call few 0 0 i 0 60 (7 ∷ []) ∷ split_command_call few 0 0 i (7 ∷ []) (7 ∷ []) ∷ stdin_length_call few 0 0 i
    ∷ user_offset_call few 0 0 i ∷ user_length_call few 0 0 i ∷ group_offset_call few 0 0 i ∷ group_length_call few 0 0 i
    ∷ class_offset_call few 0 0 i ∷ class_length_call few 0 0 i ∷ []

wide-entries : by_entry 4294967296 ≡ replicate 14 4294967309
unfolding answering
wide-entries = refl

-- a minute that isn't on the calendar: 14
abbrev by_minute : ℕ → List ℕ
by_minute m =
    due_call few 0 0 0 m ∷ next_call few 0 0 0 m ∷ queue_tick_call few 0 0 few_room m
    ∷ firings_call few 0 0 0 m 120 (7 ∷ []) ∷ firings_call few 0 0 0 0 m (7 ∷ [])
    ∷ merged_firings_call few 0 0 m 120 (7 ∷ []) (7 ∷ []) ∷ merged_firings_call few 0 0 0 m (7 ∷ []) (7 ∷ []) ∷ []

wide-minutes : by_minute 4294967356 ≡ replicate 7 4294967310
unfolding answering
wide-minutes = refl

-- no such line: 19; nothing waits at such a place
abbrev by_line : ℕ → List ℕ
by_line n =
    setting_name_offset_call few 0 0 n ∷ setting_name_length_call few 0 0 n ∷ setting_value_offset_call few 0 0 n ∷ setting_value_length_call few 0 0 n
    ∷ next_setting_call few 0 0 n ∷ []

wide-lines : (by_line 4294967297 ≡ replicate 5 4294967315) × (queue_entry_call few 0 0 few_room 4294967296 ≡ 4294967296)
unfolding answering
wide-lines = (refl, refl)

-- and no lent number or byte changes
wide-lent :
    (firings_run few 0 0 4294967296 0 60 (7 ∷ []) ∷ firings_run few 0 0 0 4294967296 60 (7 ∷ []) ∷ firings_run few 0 0 0 0 4294967356 (7 ∷ [])
    ∷ merged_firings_minutes few 0 0 4294967296 60 (7 ∷ []) (7 ∷ []) ∷ merged_firings_entries few 0 0 4294967296 60 (7 ∷ []) (7 ∷ [])
    ∷ merged_firings_minutes few 0 0 0 4294967356 (7 ∷ []) (7 ∷ []) ∷ merged_firings_entries few 0 0 0 4294967356 (7 ∷ []) (7 ∷ [])
    ∷ split_command_shell few 0 0 4294967296 (7 ∷ []) (7 ∷ []) ∷ split_command_input few 0 0 4294967296 (7 ∷ []) (7 ∷ [])
    ∷ [])
    ≡ replicate 9 (7 ∷ [])
unfolding answering
wide-lent = refl

wide_room : queue_tick_room few 0 0 (line_with (0 ∷ 0 ∷ 7 ∷ 7 ∷ [])) 4294967356 ≡ line_with (0 ∷ 0 ∷ 7 ∷ 7 ∷ [])
unfolding answering
wide_room = refl

-- ---- answers above 255, which aren't cut

abbrev newlines : List ℕ
newlines = replicate 300 10

-- lines and columns of faults and entries, and the places of settings and user columns
great-places :
    (checked (newlines ++ text "60\n") ≡ 4294967302 ∷ 301 ∷ 1 ∷ [])
    × (checked (replicate 300 32 ++ text "60\n") ≡ 4294967302 ∷ 1 ∷ 301 ∷ [])
    × (entry_line_call (newlines ++ text "@reboot x\n") 0 0 0 ≡ 301)
    × (next_setting_call (newlines ++ text "A=b\n") 0 0 1 ≡ 301)
unfolding answering
great-places = (refl, refl, refl, refl)

great-settings :
    (let s = newlines ++ replicate 300 65 ++ text "=" ++ replicate 301 98 ++ text "\n" in
    setting_name_offset_call s 0 0 301 ∷ setting_name_length_call s 0 0 301 ∷ setting_value_offset_call s 0 0 301 ∷ setting_value_length_call s 0 0 301 ∷ [])
    ≡ 300 ∷ 300 ∷ 601 ∷ 301 ∷ []
unfolding answering
great-settings = refl

great-owners :
    (let s = newlines ++ text "@reboot u:g/c x\n" in user_offset_call s 1 0 0 ∷ group_offset_call s 1 0 0 ∷ class_offset_call s 1 0 0 ∷ []) ≡ 308 ∷ 310 ∷ 312 ∷ []
unfolding answering
great-owners = refl

-- lengths of what is written
great-lengths :
    (let s = text "@reboot " ++ replicate 300 97 ++ text "%" ++ replicate 301 98 ++ text "\n" in
    split_command_call s 0 0 0 (replicate 300 0) (replicate 301 0) ∷ stdin_length_call s 0 0 0
    ∷ normal_form_call s 0 (replicate 700 0) ∷ compile_call s 0 (replicate 700 0) ∷ [])
    ≡ 300 ∷ 301 ∷ 611 ∷ 606 ∷ []
unfolding answering
great-lengths = refl

-- counts, an entry number, and counts of firings
boots : ℕ → List ℕ
boots zero = []
boots (suc n) = text "@reboot x\n" ++ boots n

great-counts :
    (let s = boots 300 in
    check_call s 0 0 ∷ queue_init_call s 0 0 (replicate 610 0)
    ∷ queue_pop_call s 0 0 (line_with (1 ∷ 0 ∷ 43 ∷ 1 ∷ replicate 598 0)) ∷ queue_entry_call s 0 0 (line_with (1 ∷ 0 ∷ 43 ∷ 1 ∷ replicate 598 0)) 0 ∷ [])
    ≡ 300 ∷ 300 ∷ 299 ∷ 299 ∷ []
unfolding boots answering
great-counts = refl

great-lists : Hold filled_number
    ((Ok (All 65536), 65536)
    ∷ (Ok (All 4294967295), 4294967295)
    ∷ (Ok (More 65536), 8590000128)
    ∷ (Ok (More 4294967295), 12884901887)
    ∷ [])
unfolding filled_number
great-lists = refl

-- ---- entries: one at boot, and one at the hour

abbrev pair : List ℕ
pair = text "@reboot x\n0 * * * * y\n"

-- every minute at -12:00 and at +14:00, midnight there and in UTC
abbrev clocks : List ℕ
clocks = text "CRON_TZ=-12:00\n* * * * * a\nCRON_TZ='+14:00'\n* * * * * b\n0 0 * * * c\nCRON_TZ=-00:00\n0 0 * * * d\n"

abbrev due_on : List ℕ × ℕ × ℕ → ℕ
due_on (s, i, m) = due_call s 0 0 i m

due : Hold due_on
    -- at minute 60, not at 61, and a boot job never
    (((pair, 1, 60), 1)
    ∷ ((pair, 1, 61), 0)
    ∷ ((pair, 0, 60), 0)
    -- at the calendar's last minute
    ∷ ((text "* * * * * x\n", 0, 4223371679), 1)
    -- O1, O5: under -12:00 from minute 720 on, under +14:00 up to 840 minutes before the last; each until the next offset
    ∷ ((clocks, 0, 719), 0)
    ∷ ((clocks, 0, 720), 1)
    ∷ ((clocks, 0, 721), 1)
    ∷ ((clocks, 1, 4223370839), 1)
    ∷ ((clocks, 1, 4223370840), 0)
    ∷ ((clocks, 2, 600), 1)
    ∷ ((clocks, 2, 1440), 0)
    ∷ ((clocks, 3, 600), 0)
    ∷ ((clocks, 3, 1440), 1)
    -- 14, 13, and a table that is refused
    ∷ ((pair, 1, 4223371680), 4294967310)
    ∷ ((pair, 0, 4223371680), 4294967310)
    ∷ ((pair, 2, 4223371680), 4294967309)
    ∷ ((text "60\n", 2, 60), 4294967302)
    ∷ ((replicate (max_table + 1) 10, 2, 60), 4294967297)
    ∷ [])
unfolding answering
due = refl

abbrev next_on : List ℕ × ℕ × ℕ → ℕ
next_on (s, i, m) = next_call s 0 0 i m

next : Hold next_on
    -- 15 of a boot job; 14 comes before it, 13 before 14, and a refused table before all
    (((pair, 0, 60), 4294967311)
    ∷ ((pair, 0, 4223371680), 4294967310)
    ∷ ((pair, 1, 4223371680), 4294967310)
    ∷ ((pair, 2, 4223371680), 4294967309)
    ∷ ((text "60\n", 2, 4223371680), 4294967302)
    ∷ ((text "* * * * * x", 2, 4223371680), 4294967322)
    ∷ [])
unfolding answering
next = refl

-- ---- where entries are: the line, and the raw command's place and length

abbrev placed : ℕ × List ℕ × ℕ → List ℕ
placed (kind, s, i) = entry_line_call s kind 0 i ∷ command_offset_call s kind 0 i ∷ command_length_call s kind 0 i ∷ []

places : Hold placed
    -- after an empty line and a setting; the blanks after the command and its `%` belong to it
    (((0, text "\nA=b\n @reboot  x%y \n0 * * * * z\n", 0), 3 ∷ 15 ∷ 4 ∷ [])
    ∷ ((0, text "\nA=b\n @reboot  x%y \n0 * * * * z\n", 1), 4 ∷ 30 ∷ 1 ∷ [])
    -- after the user
    ∷ ((1, text "@reboot u x\n", 0), 1 ∷ 10 ∷ 1 ∷ [])
    -- no such entry: 13; the table's own refusal comes first
    ∷ ((0, pair, 2), 4294967309 ∷ 4294967309 ∷ 4294967309 ∷ [])
    ∷ ((0, text "@reboot x\n60\n", 0), 4294967302 ∷ 4294967302 ∷ 4294967302 ∷ [])
    ∷ ((0, text "@reboot x\n60\n", 5), 4294967302 ∷ 4294967302 ∷ 4294967302 ∷ [])
    ∷ [])
unfolding answering
places = refl

-- ---- settings, by their line: the name's place and length, and the value's

abbrev shown : List ℕ × ℕ → List ℕ
shown (s, n) =
    setting_name_offset_call s 0 0 n ∷ setting_name_length_call s 0 0 n ∷ setting_value_offset_call s 0 0 n ∷ setting_value_length_call s 0 0 n ∷ []

settings : Hold shown
    -- on line 2, without the quotes
    (((text "\nA = \"b c\"\n", 2), 1 ∷ 1 ∷ 6 ∷ 3 ∷ [])
    -- an empty value, after an entry
    ∷ ((text "@reboot x\nA=\"\"\nB=c\n", 2), 10 ∷ 1 ∷ 13 ∷ 0 ∷ [])
    -- line 1, line 0 and line 3 are 19; a refused table is refused here too
    ∷ ((text "\nA = \"b c\"\n", 1), 4294967315 ∷ 4294967315 ∷ 4294967315 ∷ 4294967315 ∷ [])
    ∷ ((text "\nA = \"b c\"\n", 0), 4294967315 ∷ 4294967315 ∷ 4294967315 ∷ 4294967315 ∷ [])
    ∷ ((text "\nA = \"b c\"\n", 3), 4294967315 ∷ 4294967315 ∷ 4294967315 ∷ 4294967315 ∷ [])
    ∷ ((text "A=b\n60\n", 1), 4294967302 ∷ 4294967302 ∷ 4294967302 ∷ 4294967302 ∷ [])
    ∷ ((text "A=b", 1), 4294967322 ∷ 4294967322 ∷ 4294967322 ∷ 4294967322 ∷ [])
    ∷ [])
unfolding answering
settings = refl

-- the first line from a line on that has a setting
abbrev line_from : List ℕ × ℕ → ℕ
line_from (s, n) = next_setting_call s 0 0 n

next-settings : Hold line_from
    -- that line too, and 0 is as 1
    (((text "#\nA=b\n@reboot x\nB=c\n", 0), 2)
    ∷ ((text "#\nA=b\n@reboot x\nB=c\n", 2), 2)
    ∷ ((text "#\nA=b\n@reboot x\nB=c\n", 3), 4)
    -- none: 19; the table's refusal comes first, also if its fault is after the setting
    ∷ ((text "#\nA=b\n@reboot x\nB=c\n", 5), 4294967315)
    ∷ ((text "#\nA=b\n@reboot x\nB=c\n", 18446744073709551615), 4294967315)
    ∷ (([], 0), 4294967315)
    ∷ ((text "A=b\n60\n", 1), 4294967302)
    ∷ ((text "A=b", 2), 4294967322)
    ∷ [])
unfolding answering
next-settings = refl

-- ---- commands: with buffers of four bytes, the shell line's length, both buffers, and the input's length

abbrev commands : List ℕ
commands = text "A=b\n@reboot a%b\\%c\n@reboot d\n@reboot e%\n@reboot fghij\n"

abbrev shell : List ℕ
shell = text "----"

abbrev input : List ℕ
input = text "===="

abbrev split_at : ℕ → ℕ × List ℕ × List ℕ × ℕ
split_at i =
    (split_command_call commands 0 0 i shell input, split_command_shell commands 0 0 i shell input, split_command_input commands 0 0 i shell input, stdin_length_call commands 0 0 i)

splits : Hold split_at
    -- on line 2, with an input
    ((0, (1, text "a---", text "b%c=", 3))
    -- no input, and an empty one
    ∷ (1, (1, text "d---", input, 4294967296))
    ∷ (2, (1, text "e---", input, 0))
    -- too long for its buffer: 18; no such entry: 13
    ∷ (3, (4294967314, shell, input, 4294967296))
    ∷ (4, (4294967309, shell, input, 4294967309))
    ∷ [])
unfolding answering
splits = refl

-- ---- P9: a table and a buffer, and the normal form's length with the buffer after it

abbrev form_on : List ℕ × List ℕ → ℕ × List ℕ
form_on (s, buffer) = (normal_form_call s 0 buffer, normal_form_text s 0 buffer)

-- a line of so many bytes, which are written in 165 more
abbrev growing : ℕ → List ℕ
growing n = text "0-59 * * * * " ++ replicate (n - 13) 97 ++ text "\n"

forms : Hold form_on
    -- the bytes after it stay
    (((text "# a\nA = 'b'\n@hourly\tc\n", text "------------------"), (16, text "A=b\n0 * * * * c\n--"))
    -- a byte too few: 18
    ∷ ((text "@reboot  x\n", text "---------"), (4294967314, text "---------"))
    -- a line of 1,001 bytes: 21, before 18, which one of 1,000 gets; the table's own refusal comes first, wherever its fault is
    ∷ ((growing 836, text "-"), (4294967317, text "-"))
    ∷ ((growing 835, text "-"), (4294967314, text "-"))
    ∷ ((growing 836 ++ text "60\n", text "-"), (4294967302, text "-"))
    ∷ [])
unfolding answering
forms = refl

-- A6: a table that only the rising dialect takes, written and compiled in the wrapping one
abbrev numbers_in : List ℕ → ℕ × ℕ
numbers_in s = (normal_form_call s 1 (replicate 24 45), compile_call s 1 (replicate 32 45))

second-forms : numbers_in (text "0 0 * * 7 x\n") ≡ (4294967302, 4294967302)
unfolding answering
second-forms = refl

-- ---- B7, B11: a table and a buffer, and the records' length with the buffer after it; and back, with the first bad record

abbrev compile_on : List ℕ × List ℕ → ℕ × List ℕ
compile_on (s, buffer) = (compile_call s 0 buffer, compile_records s 0 buffer)

compiles : Hold compile_on
    (((text "# a\n@reboot  b c\n", text "--------"), (7, 5 ∷ 0 ∷ 2 ∷ 0 ∷ text "b c-"))
    -- the table's refusal, 21 and 18
    ∷ ((text "@reboot\n", text "--------"), (4294967305, text "--------"))
    ∷ ((growing 836, text "-"), (4294967317, text "-"))
    ∷ ((text "@reboot x\n", text "----"), (4294967314, text "----"))
    ∷ [])
unfolding answering
compiles = refl

abbrev decompile_on : List ℕ × List ℕ → ℕ × List ℕ × ℕ
decompile_on (s, buffer) = (decompile_call s buffer, decompile_text s buffer, record_fault s)

decompiles : Hold decompile_on
    (((5 ∷ 0 ∷ 2 ∷ 0 ∷ text "b c", text "-------------"), (12, text "@reboot b c\n-", 0))
    -- 22, 23 and 24 of the second record, after one that is skipped; 18
    ∷ ((2 ∷ 0 ∷ 0 ∷ 128 ∷ 9 ∷ 0 ∷ [], text "-"), (4294967318, text "-", 2))
    ∷ ((2 ∷ 0 ∷ 0 ∷ 128 ∷ 2 ∷ 0 ∷ 0 ∷ 0 ∷ [], text "-"), (4294967319, text "-", 2))
    ∷ ((2 ∷ 0 ∷ 0 ∷ 128 ∷ 2 ∷ 0 ∷ 2 ∷ 0 ∷ [], text "-"), (4294967320, text "-", 2))
    ∷ ((3 ∷ 0 ∷ 2 ∷ 0 ∷ 120 ∷ [], text "---------"), (4294967314, text "---------", 0))
    ∷ [])
unfolding answering
decompiles = refl

-- ---- I1 to I4: lists of firings, in buffers that hold 1, 2 and 3 at first

abbrev hut : List ℕ
hut = text "*/5 * * * * x\n@reboot y\n10 * * * * z\n"

abbrev firings_on : ℕ × ℕ × ℕ × List ℕ → ℕ × List ℕ
firings_on (i, a, b, room) = (firings_call hut 0 0 i a b room, firings_run hut 0 0 i a b room)

lists : Hold firings_on
    (((0, 5, 15, 1 ∷ 2 ∷ 3 ∷ []), (2, 10 ∷ 15 ∷ 3 ∷ []))
    -- they fit exactly, and one is too many
    ∷ ((0, 0, 15, 1 ∷ 2 ∷ 3 ∷ []), (3, 5 ∷ 10 ∷ 15 ∷ []))
    ∷ ((0, 0, 20, 1 ∷ 2 ∷ 3 ∷ []), (8589934595, 5 ∷ 10 ∷ 15 ∷ []))
    ∷ ((2, 10, 0, 1 ∷ 2 ∷ 3 ∷ []), (0, 1 ∷ 2 ∷ 3 ∷ []))
    -- 13, 14 and 15
    ∷ ((3, 0, 15, 1 ∷ []), (4294967309, 1 ∷ []))
    ∷ ((1, 0, 4223371680, 1 ∷ []), (4294967310, 1 ∷ []))
    ∷ ((1, 0, 15, 1 ∷ []), (4294967311, 1 ∷ []))
    ∷ [])
unfolding answering
lists = refl

abbrev merged_on : List ℕ × ℕ × ℕ × List ℕ × List ℕ → ℕ × List ℕ × List ℕ
merged_on (s, a, b, minutes, entries) =
    (merged_firings_call s 0 0 a b minutes entries, merged_firings_minutes s 0 0 a b minutes entries, merged_firings_entries s 0 0 a b minutes entries)

merged-lists : Hold merged_on
    (((hut, 5, 14, 1 ∷ 2 ∷ 3 ∷ [], 1 ∷ 2 ∷ []), (2, 10 ∷ 10 ∷ 3 ∷ [], 0 ∷ 2 ∷ []))
    ∷ ((hut, 5, 15, 1 ∷ 2 ∷ 3 ∷ [], 1 ∷ 2 ∷ []), (8589934594, 10 ∷ 10 ∷ 3 ∷ [], 0 ∷ 2 ∷ []))
    -- the table's refusal, and 14
    ∷ ((text "60\n", 4223371680, 15, 1 ∷ [], 1 ∷ []), (4294967302, 1 ∷ [], 1 ∷ []))
    ∷ ((hut, 4223371680, 15, 1 ∷ [], 1 ∷ []), (4294967310, 1 ∷ [], 1 ∷ []))
    ∷ [])
unfolding answering
merged-lists = refl

-- ---- the line of waiting jobs

-- what is asked of a room
data Ask : Type 0 where
  init : Ask
  tick : ℕ → Ask
  pop : Ask
  look : ℕ → Ask

-- one after the other, each with the room that the last one left
run : List ℕ → List ℕ → List Ask → List ℕ
run table room [] = []
run table room (init ∷ asks) = queue_init_call table 0 0 room ∷ run table (queue_init_room table 0 0 room) asks
run table room (tick minute ∷ asks) = queue_tick_call table 0 0 room minute ∷ run table (queue_tick_room table 0 0 room minute) asks
run table room (pop ∷ asks) = queue_pop_call table 0 0 room ∷ run table (queue_pop_room table 0 0 room) asks
run table room (look place ∷ asks) = queue_entry_call table 0 0 room place ∷ run table room asks

-- "Whole run: table `* * * * * a`, `@reboot b`, `0 * * * * c`. Request: entry 1. Announce 59: 1 joined. Announce 60: 1 joined. Requests:
-- entry 0, entry 2, nothing."
whole_run :
    run (text "* * * * * a\n@reboot b\n0 * * * * c\n") (replicate 88 7) (init ∷ pop ∷ tick 59 ∷ tick 60 ∷ pop ∷ pop ∷ pop ∷ [])
    ≡ 1 ∷ 1 ∷ 1 ∷ 1 ∷ 0 ∷ 2 ∷ 4294967296 ∷ []
unfolding run answering
whole_run = refl

-- the entry at a place: a look removes none, and from the end on nothing waits
looks :
    run (text "* * * * * a\n@reboot b\n0 * * * * c\n") (replicate 88 7)
    (init ∷ tick 60 ∷ look 0 ∷ look 1 ∷ look 2 ∷ look 3 ∷ look 18446744073709551615 ∷ pop ∷ look 0 ∷ look 1 ∷ look 2 ∷ [])
    ≡ 1 ∷ 2 ∷ 1 ∷ 0 ∷ 2 ∷ 4294967296 ∷ 4294967296 ∷ 1 ∷ 0 ∷ 2 ∷ 4294967296 ∷ []
unfolding run answering
looks = refl

-- a refused table, and a room that holds no line: 28
refused-looks :
    (run (text "60\n") (replicate 7 7) (look 0 ∷ []) ≡ 4294967302 ∷ [])
    × (run (text "@reboot x\n") (replicate 12 0) (look 0 ∷ look 9 ∷ []) ≡ 4294967324 ∷ 4294967324 ∷ [])
unfolding run answering
refused-looks = (refl, refl)

-- the calendar's last minute is announced as any other
last-minute : run (text "* * * * * a\n") (replicate 12 0) (init ∷ tick 4223371679 ∷ pop ∷ []) ≡ 0 ∷ 1 ∷ 0 ∷ []
unfolding run answering
last-minute = refl

-- a refused table comes before 28, and 28 before 14; a room in which no line was made is 28
refused-run :
    (run (text "60\n") (replicate 7 7) (init ∷ tick 4223371680 ∷ pop ∷ []) ≡ 4294967302 ∷ 4294967302 ∷ 4294967302 ∷ [])
    × (run (text "60\n") [] (init ∷ tick 4223371680 ∷ pop ∷ []) ≡ 4294967302 ∷ 4294967302 ∷ 4294967302 ∷ [])
    × (run (replicate (max_table + 1) 10) (replicate 2 0) (init ∷ tick 4223371680 ∷ pop ∷ []) ≡ 4294967297 ∷ 4294967297 ∷ 4294967297 ∷ [])
    × (run (text "@reboot x\n") (replicate 11 0) (init ∷ tick 4223371680 ∷ pop ∷ []) ≡ 4294967324 ∷ 4294967324 ∷ 4294967324 ∷ [])
    × (run (text "@reboot x\n") (replicate 12 0) (tick 4223371680 ∷ tick 5 ∷ pop ∷ []) ≡ 4294967324 ∷ 4294967324 ∷ 4294967324 ∷ [])
    × (run (text "@reboot x\n") (replicate 12 0) (init ∷ tick 4223371680 ∷ pop ∷ pop ∷ []) ≡ 1 ∷ 4294967310 ∷ 0 ∷ 4294967296 ∷ [])
unfolding run answering
refused-run = (refl, refl, refl, refl, refl, refl)

-- ---- a changed table

-- both tables' kind, the old one, the new one, and the room's bytes, in which a fresh line of the old one is made and minute 0 announced
abbrev carried : ℕ × List ℕ × List ℕ × ℕ → ℕ × List ℕ
carried (kind, old, new, size) =
    let room = queue_tick_room old kind 0 (queue_init_room old kind 0 (replicate size 7)) 0 in
    (queue_reload_call old new kind 0 room, queue_reload_room old new kind 0 room)

abbrev kept : ℕ × List ℕ × List ℕ × ℕ → ℕ
kept x = (carried x).0

-- c comes to the front of its table, b is gone, d is new: c and a wait, in their order, with the mark, and the bytes after them stay
reload-bytes :
    carried (0, text "@reboot a\n@reboot b\n@reboot c\n", text "@reboot c\n@reboot d\n@reboot a\n", 20)
    ≡ (2, 69 ∷ 82 ∷ 81 ∷ 49 ∷ 1 ∷ 0 ∷ 0 ∷ 0 ∷ 2 ∷ 0 ∷ 2 ∷ 0 ∷ 0 ∷ 0 ∷ 2 ∷ 0 ∷ 7 ∷ 7 ∷ 7 ∷ 7 ∷ [])
unfolding answering reloading
reload-bytes = refl

-- how many are queued: each part of what an entry asks for tells it from another, and its spelling doesn't
reloads : Hold kept
    (((1, text "@reboot u:g/c a\n", text "@reboot u:g/d a\n", 12), 0)
    ∷ ((1, text "@reboot u:g/c a\n", text "@reboot u:h/c a\n", 12), 0)
    ∷ ((1, text "@reboot u:g/c a\n", text "@reboot v:g/c a\n", 12), 0)
    ∷ ((1, text "@reboot u:c a\n", text "@reboot u/c a\n", 12), 0)
    ∷ ((1, text "@reboot u a\n", text "@reboot  u  a\n", 12), 1)
    ∷ ((0, text "@reboot a\n", text "@reboot b\n", 12), 0)
    -- an offset is a part of a time, and no part of `@reboot`
    ∷ ((0, text "* * * * * a\n", text "CRON_TZ=+01:00\n* * * * * a\n", 12), 0)
    ∷ ((0, text "@reboot a\n", text "CRON_TZ=+01:00\n@reboot a\n", 12), 1)
    ∷ ((0, text "CRON_TZ=-05:00\n@reboot a\n", text "CRON_TZ=+01:00\n@reboot a\n", 12), 1)
    ∷ ((0, text "0 0 * * * a\n", text "0 0 1-31 * * a\n", 12), 0)
    ∷ ((0, text "@daily a\n", text "A=b\n 0\t0 * * * a\n", 12), 1)
    -- each of the five sets and of the five stars, and `@reboot`
    ∷ ((0, text "0 0 1 1 4 a\n", text "0 0 1 1 4 a\n", 12), 1)
    ∷ ((0, text "0 0 1 1 4 a\n", text "1 0 1 1 4 a\n", 12), 0)
    ∷ ((0, text "0 0 1 1 4 a\n", text "0 1 1 1 4 a\n", 12), 0)
    ∷ ((0, text "0 0 1 1 4 a\n", text "0 0 2 1 4 a\n", 12), 0)
    ∷ ((0, text "0 0 1 1 4 a\n", text "0 0 1 2 4 a\n", 12), 0)
    ∷ ((0, text "0 0 1 1 4 a\n", text "0 0 1 1 5 a\n", 12), 0)
    ∷ ((0, text "0 0 * * * a\n", text "*/60 0 * * * a\n", 12), 0)
    ∷ ((0, text "0 0 * * * a\n", text "0 */24 * * * a\n", 12), 0)
    ∷ ((0, text "0 0 * * * a\n", text "0 0 * 1-12 * a\n", 12), 0)
    ∷ ((0, text "0 0 * * * a\n", text "0 0 * * 0-6 a\n", 12), 0)
    ∷ ((0, text "@daily a\n", text "@reboot a\n", 12), 0)
    ∷ ((0, text "@reboot a\n", text "@daily a\n", 12), 0)
    -- two become one, and room for all of the new table
    ∷ ((0, text "@reboot a\n@reboot a\n", text "@reboot a\n", 14), 1)
    ∷ ((0, text "@reboot a\n", text "@reboot a\n@reboot b\n", 12), 4294967324)
    ∷ ((0, text "@reboot a\n", text "@reboot a\n@reboot b\n", 14), 1)
    -- the old table's refusal, the new table's, then 28
    ∷ ((0, text "60\n", text "A\n", 0), 4294967302)
    ∷ ((0, text "@reboot a\n", text "A\n", 0), 4294967307)
    ∷ ((0, text "@reboot a\n", text "@reboot a\n", 0), 4294967324)
    ∷ [])
unfolding answering reloading
reloads = refl

-- how many are queued, and which entries are the first three, after a reload of all entries that minute 0 and the boot call
abbrev queued_in : List ℕ → List ℕ → List ℕ → List ℕ
queued_in old new room =
    let after = queue_reload_room old new 0 0 room in
    queue_reload_call old new 0 0 room ∷ queue_entry_call new 0 0 after 0 ∷ queue_entry_call new 0 0 after 1 ∷ queue_entry_call new 0 0 after 2 ∷ []

abbrev all_queued : List ℕ × List ℕ → List ℕ
all_queued (old, new) = queued_in old new (queue_tick_room old 0 0 (queue_init_room old 0 0 (replicate 20 7)) 0)

-- and of all but the front
abbrev others_queued : List ℕ × List ℕ → List ℕ
others_queued (old, new) = queued_in old new (queue_pop_room old 0 0 (queue_tick_room old 0 0 (queue_init_room old 0 0 (replicate 20 7)) 0))

-- several that mean the same: each becomes the one of its rank, or the last, and the places stay
ranks : Hold all_queued
    (((text "* * * * * a\n* * * * * a\n", text "* * * * * a\n* * * * * b\n* * * * * a\n* * * * * a\n"), 2 ∷ 0 ∷ 2 ∷ 4294967296 ∷ [])
    -- three are queued, and there are two: the third is dropped
    ∷ ((text "* * * * * a\n* * * * * a\n* * * * * a\n", text "* * * * * a\n* * * * * a\n"), 2 ∷ 0 ∷ 1 ∷ 4294967296 ∷ [])
    ∷ ((text "* * * * * a\n* * * * * b\n* * * * * a\n", text "* * * * * b\n* * * * * a\n"), 2 ∷ 1 ∷ 0 ∷ 4294967296 ∷ [])
    -- boot entries under other offsets, and entries with a time
    ∷ ((text "@reboot a\nCRON_TZ=+01:00\n@reboot a\n", text "CRON_TZ=-05:00\n@reboot a\n@reboot a\n"), 2 ∷ 0 ∷ 1 ∷ 4294967296 ∷ [])
    ∷ ((text "* * * * * a\nCRON_TZ=+01:00\n* * * * * a\n", text "CRON_TZ=+01:00\n* * * * * a\n"), 1 ∷ 0 ∷ 4294967296 ∷ 4294967296 ∷ [])
    ∷ [])
unfolding answering reloading
ranks = refl

other-ranks : Hold others_queued
    -- the second is queued: with one of them left, it is that one; with more, the second
    (((text "* * * * * a\n* * * * * a\n", text "* * * * * a\n"), 1 ∷ 0 ∷ 4294967296 ∷ 4294967296 ∷ [])
    ∷ ((text "* * * * * a\n* * * * * a\n", text "* * * * * b\n* * * * * a\n* * * * * a\n* * * * * a\n"), 1 ∷ 2 ∷ 4294967296 ∷ 4294967296 ∷ [])
    ∷ ((text "* * * * * a\n* * * * * a\n", text "* * * * * b\n"), 0 ∷ 4294967296 ∷ 4294967296 ∷ 4294967296 ∷ [])
    -- the second and the third: the third becomes the second as well, which is the last
    ∷ ((text "* * * * * a\n* * * * * a\n* * * * * a\n", text "* * * * * a\n* * * * * a\n"), 1 ∷ 1 ∷ 4294967296 ∷ 4294967296 ∷ [])
    ∷ ((text "* * * * * a\n* * * * * a\n* * * * * a\n", text "* * * * * a\n"), 1 ∷ 0 ∷ 4294967296 ∷ 4294967296 ∷ [])
    ∷ [])
unfolding answering reloading
other-ranks = refl

-- ---- Q4 to Q6: a fixed entry, at 04:30, and two whose hour or minute begins with `*`

abbrev jumping : List Ask → List ℕ
jumping asks = run (text "30 4 * * * a\n30 * * * * b\n* 4 * * * c\n") (replicate 88 0) (init ∷ asks)

jumps : Hold jumping
    -- 180 above: caught up, once, and only the fixed one; 181 above: by the minute itself, 06:21
    ((tick 200 ∷ tick 380 ∷ pop ∷ pop ∷ [], 0 ∷ 0 ∷ 1 ∷ 0 ∷ 4294967296 ∷ [])
    ∷ (tick 200 ∷ tick 381 ∷ [], 0 ∷ 0 ∷ 0 ∷ [])
    -- the marked minute again: the fixed one doesn't join; 179 below: nor there; 180 below, 01:30, begins anew, and 04:30 is caught up
    ∷ (tick 270 ∷ pop ∷ pop ∷ pop ∷ tick 270 ∷ pop ∷ pop ∷ [], 0 ∷ 3 ∷ 0 ∷ 1 ∷ 2 ∷ 2 ∷ 1 ∷ 2 ∷ [])
    ∷ (tick 270 ∷ pop ∷ pop ∷ pop ∷ tick 91 ∷ tick 90 ∷ tick 270 ∷ [], 0 ∷ 3 ∷ 0 ∷ 1 ∷ 2 ∷ 0 ∷ 1 ∷ 2 ∷ [])
    -- the mark stays at 05:00 while 03:20 is announced, so 04:30 isn't caught up before it
    ∷ (tick 300 ∷ tick 200 ∷ tick 301 ∷ [], 0 ∷ 0 ∷ 0 ∷ 0 ∷ [])
    -- a refused announcement leaves the mark
    ∷ (tick 200 ∷ tick 4223371680 ∷ tick 290 ∷ [], 0 ∷ 0 ∷ 4294967310 ∷ 2 ∷ [])
    -- a fresh line has no mark, whatever mark the room held
    ∷ (tick 270 ∷ init ∷ tick 270 ∷ [], 0 ∷ 3 ∷ 0 ∷ 3 ∷ [])
    ∷ (tick 300 ∷ init ∷ tick 270 ∷ [], 0 ∷ 0 ∷ 0 ∷ 3 ∷ [])
    -- a request leaves the mark, where nothing waits too
    ∷ (tick 200 ∷ pop ∷ tick 300 ∷ [], 0 ∷ 0 ∷ 4294967296 ∷ 1 ∷ [])
    ∷ [])
unfolding run answering
jumps = refl

-- two minutes of the span match, and it joins once; under an offset of an hour 04:30 is 210
jumps-once : run (text "0,30 4 * * * a\n") (replicate 12 0) (init ∷ tick 200 ∷ tick 300 ∷ pop ∷ pop ∷ []) ≡ 0 ∷ 0 ∷ 1 ∷ 0 ∷ 4294967296 ∷ []
unfolding run answering
jumps-once = refl

-- the first begins with a star and isn't fixed; the second is, though it has every minute: 03:20 and 05:00
jumps-star :
    run (text "*/30 4 * * * a\n0-59 4 * * * b\n") (replicate 14 0) (init ∷ tick 200 ∷ tick 300 ∷ pop ∷ pop ∷ [])
    ≡ 0 ∷ 0 ∷ 1 ∷ 1 ∷ 4294967296 ∷ []
unfolding run answering
jumps-star = refl

-- file order, the one that is caught up too: 03:20 and 05:00
jumps-order :
    run (text "* * * * * a\n30 4 * * * b\n") (replicate 14 0) (init ∷ tick 200 ∷ pop ∷ tick 300 ∷ pop ∷ pop ∷ pop ∷ [])
    ≡ 0 ∷ 1 ∷ 0 ∷ 2 ∷ 0 ∷ 1 ∷ 4294967296 ∷ []
unfolding run answering
jumps-order = refl

-- no mark at first is not the mark 0, under which 00:30 is caught up
jumps-first : Hold (λ (asks : List Ask). run (text "30 0 * * * a\n") (replicate 12 0) (init ∷ asks))
    ((tick 40 ∷ [], 0 ∷ 0 ∷ [])
    ∷ (tick 0 ∷ tick 40 ∷ [], 0 ∷ 0 ∷ 1 ∷ [])
    ∷ [])
unfolding run answering
jumps-first = refl

-- the calendar's last minute, 23:59, is a mark as any other
jumps-last : run (text "59 23 * * * a\n") (replicate 12 0) (init ∷ tick 4223371678 ∷ tick 4223371679 ∷ pop ∷ tick 4223371679 ∷ tick 4223371500 ∷ tick 4223371679 ∷ []) ≡ 0 ∷ 0 ∷ 1 ∷ 0 ∷ 0 ∷ 0 ∷ 0 ∷ []
unfolding run answering
jumps-last = refl

jumps-local : run (text "CRON_TZ=+01:00\n30 4 * * * a\n") (replicate 12 0) (init ∷ tick 100 ∷ tick 209 ∷ tick 210 ∷ []) ≡ 0 ∷ 0 ∷ 0 ∷ 1 ∷ []
unfolding run answering
jumps-local = refl
