-- Worked tables, checked by computing: rows of a text and what it is. Lines
-- are in `line/specs/Examples`.
-- Assumes nothing.
use Rattle.std.specs.Prelude.{ℕ, zero, suc, ◌+◌, refl, Bool, true, false, List, [], ◌∷◌, ◌++◌, replicate, ℤ, pos, negsuc, Result, Ok, Err}
use Rattle.refusal.specs.declared.Refusal.{Refusal}
use Rattle.refusal.specs.declared.Refusal.TheVariants.{OutOfLimits, NoSuchEntry, NotOnCalendar, PastEnd, NoSetting, CutTable}
use Rattle.refusal.specs.Numbers.{number_of}
use Rattle.octets.specs.Texts.{text}
use Rattle.octets.specs.Rows.{Hold}
use Rattle.calendar.specs.Dates.{last_minute}
use Rattle.octets.specs.Sets.{set_of, up_to}
use Rattle.line.specs.declared.Part.{Part}
use Rattle.line.specs.declared.Rules.{Rules}
use Rattle.field.specs.declared.Dialect.TheVariants.{Rising}
use Rattle.line.specs.declared.Kind.TheVariants.{User, System}
use Rattle.line.specs.declared.time.When.{When}
use Rattle.line.specs.declared.time.When.TheVariants.{Reboot, Timed}
use Rattle.crontab.specs.Limits.{max_entries}
use Rattle.line.specs.Limits.{max_line}
use Rattle.line.specs.declared.user.Owner.{Owner}
use Rattle.line.specs.Users.{absent}
use Rattle.line.specs.Offsets.{utc}
use Rattle.crontab.specs.Owners.{owner_in}
use Rattle.crontab.specs.Items.{items_of}
use Rattle.crontab.specs.Tables.{table_of, entry_in, command_in, column_in, count_in, line_in, refusal_in}
use Rattle.crontab.specs.Settings.{name_in, value_in, setting_in, next_line_in}
use Rattle.schedule.specs.Next.{can_fire}
use Rattle.schedule.specs.Local.{firing_from_in, firing_after_in, next_after_in}
use Rattle.crontab.specs.Firings.{is_fixed, due_in, next_of, next_answer, next_in}
use Rattle.crontab.specs.Computing.{reading, zoning}
use Rattle.crontab.specs.declared.entry.Entry.{Entry}

abbrev of_user : Rules
of_user = record { kind = User; dialect = Rising }

abbrev of_system : Rules
of_system = record { kind = System; dialect = Rising }

abbrev hourly : When
hourly =
    Timed
    (record {
      minutes = set_of (0 ∷ []);
      hours = set_of (up_to 0 23);
      days = set_of (up_to 1 31);
      months = set_of (up_to 1 12);
      weekdays = set_of (up_to 0 6);
      stars = record { minutes = false; hours = true; days = true; months = true; weekdays = true };
    })

-- ---- tables: the refusal, its line and column, and the count of entries

abbrev fault : List ℕ → List ℕ
fault s = let t = table_of of_user s in refusal_in t ∷ line_in t ∷ column_in t ∷ count_in t ∷ []

times : ℕ → List ℕ → List ℕ
times zero s = []
times (suc n) s = s ++ times n s

tables-read : Hold fault
    -- the empty table has no entries
    (([], 0 ∷ 0 ∷ 0 ∷ 0 ∷ [])
    -- three lines
    ∷ (text "* * * * * a\n@reboot b\n0 * * * * c\n", 0 ∷ 0 ∷ 0 ∷ 3 ∷ [])
    -- R26: the last without a newline; whatever that line is, a comment and one of blanks too
    ∷ (text "* * * * * a\n@reboot b\n0 * * * * c", 26 ∷ 3 ∷ 12 ∷ 0 ∷ [])
    ∷ (text "@reboot b\nA=b ", 26 ∷ 2 ∷ 5 ∷ 0 ∷ [])
    ∷ (text "#", 26 ∷ 1 ∷ 2 ∷ 0 ∷ [])
    ∷ (text "\n\n ", 26 ∷ 3 ∷ 2 ∷ 0 ∷ [])
    ∷ (replicate max_line 32, 26 ∷ 1 ∷ 1001 ∷ 0 ∷ [])
    -- any other fault comes first: of a line before it, or its own
    ∷ (text "60 * * * * a\n@reboot b", 6 ∷ 1 ∷ 1 ∷ 0 ∷ [])
    ∷ (text "@reboot b\n@reboot", 9 ∷ 2 ∷ 8 ∷ 0 ∷ [])
    ∷ (text "@reboot b\n# c" ++ 13 ∷ [], 27 ∷ 2 ∷ 4 ∷ 0 ∷ [])
    ∷ (text "# c\n# d" ++ 13 ∷ 10 ∷ 0 ∷ [], 27 ∷ 2 ∷ 4 ∷ 0 ∷ [])
    ∷ (replicate (max_line + 1) 32, 2 ∷ 1 ∷ 1001 ∷ 0 ∷ [])
    -- a tab ends no line, and byte 0 and CR none
    ∷ (text "A=\tb\n@reboot\tx\n", 0 ∷ 0 ∷ 0 ∷ 1 ∷ [])
    ∷ (10 ∷ 35 ∷ 0 ∷ [], 3 ∷ 2 ∷ 2 ∷ 0 ∷ [])
    -- the first bad line, and no entry
    ∷ (text "@reboot b\n\n60 * * * * a\nA\n", 6 ∷ 3 ∷ 1 ∷ 0 ∷ [])
    -- as many entries as there may be, and one more, which a bad line follows; a bad line has its own refusal there too
    ∷ (text "A=b\n#\n" ++ times max_entries (text "@reboot x\n"), 0 ∷ 0 ∷ 0 ∷ 512 ∷ [])
    ∷ (times (max_entries + 1) (text "@reboot x\n") ++ text "A\n", 12 ∷ 513 ∷ 1 ∷ 0 ∷ [])
    ∷ (times max_entries (text "@reboot x\n") ++ text "60\n", 6 ∷ 513 ∷ 1 ∷ 0 ∷ [])
    ∷ (times max_entries (text "@reboot x\n") ++ text "  @reboot x\n", 12 ∷ 513 ∷ 1 ∷ 0 ∷ [])
    -- the last entry that there may be, and one more, without a newline
    ∷ (times 511 (text "@reboot x\n") ++ text "@reboot x", 26 ∷ 512 ∷ 10 ∷ 0 ∷ [])
    ∷ (times max_entries (text "@reboot x\n") ++ text "@reboot x", 12 ∷ 513 ∷ 1 ∷ 0 ∷ [])
    ∷ (times max_entries (text "@reboot x\n") ++ text "#", 26 ∷ 513 ∷ 2 ∷ 0 ∷ [])
    -- T1: as many bytes as there may be, and one more, which comes before the missing newline
    ∷ (replicate 49152 10, 0 ∷ 0 ∷ 0 ∷ 0 ∷ [])
    ∷ (replicate 49153 10, 1 ∷ 0 ∷ 0 ∷ 0 ∷ [])
    ∷ (replicate 49153 32, 1 ∷ 0 ∷ 0 ∷ 0 ∷ [])
    ∷ [])
unfolding times reading
tables-read = refl

-- ---- entries by their number, and their commands; settings by their line

abbrev three : List ℕ
three = text "A=b\n @reboot x y \n0 * * * * z\n'B C' = d e \n"

abbrev found : ℕ → Result Entry Refusal × List ℕ
found i = let e = entry_in (table_of of_user three) i in (e, command_in three e)

entries-found : Hold found
    ((0, (Ok (record { when = Reboot; line = 2; at = 4; start = 13; end = 17; offset = utc }), text "x y "))
    ∷ (1, (Ok (record { when = hourly; line = 3; at = 18; start = 28; end = 29; offset = utc }), text "z"))
    ∷ (2, (Err NoSuchEntry, []))
    ∷ [])
unfolding reading
entries-found = refl

-- O1: an entry is under the last offset before it; before the first, and after another setting, none changes
abbrev zones : List ℕ
zones = text "@reboot a\nCRON_TZ=-03:30\n@reboot b\nA=+01:00\n@reboot c\n'CRON_TZ'='+05:45'\n#\n\n@reboot d\n@reboot e\nCRON_TZ=-00:00\n@reboot f\n"

abbrev under_of : Result Entry Refusal → ℤ
under_of (Ok e) = e.offset
under_of (Err refusal) = pos (number_of refusal)

under-offset : Hold (λ i. under_of (entry_in (table_of of_user zones) i))
    ((0, pos 0) ∷ (1, negsuc 209) ∷ (2, negsuc 209) ∷ (3, pos 345) ∷ (4, pos 345) ∷ (5, pos 0) ∷ (6, pos 13) ∷ [])
unfolding reading
under-offset = refl

-- M6: whether an entry is fixed, by how its minute and its hour begin, and not by their values
abbrev fixed_in : Result Entry Refusal → Bool
fixed_in (Ok e) = is_fixed e
fixed_in (Err refusal) = false

fixed : Hold (λ (s : List ℕ). fixed_in (entry_in (table_of of_user s) 0))
    ((text "30 4 * * * x\n", true)
    ∷ (text "*/30 4 * * * x\n", false)
    ∷ (text "30 */4 * * * x\n", false)
    ∷ (text "0-59 4 * * * x\n", true)
    ∷ (text "30 0-23 * * * x\n", true)
    ∷ (text "@hourly x\n", false)
    ∷ (text "@daily x\n", true)
    ∷ (text "@reboot x\n", false)
    ∷ [])
unfolding reading is_fixed
fixed = refl

-- R35: the refusal, 0 if there is none
abbrev refused_as : {A : Type 0} → Result A Refusal → ℕ
refused_as (Ok a) = 0
refused_as (Err refusal) = number_of refusal

abbrev named : ℕ → ℕ × List ℕ × List ℕ
named n = let a = setting_in (items_of of_user three) n in (refused_as a, name_in three a, value_in three a)

settings-found : Hold named
    ((1, (0, text "A", text "b"))
    ∷ (2, (19, [], []))
    ∷ (4, (0, text "B C", text "d e"))
    ∷ [])
unfolding reading
settings-found = refl

-- the first setting from a line on, which may be that line; 0 is before all of them
next-found : Hold (λ (n : ℕ). next_line_in (items_of of_user three) n)
    ((0, Ok 1) ∷ (1, Ok 1) ∷ (2, Ok 4) ∷ (4, Ok 4) ∷ (5, Err NoSetting) ∷ [])
unfolding reading
next-found = refl

-- two settings of one name; no setting at all; a fault after the setting, and a table that is cut
next-in : Hold (λ (s : List ℕ). next_line_in (items_of of_user s) 1)
    ((text "#\nA=b\nA=c\n", Ok 2)
    ∷ (text "@reboot x\n", Err NoSetting)
    ∷ ([], Err NoSetting)
    ∷ (text "A=b\n60\n", Err OutOfLimits)
    ∷ (text "A=b", Err CutTable)
    ∷ [])
unfolding reading
next-in = refl

-- ---- U4: user columns, by the number of their entry: a refusal, and user, group and class

abbrev watch : List ℕ
watch = text "A=b\n @reboot u:g x\n0 * * * * v/c y\n@daily w:h/d z\n"

-- U4: user, group and class
abbrev parts_in : Result Owner Refusal → List Part
parts_in (Ok o) = o.user ∷ o.group ∷ o.class ∷ []
parts_in (Err refusal) = []

abbrev owned : Rules → ℕ → ℕ × List Part
owned rules i = let a = owner_in rules watch i in (refused_as a, parts_in a)

abbrev part : ℕ → ℕ → Part
part start end = record { start = start; end = end }

owners-found : Hold (owned of_system)
    ((0, (0, part 13 14 ∷ part 15 16 ∷ absent ∷ []))
    ∷ (1, (0, part 29 30 ∷ absent ∷ part 31 32 ∷ []))
    ∷ (2, (0, part 42 43 ∷ part 44 45 ∷ part 46 47 ∷ []))
    ∷ (3, (13, []))
    ∷ [])
unfolding reading
owners-found = refl

-- in a user table it is part of the command
nobody-found : Hold (owned of_user) ((0, (0, absent ∷ absent ∷ absent ∷ [])) ∷ (3, (13, [])) ∷ [])
unfolding reading
nobody-found = refl

-- ---- M5: whether an entry is due, by its local minute

due_at : List ℕ → ℕ → Result Bool Refusal
due_at s m = due_in (table_of of_user s) 0 m

-- an hour ahead, midnight is at 23:00
due-ahead : Hold (due_at (text "CRON_TZ=+01:00\n0 0 * * * x\n"))
    ((1380, Ok true)
    ∷ (1440, Ok false)
    ∷ (0, Ok false)
    ∷ [])
unfolding due_at zoning
due-ahead = refl

-- before 1970 locally, and from there on
due-behind : Hold (due_at (text "CRON_TZ=-12:00\n* * * * * x\n")) ((0, Ok false) ∷ (719, Ok false) ∷ (720, Ok true) ∷ [])
unfolding due_at zoning
due-behind = refl

-- up to the local calendar's end, after it, and after that of UTC, which comes later in the one and earlier in the other
due-last : Hold (due_at (text "CRON_TZ=+14:00\n* * * * * x\n"))
    ((last_minute, Ok false)
    ∷ (4223370839, Ok true)
    ∷ (4223370840, Ok false)
    ∷ (last_minute + 1, Err NotOnCalendar)
    ∷ [])
unfolding due_at zoning
due-last = refl

-- a minute off the calendar is refused, though it is on it locally, and one whose low 32 bits are the minute 720
due-off : Hold (due_at (text "CRON_TZ=-12:00\n* * * * * x\n"))
    ((last_minute, Ok true)
    ∷ (last_minute + 1, Err NotOnCalendar)
    ∷ (4294968016, Err NotOnCalendar)
    ∷ [])
unfolding due_at zoning
due-off = refl

next_at : List ℕ → ℕ → Result ℕ Refusal
next_at s m = next_in (table_of of_user s) 0 m

-- a quarter of an hour ahead, the hour is at 45 in UTC
next-ahead : Hold (next_at (text "CRON_TZ=+00:15\n0 * * * * x\n")) ((0, Ok 45) ∷ (45, Ok 105) ∷ (4223371679, Err PastEnd) ∷ [])
unfolding next_at zoning next_of next_answer next_in next_after_in firing_after_in firing_from_in can_fire
next-ahead = refl

-- before 1970 locally it is the first minute on the calendar there
next-behind : Hold (next_at (text "CRON_TZ=-03:30\n* * * * * x\n")) ((0, Ok 210) ∷ (209, Ok 210) ∷ (210, Ok 211) ∷ [])
unfolding next_at zoning next_of next_answer next_in next_after_in firing_after_in firing_from_in can_fire
next-behind = refl
