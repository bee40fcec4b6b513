-- Known days and fields, as one claim about the definitions that the promises cite. The next firings are of tables of one line, the command
-- `a` and its newline, as the numbers that C gets. It is proved in proofs/Theorems.
-- Assumes nothing.
use Rattle.std.specs.Prelude.{◌≡◌, true, false, [], ◌∷◌, Some, Ok, Err, IsOk}
use Rattle.refusal.specs.declared.Refusal.TheVariants.{Malformed, Reversed, NotOnCalendar}
use Rattle.octets.specs.Texts.{text}
use Rattle.octets.specs.Sets.{set_of}
use Rattle.calendar.specs.Dates.{date_of, minute_of}
use Rattle.field.specs.Limits.{minute_limits, month_limits, weekday_limits}
use Rattle.field.specs.Fields.{read_field}
use Rattle.command.specs.Parts.{shell_line, input_of}
use Rattle.eremothyn.specs.Calls.{next_call}
use Rattle.field.specs.Judgement.{refuses, means}

abbrev pub KnownDays : Type 0
KnownDays =
    -- minute 15,863,040 is 2000-02-29 00:00, Tuesday
    (date_of 15863040 ≡ Ok (record { year = 2000; month = 2; day = 29; hour = 0; minute = 0; weekday = 2 }))
    -- 4,223,371,679 is accepted, 4,223,371,680 is 14
    × IsOk (date_of 4223371679)
    × (date_of 4223371680 ≡ Err NotOnCalendar)
    -- 2100-02-29: 14
    × (minute_of 2100 2 29 0 0 ≡ Err NotOnCalendar)
    -- `0 0 29 2 *` after 66,355,200
    × (next_call (text "0 0 29 2 * a\n") 0 0 0 66355200 ≡ 70561440)
    -- `30 4 1,15 * 5` after 0
    × (next_call (text "30 4 1,15 * 5 a\n") 0 0 0 0 ≡ 270)
    -- `30 4 1,15 * 5` after 270
    × (next_call (text "30 4 1,15 * 5 a\n") 0 0 0 270 ≡ 1710)
    -- `0 0 30 2 *`, never: 16
    × (next_call (text "0 0 30 2 * a\n") 0 0 0 0 ≡ 4294967312)
    -- `0 0 30 2 1` after 0
    × (next_call (text "0 0 30 2 1 a\n") 0 0 0 0 ≡ 46080)
    -- `0 0 31 12 *` after 4,223,371,679, past the end: 17
    × (next_call (text "0 0 31 12 * a\n") 0 0 0 4223371679 ≡ 4294967313)
    -- `*/2` as month: 1, 3, 5, 7, 9, 11; it begins with a star
    × (read_field month_limits 1 (text "*/2") ≡ means (set_of (1 ∷ 3 ∷ 5 ∷ 7 ∷ 9 ∷ 11 ∷ [])) true)
    -- `10-10` is 10; `10-9` is 7; `5/2` and `*,5` are 5
    × (read_field minute_limits 1 (text "10-10") ≡ means (set_of (10 ∷ [])) false)
    × (read_field minute_limits 1 (text "10-9") ≡ refuses Reversed 1)
    × (read_field minute_limits 1 (text "5/2") ≡ refuses Malformed 1)
    × (read_field minute_limits 1 (text "*,5") ≡ refuses Malformed 1)
    -- `5-7` as weekday: Friday, Saturday, Sunday
    × (read_field weekday_limits 1 (text "5-7") ≡ means (set_of (5 ∷ 6 ∷ 0 ∷ [])) false)
    -- command `a\%b%c%%d%`: shell line `a%b`; input `c`, newline, newline, `d`, newline
    × (shell_line (text "a\\%b%c%%d%") ≡ text "a%b")
    × (input_of (text "a\\%b%c%%d%") ≡ Some (text "c\n\nd\n"))
