-- P6 and P7 over all bytes: which bytes of a name and of a value ask for quotes, and for which; which bytes no line can have; each step and
-- each value of the five fields, written back in both dialects; and lines and tables as long as they may be, and one byte longer.
-- In the comments `?` is the byte that is tried.
-- Assumes nothing.
use Rattle.std.specs.Prelude.{ℕ, ◌+◌, ◌/◌, ◌%◌, ◌≡◌, refl, Bool, true, false, cond, List, [], ◌∷◌, ◌++◌, map, replicate, ltb, Result, Ok, Err}
use Rattle.refusal.specs.declared.Refusal.{Refusal}
use Rattle.refusal.specs.declared.Refusal.TheVariants.{OutOfLimits, Reversed, BadSetting, TooShort, TooLong, CutTable}
use Rattle.octets.specs.Texts.{text}
use Rattle.octets.specs.Rows.{Hold}
use Rattle.octets.specs.AllBytes.{Range, LeadAmong, Lead, one, range, each, one_of, trying}
use Rattle.octets.specs.Sets.{set_of, up_to}
use Rattle.field.specs.declared.Dialect.TheVariants.{Rising, Wrapping}
use Rattle.normal.specs.Meanings.{Item, setting, boot, timed, entries_in, meaning_of, line_items}
use Rattle.normal.specs.Texts.{item_text, normal_text, are_short, fits}
use Rattle.normal.specs.Proper.{is_name, is_value, is_command, is_item, are_items}
use Rattle.normal.specs.NormalForms.{normal_form}
use Rattle.normal.specs.Computing.{writing}

-- ---- quotes

-- the bytes that a line may have
abbrev allowed : List ℕ
allowed = 9 ∷ up_to 32 126 ++ up_to 128 255

-- where each of them leads
abbrev Writes : (ℕ → Item) → List (Range (List ℕ)) → (ℕ → List ℕ) → Type 0
Writes item ranges other = LeadAmong allowed (λ b. item_text (item b)) ranges other

-- some bytes, by what is written of them
abbrev these : List ℕ → (ℕ → List ℕ) → List (Range (List ℕ))
these s leads = map (λ b. each b b leads) s

-- blanks, `=` and a single quote
abbrev apart : List ℕ
apart = text " \t='"

-- what starts a comment or an entry
abbrev starting : List ℕ
starting = text "#*@0123456789"

-- the name `?`, and `?A`: in quotes where a bare line would be another, in single ones for a double quote
name-alone : Writes (λ b. setting (b ∷ []) (text "v"))
    (these (apart ++ starting) (λ b. 34 ∷ b ∷ text "\"=v") ++ one 34 (text "'\"'=v") ∷ [])
    (λ b. b ∷ text "=v")
unfolding trying writing
name-alone = refl

name-first : Writes (λ b. setting (b ∷ text "A") (text "v"))
    (these (apart ++ starting) (λ b. 34 ∷ b ∷ text "A\"=v") ++ one 34 (text "'\"A'=v") ∷ [])
    (λ b. b ∷ text "A=v")
unfolding trying writing
name-first = refl

-- `A?B`, and `A?`
name-middle : Writes (λ b. setting (65 ∷ b ∷ text "B") (text "v"))
    (these apart (λ b. text "\"A" ++ b ∷ text "B\"=v") ++ one 34 (text "'A\"B'=v") ∷ [])
    (λ b. 65 ∷ b ∷ text "B=v")
unfolding trying writing
name-middle = refl

name-last : Writes (λ b. setting (65 ∷ b ∷ []) (text "v"))
    (these apart (λ b. text "\"A" ++ b ∷ text "\"=v") ++ one 34 (text "'A\"'=v") ∷ [])
    (λ b. 65 ∷ b ∷ text "=v")
unfolding trying writing
name-last = refl

-- the value `?`, and `?c`
value-alone : Writes (λ b. setting (text "A") (b ∷ []))
    (these (text " \t'") (λ b. text "A=\"" ++ b ∷ text "\"") ++ one 34 (text "A='\"'") ∷ [])
    (λ b. text "A=" ++ b ∷ [])
unfolding trying writing
value-alone = refl

value-first : Writes (λ b. setting (text "A") (b ∷ text "c"))
    (these (text " \t'") (λ b. text "A=\"" ++ b ∷ text "c\"") ++ one 34 (text "A='\"c'") ∷ [])
    (λ b. text "A=" ++ b ∷ text "c")
unfolding trying writing
value-first = refl

-- `c?d` is bare, whatever the byte; `c?` isn't where the byte is blank
value-middle : Writes (λ b. setting (text "A") (99 ∷ b ∷ text "d")) [] (λ b. text "A=c" ++ b ∷ text "d")
unfolding trying writing
value-middle = refl

value-last : Writes (λ b. setting (text "A") (99 ∷ b ∷ [])) (these (text " \t") (λ b. text "A=\"c" ++ b ∷ text "\"")) (λ b. text "A=c" ++ b ∷ [])
unfolding trying writing
value-last = refl

-- `c"?`: in single quotes then; `c'?` in double ones
value-double : Writes (λ b. setting (text "A") (text "c\"" ++ b ∷ [])) (these (text " \t") (λ b. text "A='c\"" ++ b ∷ text "'")) (λ b. text "A=c\"" ++ b ∷ [])
unfolding trying writing
value-double = refl

value-single : Writes (λ b. setting (text "A") (text "c'" ++ b ∷ [])) (these (text " \t") (λ b. text "A=\"c'" ++ b ∷ text "\"")) (λ b. text "A=c'" ++ b ∷ [])
unfolding trying writing
value-single = refl

-- a command is copied, whatever its bytes
raw : Writes (λ b. boot (120 ∷ b ∷ [])) [] (λ b. text "@reboot x" ++ b ∷ [])
unfolding trying writing
raw = refl

-- ---- what no line can mean: newline, byte 0 and control bytes, in each place; both quotes, a blank before a command

abbrev in_no_line : List (Range Bool)
in_no_line = range 0 8 false ∷ range 10 31 false ∷ one 127 false ∷ []

names : Lead (λ b. is_name (b ∷ text "A")) in_no_line (λ b. true)
unfolding trying writing
names = refl

names-last : Lead (λ b. is_name (65 ∷ b ∷ [])) in_no_line (λ b. true)
unfolding trying writing
names-last = refl

-- `'?`
names-quoted : Lead (λ b. is_name (39 ∷ b ∷ [])) (in_no_line ++ one 34 false ∷ []) (λ b. true)
unfolding trying writing
names-quoted = refl

values : Lead (λ b. is_value (b ∷ text "c")) in_no_line (λ b. true)
unfolding trying writing
values = refl

values-last : Lead (λ b. is_value (99 ∷ b ∷ [])) in_no_line (λ b. true)
unfolding trying writing
values-last = refl

-- `"'?` starts with a quote, and `c"'?` doesn't
values-quoted : Lead (λ b. is_value (text "\"'" ++ b ∷ [])) [] (λ b. false)
unfolding trying writing
values-quoted = refl

values-ended : Lead (λ b. is_value (text "c\"'" ++ b ∷ [])) (in_no_line ++ one_of (text " \t") false) (λ b. true)
unfolding trying writing
values-ended = refl

commands : Lead (λ b. is_command (b ∷ text "x")) (in_no_line ++ one_of (text " \t") false) (λ b. true)
unfolding trying writing
commands = refl

commands-last : Lead (λ b. is_command (120 ∷ b ∷ [])) in_no_line (λ b. true)
unfolding trying writing
commands-last = refl

-- ---- the five fields

-- a number of one digit or two
abbrev number : ℕ → List ℕ
number n = cond (ltb n 10) ((48 + n) ∷ []) ((48 + n / 10) ∷ (48 + n % 10) ∷ [])

-- a table's normal text in both dialects
abbrev both : List ℕ → List (List ℕ)
both s = normal_text (meaning_of Rising s) ∷ normal_text (meaning_of Wrapping s) ∷ []

abbrev twice : List ℕ → List (List ℕ)
twice t = t ∷ t ∷ []

-- a field's text, with what is before it and after it
abbrev Fields : List ℕ → List ℕ → (ℕ → List ℕ) → ℕ → ℕ → Type 0
Fields before after field first last =
    map (λ n. both (before ++ field n ++ after)) (up_to first last) ≡ map (λ n. twice (before ++ field n ++ after)) (up_to first last)

-- each step from 2 to the last that keeps a second value is written as itself
abbrev step : ℕ → List ℕ
step n = text "*/" ++ number n

minute-steps : Fields [] (text " 0 1 1 1 x\n") step 2 60
unfolding writing
minute-steps = refl

hour-steps : Fields (text "0 ") (text " 1 1 1 x\n") step 2 24
unfolding writing
hour-steps = refl

day-steps : Fields (text "0 0 ") (text " 1 1 x\n") step 2 31
unfolding writing
day-steps = refl

month-steps : Fields (text "0 0 1 ") (text " 1 x\n") step 2 12
unfolding writing
month-steps = refl

weekday-steps : Fields (text "0 0 1 1 ") (text " x\n") step 2 7
unfolding writing
weekday-steps = refl

-- and one more is written as the last, step 1 as `*`
beyond : Hold both
    ((text "*/61 */25 */32 */13 */8 x\n", twice (text "*/60 */24 */31 */12 */7 x\n"))
    ∷ (text "*/1 */1 */1 */1 */1 x\n", twice (text "* * * * * x\n"))
    ∷ (text "*/9999 */9999 */9999 */9999 */9999 x\n", twice (text "*/60 */24 */31 */12 */7 x\n"))
    -- every value, but no star
    ∷ (text "0-59/59 0-23 1-31/30 1-12 0-6 x\n", twice (text "0,59 0,1,2,3,4,5,6,7,8,9,10,11,12,13,14,15,16,17,18,19,20,21,22,23 1,31 1,2,3,4,5,6,7,8,9,10,11,12 0,1,2,3,4,5,6 x\n"))
    ∷ [])
unfolding writing
beyond = refl

-- each value alone is written as itself
minute-values : Fields [] (text " 0 1 1 1 x\n") number 0 59
unfolding writing
minute-values = refl

hour-values : Fields (text "0 ") (text " 1 1 1 x\n") number 0 23
unfolding writing
hour-values = refl

day-values : Fields (text "0 0 ") (text " 1 1 x\n") number 1 31
unfolding writing
day-values = refl

month-values : Fields (text "0 0 1 ") (text " 1 x\n") number 1 12
unfolding writing
month-values = refl

weekday-values : Fields (text "0 0 1 1 ") (text " x\n") number 0 6
unfolding writing
weekday-values = refl

-- ---- a table with every kind of line, in both dialects

every : Hold both
    ((
      text "# a\n\n \tPATH = /bin \n'A B'=' c'\nCRON_TZ = '-12:00'\n@annually\tx\n@reboot  y %z\n\t5,1 */2 * jan sun  w \n",
      twice (text "PATH=/bin\n\"A B\"=\" c\"\nCRON_TZ=-12:00\n0 0 1 1 * x\n@reboot y %z\n1,5 */2 * 1 0 w \n"),
    )
    ∷ [])
unfolding writing
every = refl

-- ---- lengths

-- every minute of every day, with a command
abbrev always : List ℕ → Item
always command =
    timed
    (record {
      minutes = set_of (up_to 0 59);
      hours = set_of (up_to 0 23);
      days = set_of (up_to 1 31);
      months = set_of (up_to 1 12);
      weekdays = set_of (up_to 0 6);
      stars = record { minutes = true; hours = true; days = true; months = true; weekdays = true };
    })
    command

-- a line of each kind, of 1,000 bytes and of one more; quotes count
lengths : Hold are_short
    ((boot (replicate 992 97) ∷ [], true)
    ∷ (boot (replicate 993 97) ∷ [], false)
    ∷ (always (replicate 990 97) ∷ [], true)
    ∷ (always (replicate 991 97) ∷ [], false)
    ∷ (setting (text "A") (replicate 998 97) ∷ [], true)
    ∷ (setting (text "A") (replicate 999 97) ∷ [], false)
    ∷ (setting (replicate 998 65) (text "b") ∷ [], true)
    ∷ (setting (replicate 998 65) (text "bc") ∷ [], false)
    ∷ (setting (text "A") (32 ∷ replicate 995 97) ∷ [], true)
    ∷ (setting (text "A") (32 ∷ replicate 996 97) ∷ [], false)
    ∷ (setting (64 ∷ replicate 996 65) [] ∷ [], true)
    ∷ (setting (64 ∷ replicate 997 65) [] ∷ [], false)
    -- each of them
    ∷ ([], true)
    ∷ (boot (text "x") ∷ boot (replicate 993 97) ∷ [], false)
    ∷ (boot (replicate 993 97) ∷ boot (text "x") ∷ [], false)
    ∷ [])
unfolding writing
lengths = refl

-- 49,049 bytes in 49 lines; and one more line, with its newline
tables : Hold (λ (i : Item). fits (replicate 49 (boot (replicate 992 97)) ++ i ∷ []))
    ((boot (replicate 94 97), true)
    ∷ (boot (replicate 95 97), false)
    ∷ (always (replicate 92 97), true)
    ∷ (always (replicate 93 97), false)
    ∷ (setting (text "A") (replicate 100 97), true)
    ∷ (setting (text "A") (replicate 101 97), false)
    ∷ (setting (text "A") (32 ∷ replicate 97 97), true)
    ∷ (setting (text "A") (32 ∷ replicate 98 97), false)
    ∷ [])
unfolding writing
tables = refl

-- the call in both dialects: a table's refusal, then R21, then R18; refused, the buffer stays
abbrev calls : List ℕ × List ℕ → List ((Result ℕ Refusal) × List ℕ)
calls (s, buffer) =
    let f = normal_form Rising s buffer in
    let g = normal_form Wrapping s buffer in
    (f.answer, f.buffer) ∷ (g.answer, g.buffer) ∷ []

abbrev same : Result ℕ Refusal → List ℕ → List ((Result ℕ Refusal) × List ℕ)
same answer buffer = (answer, buffer) ∷ (answer, buffer) ∷ []

-- a line that is written in 178 bytes and n more
abbrev long : ℕ → List ℕ
long n = text "0-59 * * * * " ++ replicate n 97 ++ text "\n"

refusals : Hold calls
    (((long 822, text "12"), same (Err TooShort) (text "12"))
    ∷ ((long 823, text "12"), same (Err TooLong) (text "12"))
    ∷ ((long 823 ++ text "A\n", text "12"), same (Err BadSetting) (text "12"))
    ∷ ((text "A= b", text "12"), same (Err CutTable) (text "12"))
    -- by the dialect: 7 and 6 are refused in one of them only
    ∷ ((text "0 0 1 1 1-0 x\n", text "1"), (Err Reversed, text "1") ∷ (Err TooShort, text "1") ∷ [])
    ∷ ((text "0 0 1 1 7 x\n", text "1"), (Err TooShort, text "1") ∷ (Err OutOfLimits, text "1") ∷ [])
    -- written, and the bytes after it stay
    ∷ ((text "@reboot  x\n", text "12345678901234"), same (Ok 10) (text "@reboot x\n1234"))
    ∷ [])
unfolding writing
refusals = refl

-- ---- what doesn't pass

-- one command, and the command that no line has
abbrev good : Item
good = boot (text "x")

abbrev bad : Item
bad = boot (text " x")

abbrev at : ℕ → ℕ → ℕ → ℕ → ℕ → Item
at minutes hours days months weekdays =
    timed
    (record {
      minutes = minutes;
      hours = hours;
      days = days;
      months = months;
      weekdays = weekdays;
      stars = record { minutes = false; hours = false; days = false; months = false; weekdays = false };
    })
    (text "x")

items : Hold is_item
    ((good, true)
    ∷ (bad, false)
    ∷ (boot [], false)
    ∷ (always (text "x"), true)
    ∷ (always (text " x"), false)
    ∷ (always [], false)
    -- an empty set, and a bit past the last in each field
    ∷ (at 1 1 2 2 1, true)
    ∷ (at 0 1 2 2 1, false)
    ∷ (at 1 0 2 2 1, false)
    ∷ (at 1 1 0 2 1, false)
    ∷ (at 1 1 2 0 1, false)
    ∷ (at 1 1 2 2 0, false)
    ∷ (at (set_of (60 ∷ [])) 1 2 2 1, false)
    ∷ (at 1 (set_of (24 ∷ [])) 2 2 1, false)
    ∷ (at 1 1 (set_of (32 ∷ [])) 2 1, false)
    ∷ (at 1 1 2 (set_of (13 ∷ [])) 1, false)
    ∷ (at 1 1 2 2 (set_of (7 ∷ [])), false)
    ∷ (at 1 1 (set_of (0 ∷ [])) 2 1, false)
    ∷ (at 1 1 2 (set_of (0 ∷ [])) 1, false)
    -- names, values, and the offset of `CRON_TZ`
    ∷ (setting (text "A") [], true)
    ∷ (setting [] (text "b"), false)
    ∷ (setting (text "\"'") (text "b"), false)
    ∷ (setting (text "A") (text "\"'"), false)
    ∷ (setting (text "CRON_TZ") (text "+14:00"), true)
    ∷ (setting (text "CRON_TZ") (text "+14:01"), false)
    ∷ (setting (text "CRON_TZ") [], false)
    ∷ (setting (text "CRON_TZ ") [], true)
    ∷ [])
unfolding writing
items = refl

-- each of them
all-items : Hold are_items
    (([], true) ∷ (good ∷ good ∷ [], true) ∷ (bad ∷ [], false) ∷ (bad ∷ good ∷ [], false) ∷ (good ∷ bad ∷ [], false) ∷ (good ∷ good ∷ bad ∷ [], false) ∷ [])
unfolding writing
all-items = refl

counts : Hold entries_in
    (([], 0) ∷ (setting (text "A") [] ∷ [], 0) ∷ (good ∷ setting (text "A") [] ∷ at 1 1 2 2 1 ∷ [], 2) ∷ (replicate 513 good, 513) ∷ [])
unfolding writing
counts = refl

-- a line of any length; and none where it is refused, or ignored
abbrev means : List ℕ → List (List Item)
means s = line_items Rising s ∷ line_items Wrapping s ∷ []

lines : Hold means
    ((text "@reboot " ++ replicate 1993 97, (boot (replicate 1993 97) ∷ []) ∷ (boot (replicate 1993 97) ∷ []) ∷ [])
    ∷ (text "A = '" ++ replicate 1995 97 ++ text "'", (setting (text "A") (replicate 1995 97) ∷ []) ∷ (setting (text "A") (replicate 1995 97) ∷ []) ∷ [])
    ∷ (text "0 0 1 1 0 x", (at 1 1 2 2 1 ∷ []) ∷ (at 1 1 2 2 1 ∷ []) ∷ [])
    ∷ (text "0 0 1 1 7 x", (at 1 1 2 2 1 ∷ []) ∷ [] ∷ [])
    ∷ (text "0 0 1 1 1-0 x", [] ∷ (at 1 1 2 2 127 ∷ []) ∷ [])
    ∷ (text "A", [] ∷ [] ∷ [])
    ∷ (text "#A=b", [] ∷ [] ∷ [])
    ∷ (text "CRON_TZ=x", [] ∷ [] ∷ [])
    ∷ ([], [] ∷ [] ∷ [])
    ∷ [])
unfolding writing
lines = refl
