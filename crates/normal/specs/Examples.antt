-- Normal forms by table bytes (P2 to P7), checked by computing: rows of a table and its normal text.
-- Assumes nothing.
use Rattle.std.specs.Prelude.{ℕ, zero, suc, refl, true, false, List, [], ◌∷◌, ◌++◌, replicate, ℤ, pos, negsuc, Result, Ok, Err}
use Rattle.refusal.specs.declared.Refusal.{Refusal}
use Rattle.refusal.specs.declared.Refusal.TheVariants.{BadSetting, TooShort, TooLong, CutTable}
use Rattle.octets.specs.Texts.{text}
use Rattle.octets.specs.Rows.{Hold}
use Rattle.field.specs.declared.Dialect.TheVariants.{Rising, Wrapping}
use Rattle.line.specs.Offsets.{utc}
use Rattle.crontab.specs.Items.{items_of}
use Rattle.normal.specs.Meanings.{of_user, meaning_of, offsets_from, entry_offsets}
use Rattle.normal.specs.Texts.{normal_text}
use Rattle.normal.specs.Proper.{is_name, is_value, is_command}
use Rattle.normal.specs.NormalForms.{normal_form}
use Rattle.normal.specs.Computing.{writing}

abbrev written : List ℕ → List ℕ
written s = normal_text (meaning_of Rising s)

settings : Hold written
    -- no blanks but within
    ((text " A\t=  b c \n", text "A=b c\n")
    -- quotes that do nothing go
    ∷ (text "\"A\" = 'b\"c'\n", text "A=b\"c\n")
    -- a name that has a blank, `=` or a quote, or would start another line
    ∷ (text "'A B'=c\n", text "\"A B\"=c\n")
    ∷ (text "'A=B'=c\n", text "\"A=B\"=c\n")
    ∷ (text "\"A'B\"=c\n", text "\"A'B\"=c\n")
    ∷ (text "'A\"B'=c\n", text "'A\"B'=c\n")
    ∷ (text "'1A'=c\n", text "\"1A\"=c\n")
    ∷ (text "'*'=c\n", text "\"*\"=c\n")
    ∷ (text "'@A'=c\n", text "\"@A\"=c\n")
    ∷ (text "'#A'=c\n", text "\"#A\"=c\n")
    ∷ (text "A1@#*=c\n", text "A1@#*=c\n")
    -- an empty value is bare
    ∷ (text "A=''\n", text "A=\n")
    -- a value that starts with a blank or a quote, or ends with a blank: in double quotes if it has none
    ∷ (text "A=' b'\n", text "A=\" b\"\n")
    ∷ (text "A='b\t'\n", text "A=\"b\t\"\n")
    ∷ (text "A=' '\n", text "A=\" \"\n")
    ∷ (text "A=\"'b\"\n", text "A=\"'b\"\n")
    ∷ (text "A='\"b'\n", text "A='\"b'\n")
    ∷ (text "A='b\" '\n", text "A='b\" '\n")
    ∷ (text "A=b'\"c\n", text "A=b'\"c\n")
    ∷ (text "A=b=#@1\n", text "A=b=#@1\n")
    ∷ [])
unfolding writing
settings = refl

entries : Hold written
    -- `@reboot` stays, and other words become fields
    ((text "@reboot\t x y \n", text "@reboot x y \n")
    ∷ (text "@yearly x\n", text "0 0 1 1 * x\n")
    ∷ (text "@monthly x\n", text "0 0 1 * * x\n")
    ∷ (text "@weekly x\n", text "0 0 * * 0 x\n")
    ∷ (text "@daily x\n", text "0 0 * * * x\n")
    ∷ (text "@hourly x\n", text "0 * * * * x\n")
    -- Sunday as 0, and names as numbers
    ∷ (text "0 0 * * 7 x\n", text "0 0 * * 0 x\n")
    ∷ (text "0 0 1 Feb,jan fri-sun x\n", text "0 0 1 1,2 0,5,6 x\n")
    -- a star is kept, and its step the smallest
    ∷ (text "*/9999 */1 */7 */6 */9 x\n", text "*/60 * */7 */6 */7 x\n")
    ∷ (text "0-59/30 0-23/12 */31 1-12/6 0-6/3 x\n", text "0,30 0,12 */31 1,7 0,3,6 x\n")
    -- single spaces before the command, which is copied raw
    ∷ (text "  30,5-10/5,5\t4  1 1 1\t#a  b%\\%c \n", text "5,10,30 4 1 1 1 #a  b%\\%c \n")
    ∷ [])
unfolding writing
entries = refl

tables : Hold written
    (([], [])
    -- comments and blank lines vanish, and the order stays
    ∷ (text "#a\n\n \n\t# b\n", [])
    ∷ (text "B=c\n#\n@daily x\n\nA=b\n@reboot y\nA=b\n", text "B=c\n0 0 * * * x\nA=b\n@reboot y\nA=b\n")
    ∷ [])
unfolding writing
tables = refl

-- ---- the call: a table and a buffer, and what comes back with the buffer as it is then

abbrev call : List ℕ × List ℕ → Result ℕ Refusal × List ℕ
call (s, buffer) = let f = normal_form Rising s buffer in (f.answer, f.buffer)

-- a line of 13 bytes and n more, which is written in 178 and n
abbrev long : ℕ → List ℕ
long n = text "0-59 * * * * " ++ replicate n 97

-- so many lines that are written in 1,000 bytes each and a newline
lines : ℕ → List ℕ
lines zero = []
lines (suc n) = long 822 ++ 10 ∷ lines n

calls : Hold call
    -- the bytes after it stay
    (((text "A = b\n", text "123456"), (Ok 4, text "A=b\n56"))
    -- just enough room, and a byte less
    ∷ ((text "A = b\n", text "1234"), (Ok 4, text "A=b\n"))
    ∷ ((text "A = b\n", text "123"), (Err TooShort, text "123"))
    -- nothing needs no room
    ∷ ((text "#\n", []), (Ok 0, []))
    ∷ (([], text "1"), (Ok 0, text "1"))
    -- the table's refusal comes first
    ∷ ((text "A\n", text "123"), (Err BadSetting, text "123"))
    ∷ ((text "A = b", text "123"), (Err CutTable, text "123"))
    ∷ ((long 823 ++ text "\nA\n", []), (Err BadSetting, []))
    -- a line as long as it may be, and a byte more, which comes before a short buffer
    ∷ ((long 822 ++ text "\n", text "1"), (Err TooShort, text "1"))
    ∷ ((long 823 ++ text "\n", text "1"), (Err TooLong, text "1"))
    -- a table that is written in 49,049 bytes and 103, which it may have, and in one more
    ∷ ((lines 49 ++ text "@reboot " ++ replicate 94 97 ++ text "\n", text "1"), (Err TooShort, text "1"))
    ∷ ((lines 49 ++ text "@reboot " ++ replicate 95 97 ++ text "\n", text "1"), (Err TooLong, text "1"))
    ∷ [])
unfolding lines writing
calls = refl

-- ---- what no line can mean

names : Hold is_name
    ((text "A", true)
    ∷ (text "1 \"", true)
    ∷ (text "# '=", true)
    ∷ ([], false)
    ∷ (text "A\"'", false)
    ∷ (text "'\"A\"", false)
    ∷ (text "A\nB", false)
    ∷ (65 ∷ 0 ∷ [], false)
    ∷ (65 ∷ 1 ∷ [], false)
    ∷ (128 ∷ 9 ∷ [], true)
    ∷ [])
unfolding writing
names = refl

values : Hold is_value
    (([], true)
    ∷ (text " \"", true)
    ∷ (text "' ", true)
    ∷ (text "a\"'", true)
    ∷ (text "\"'", false)
    ∷ (text "a\"' ", false)
    ∷ (text " \"'", false)
    ∷ (text "a\n", false)
    ∷ (0 ∷ [], false)
    ∷ (127 ∷ [], false)
    ∷ (9 ∷ 126 ∷ 128 ∷ [], true)
    ∷ [])
unfolding writing
values = refl

commands : Hold is_command
    ((text "x ", true)
    ∷ ([], false)
    ∷ (text " x", false)
    ∷ (text "x\ny", false)
    ∷ (120 ∷ 0 ∷ [], false)
    ∷ (120 ∷ 13 ∷ [], false)
    ∷ (120 ∷ 9 ∷ 255 ∷ [], true)
    ∷ [])
unfolding writing
commands = refl

-- ---- P10: a table in the wrapping dialect, and its normal form read in the rising one; no range or name is left in it

abbrev rewritten : List ℕ → List ℕ × (List ℕ × List ℕ)
rewritten s =
    let t = normal_text (meaning_of Wrapping s) in
    (t, (normal_text (meaning_of Rising t), normal_text (meaning_of Wrapping t)))

thrice : List ℕ → List ℕ × (List ℕ × List ℕ)
thrice t = (t, (t, t))

wrapped : Hold rewritten
    ((text "0 22-3 * * * x\n", thrice (text "0 0,1,2,3,22,23 * * * x\n"))
    ∷ (text "59-0 * 31-1 nov-jan * x\n", thrice (text "0,59 * 1,31 1,11,12 * x\n"))
    ∷ (text "0 0 * * fri-sun x\n", thrice (text "0 0 * * 0,5,6 x\n"))
    -- Sunday alone, by a step past the last weekday too
    ∷ (text "0 0 * * 0-sun x\n", thrice (text "0 0 * * 0 x\n"))
    ∷ (text "0 0 * * */7 x\n", thrice (text "0 0 * * */7 x\n"))
    ∷ (text "0 0 * * */9 x\n", thrice (text "0 0 * * */7 x\n"))
    ∷ (text "0 0 * * */6 x\n", thrice (text "0 0 * * */6 x\n"))
    ∷ (text "0 0 * * sun-sat x\n", thrice (text "0 0 * * 0,1,2,3,4,5,6 x\n"))
    ∷ [])
unfolding writing thrice
wrapped = refl

-- ---- P1: the offsets that a table's entries are under, by its meaning and as they have them

abbrev offsets : List ℕ → List ℤ × List ℤ
offsets s = (offsets_from utc (meaning_of Rising s), entry_offsets (items_of (of_user Rising) s))

under : Hold offsets
    (
    -- each until the next one; another setting changes none
    (
      text "@reboot a\nCRON_TZ=-03:30\n@reboot b\nA=+01:00\n0 0 * * * c\n'CRON_TZ'='+05:45'\n#\n@reboot d\n@reboot e\n",
      (pos 0 ∷ negsuc 209 ∷ negsuc 209 ∷ pos 345 ∷ pos 345 ∷ [], pos 0 ∷ negsuc 209 ∷ negsuc 209 ∷ pos 345 ∷ pos 345 ∷ []),
    )
    ∷ (text "CRON_TZ=+01:00\n", ([], []))
    ∷ [])
unfolding offsets_from entry_offsets writing
under = refl
