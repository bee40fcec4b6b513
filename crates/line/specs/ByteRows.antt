-- Every decision that a line's next byte makes, over all 256 bytes; the lists of words and of refusals whole; and lines that are almost of
-- their form, or just too long.
-- In the comments `?` is the byte that is tried.
-- Assumes nothing.
use Rattle.std.specs.Prelude.{ℕ, ◌+◌, ◌-◌, ◌*◌, ◌≡◌, refl, Bool, true, false, List, [], ◌∷◌, ◌++◌, map, replicate, ℤ, pos, negsuc, Some, None, Ok, Err, Result}
use Rattle.refusal.specs.declared.Refusal.{Refusal}
use Rattle.refusal.specs.declared.Refusal.TheVariants.{LineTooLong, NulByte, TooFewFields, Malformed, OutOfLimits, StepZero, NoCommand, UnknownWord, BadSetting, BadUser, BadOffset, ControlByte}
use Rattle.refusal.specs.Numbers.{number_of}
use Rattle.octets.specs.Texts.{text}
use Rattle.octets.specs.Rows.{Hold}
use Rattle.octets.specs.AllBytes.{Range, LeadAmong, one, range, each, blank, digit, one_of, line_bytes, passing_at, trying}
use Rattle.octets.specs.Sets.{set_of}
use Rattle.field.specs.declared.Dialect.TheVariants.{Rising, Wrapping}
use Rattle.line.specs.declared.Rules.{Rules}
use Rattle.line.specs.declared.Kind.TheVariants.{User, System}
use Rattle.line.specs.declared.time.When.{When}
use Rattle.line.specs.declared.time.When.TheVariants.{Reboot, Timed}
use Rattle.line.specs.declared.Line.{Line}
use Rattle.line.specs.declared.Line.TheVariants.{Ignored, Setting, Entry}
use Rattle.line.specs.Refusals.{line_too_long, nul_byte, too_few_fields, no_command, unknown_word, bad_setting, bad_user, bad_offset, control_byte}
use Rattle.line.specs.Words.{Named, meanings}
use Rattle.line.specs.Lines.{read_line}
use Rattle.line.specs.Computing.{reading}
use Rattle.field.specs.declared.Fault.{Fault}

-- ---- a line in a user's table in the first dialect, and in a system's in the second

abbrev in_first : Rules
in_first = record { kind = User; dialect = Rising }

abbrev in_second : Rules
in_second = record { kind = System; dialect = Wrapping }

abbrev lines : List ℕ → List (Result Line Fault)
lines s = read_line in_first s ∷ read_line in_second s ∷ []

-- the same in both, or by the kind
abbrev always : Result Line Fault → List (Result Line Fault)
always l = l ∷ l ∷ []

abbrev by_table : Result Line Fault → Result Line Fault → List (Result Line Fault)
by_table user system = user ∷ system ∷ []

abbrev refused : Refusal → ℕ → Result Line Fault
refused refusal column = Err (record { refusal = refusal; column = column })

-- name and value from a place to before another
abbrev setting : ℕ → ℕ → ℕ → ℕ → Result Line Fault
setting n m v w = Ok (Setting (record { start = n; end = m }) (record { start = v; end = w }) None)

abbrev zone : ℕ → ℕ → ℕ → ℕ → ℤ → Result Line Fault
zone n m v w minutes = Ok (Setting (record { start = n; end = m }) (record { start = v; end = w }) (Some minutes))

-- byte 0, and the control bytes of T5, at a column; all other bytes may be in a line
abbrev faults_at : {B : Type 0} → (Result Line Fault → B) → ℕ → List (Range B)
faults_at outcome column =
    one 0 (outcome (refused NulByte column))
    ∷ range 1 8 (outcome (refused ControlByte column))
    ∷ range 11 31 (outcome (refused ControlByte column))
    ∷ one 127 (outcome (refused ControlByte column))
    ∷ []

-- where each byte of a line leads, at a column
abbrev Leads : (ℕ → List ℕ) → ℕ → List (Range (List (Result Line Fault))) → List (Result Line Fault) → Type 0
Leads line column ranges other = LeadAmong line_bytes (λ b. lines (line b)) (faults_at always column ++ ranges) (λ b. other)

-- the same of a line that can't be an entry: it is read the same under all rules (`other-line` of proofs/Theorems)
abbrev LeadsOnce : (ℕ → List ℕ) → ℕ → List (Range (Result Line Fault)) → Result Line Fault → Type 0
LeadsOnce line column ranges other = LeadAmong line_bytes (λ b. read_line in_first (line b)) (faults_at (λ l. l) column ++ ranges) (λ b. other)

-- ---- the first byte of a line

-- `?=c`: a digit or `*` starts a field, `@` a word, `#` a comment, and every other byte a name; a blank is skipped
first_byte_lem : Leads (λ b. b ∷ text "=c") 1
    (digit (always (refused Malformed 1))
    ++ one 42 (always (refused Malformed 1))
    ∷ one 64 (always (refused UnknownWord 1))
    ∷ one 35 (always (Ok Ignored))
    ∷ blank (always (refused BadSetting 2))
    ++ one_of (text "=\"'") (always (refused BadSetting 1)))
    (always (setting 0 1 2 3))
unfolding trying reading
first_byte_lem = refl

-- a space, a tab and `?=c`: blanks before it change nothing
first-after-blanks : Leads (λ b. text " \t" ++ b ∷ text "=c") 3
    (digit (always (refused Malformed 3))
    ++ one 42 (always (refused Malformed 3))
    ∷ one 64 (always (refused UnknownWord 3))
    ∷ one 35 (always (Ok Ignored))
    ∷ blank (always (refused BadSetting 4))
    ++ one_of (text "=\"'") (always (refused BadSetting 3)))
    (always (setting 2 3 4 5))
unfolding trying reading
first-after-blanks = refl

-- `?`: alone, an entry has too few fields, and a setting no `=`
only-byte : Leads (λ b. b ∷ []) 1
    (digit (always (refused TooFewFields 2)) ++ one 42 (always (refused TooFewFields 2)) ∷ one 64 (always (refused UnknownWord 1)) ∷ one 35 (always (Ok Ignored)) ∷ blank (always (Ok Ignored)))
    (always (refused BadSetting 1))
unfolding trying reading
only-byte = refl

-- `#?=c`: no byte ends a comment
in-comment : Leads (λ b. text "#" ++ b ∷ text "=c") 2 [] (always (Ok Ignored))
unfolding trying reading
in-comment = refl

-- ---- a setting's name

-- `A?=c`
in-name : LeadsOnce (λ b. 65 ∷ b ∷ text "=c") 2
    (blank (setting 0 1 3 4) ++ one 61 (setting 0 1 2 4) ∷ one_of (text "\"'") (refused BadSetting 1))
    (setting 0 2 3 4)
unfolding trying reading
in-name = refl

-- `A ?=c`: after a name and blanks only `=` may follow
after-name : LeadsOnce (λ b. text "A " ++ b ∷ text "=c") 3 (blank (setting 0 1 4 5) ++ one 61 (setting 0 1 3 5) ∷ []) (refused BadSetting 1)
unfolding trying reading
after-name = refl

-- `A?`: a name and no `=`
name-only : LeadsOnce (λ b. 65 ∷ b ∷ []) 2 (one 61 (setting 0 1 2 2) ∷ []) (refused BadSetting 1)
unfolding trying reading
name-only = refl

-- `"?"=c` and `'?'=c`: any byte but the quote itself
in-double-name : LeadsOnce (λ b. 34 ∷ b ∷ text "\"=c") 2 (one 34 (refused BadSetting 1) ∷ []) (setting 1 2 4 5)
unfolding trying reading
in-double-name = refl

in-single-name : LeadsOnce (λ b. 39 ∷ b ∷ text "'=c") 2 (one 39 (refused BadSetting 1) ∷ []) (setting 1 2 4 5)
unfolding trying reading
in-single-name = refl

-- `"A?=c` and `'A?=c`: only a quote of its kind ends it
double-name-end : LeadsOnce (λ b. text "\"A" ++ b ∷ text "=c") 3 (one 34 (setting 1 2 4 5) ∷ []) (refused BadSetting 1)
unfolding trying reading
double-name-end = refl

single-name-end : LeadsOnce (λ b. text "'A" ++ b ∷ text "=c") 3 (one 39 (setting 1 2 4 5) ∷ []) (refused BadSetting 1)
unfolding trying reading
single-name-end = refl

-- `"A"?=c`
after-quoted-name : LeadsOnce (λ b. text "\"A\"" ++ b ∷ text "=c") 4 (blank (setting 1 2 5 6) ++ one 61 (setting 1 2 4 6) ∷ []) (refused BadSetting 1)
unfolding trying reading
after-quoted-name = refl

-- ---- a setting's value

-- `A=?`
value-only : LeadsOnce (λ b. text "A=" ++ b ∷ []) 3 (blank (setting 0 1 3 3) ++ one_of (text "\"'") (refused BadSetting 1)) (setting 0 1 2 3)
unfolding trying reading
value-only = refl

-- `A=?c?`: blanks are no part of a value's ends, and quotes of one kind may be around it
around-value : LeadsOnce (λ b. text "A=" ++ b ∷ 99 ∷ b ∷ []) 3 (blank (setting 0 1 3 4) ++ one_of (text "\"'") (setting 0 1 3 4)) (setting 0 1 2 5)
unfolding trying reading
around-value = refl

-- `A=`, a space, a tab and `?c`: blanks after `=` are skipped
after-equals : LeadsOnce (λ b. text "A= \t" ++ b ∷ text "c") 5
    (blank (setting 0 1 5 6) ++ one_of (text "\"'") (refused BadSetting 1))
    (setting 0 1 4 6)
unfolding trying reading
after-equals = refl

-- `A=c?d` and `A=c?`: within a bare value every byte is its own, and only blanks are cut at its end
in-value : LeadsOnce (λ b. text "A=c" ++ b ∷ text "d") 4 [] (setting 0 1 2 5)
unfolding trying reading
in-value = refl

value-end : LeadsOnce (λ b. text "A=c" ++ b ∷ []) 4 (blank (setting 0 1 2 3)) (setting 0 1 2 4)
unfolding trying reading
value-end = refl

-- `A="?"` and `A='?'`
in-double-value : LeadsOnce (λ b. text "A=\"" ++ b ∷ text "\"") 4 (one 34 (refused BadSetting 1) ∷ []) (setting 0 1 3 4)
unfolding trying reading
in-double-value = refl

in-single-value : LeadsOnce (λ b. text "A='" ++ b ∷ text "'") 4 (one 39 (refused BadSetting 1) ∷ []) (setting 0 1 3 4)
unfolding trying reading
in-single-value = refl

-- `A="c?` and `A='c?`: only a quote of its kind ends it
double-value-end : LeadsOnce (λ b. text "A=\"c" ++ b ∷ []) 5 (one 34 (setting 0 1 3 4) ∷ []) (refused BadSetting 1)
unfolding trying reading
double-value-end = refl

single-value-end : LeadsOnce (λ b. text "A='c" ++ b ∷ []) 5 (one 39 (setting 0 1 3 4) ∷ []) (refused BadSetting 1)
unfolding trying reading
single-value-end = refl

-- `A="c"?` and `A='c' ?`: only blanks after it
after-double-value : LeadsOnce (λ b. text "A=\"c\"" ++ b ∷ []) 6 (blank (setting 0 1 3 4)) (refused BadSetting 1)
unfolding trying reading
after-double-value = refl

after-single-value : LeadsOnce (λ b. text "A='c' " ++ b ∷ []) 7 (blank (setting 0 1 3 4)) (refused BadSetting 1)
unfolding trying reading
after-single-value = refl

-- ---- after each of the five fields

-- midnight on the first of January, and on each Monday in it
abbrev new_year : When
new_year =
    Timed
    (record {
      minutes = set_of (0 ∷ []);
      hours = set_of (0 ∷ []);
      days = set_of (1 ∷ []);
      months = set_of (1 ∷ []);
      weekdays = set_of (1 ∷ []);
      stars = record { minutes = false; hours = false; days = false; months = false; weekdays = false };
    })

-- `0?0 1 1 1 x y`: only a blank ends a field; where it goes on, `x` is the weekday, and no form
after-minute : Leads (λ b. 48 ∷ b ∷ text "0 1 1 1 x y") 2
    (blank (by_table (Ok (Entry new_year 10)) (Ok (Entry new_year 12)))
    ++ range 48 53 (always (refused Malformed 11))
    ∷ range 54 57 (always (refused OutOfLimits 1))
    ∷ one_of (text ",-") (always (refused Malformed 11)))
    (always (refused Malformed 1))
unfolding trying reading
after-minute = refl

-- `0 0?1 1 1 x y`
after-hour : Leads (λ b. text "0 0" ++ b ∷ text "1 1 1 x y") 4
    (blank (by_table (Ok (Entry new_year 10)) (Ok (Entry new_year 12)))
    ++ range 48 50 (always (refused Malformed 11))
    ∷ range 51 57 (always (refused OutOfLimits 3))
    ∷ one_of (text ",-") (always (refused Malformed 11)))
    (always (refused Malformed 3))
unfolding trying reading
after-hour = refl

-- `0 0 1?1 1 x y`
after-day : Leads (λ b. text "0 0 1" ++ b ∷ text "1 1 x y") 6
    (blank (by_table (Ok (Entry new_year 10)) (Ok (Entry new_year 12))) ++ digit (always (refused OutOfLimits 5)) ++ one_of (text ",-") (always (refused Malformed 11)))
    (always (refused Malformed 5))
unfolding trying reading
after-day = refl

-- `0 0 1 1?1 x y`
after-month : Leads (λ b. text "0 0 1 1" ++ b ∷ text "1 x y") 8
    (blank (by_table (Ok (Entry new_year 10)) (Ok (Entry new_year 12))) ++ digit (always (refused OutOfLimits 7)) ++ one_of (text ",-") (always (refused Malformed 11)))
    (always (refused Malformed 7))
unfolding trying reading
after-month = refl

-- `0 0 1 1 1?x y`
after-weekday : Leads (λ b. text "0 0 1 1 1" ++ b ∷ text "x y") 10 (blank (by_table (Ok (Entry new_year 10)) (Ok (Entry new_year 12)))) (always (refused Malformed 9))
unfolding trying reading
after-weekday = refl

-- `0 0 1 1 1 ? y`: a second blank is skipped too, and a command starts with any other byte; a user doesn't
after-fields : Leads (λ b. text "0 0 1 1 1 " ++ b ∷ text "  y") 11
    (blank (by_table (Ok (Entry new_year 13)) (refused NoCommand 15))
    ++ range 48 57 (by_table (Ok (Entry new_year 10)) (Ok (Entry new_year 13)))
    ∷ range 65 90 (by_table (Ok (Entry new_year 10)) (Ok (Entry new_year 13)))
    ∷ range 97 122 (by_table (Ok (Entry new_year 10)) (Ok (Entry new_year 13)))
    ∷ one_of (text "_.") (by_table (Ok (Entry new_year 10)) (Ok (Entry new_year 13))))
    (by_table (Ok (Entry new_year 10)) (refused BadUser 11))
unfolding trying reading
after-fields = refl

-- ---- after a word, and in one

-- `@reboot?x y`
after-word : Leads (λ b. text "@reboot" ++ b ∷ text "x y") 8 (blank (by_table (Ok (Entry Reboot 8)) (Ok (Entry Reboot 10)))) (always (refused UnknownWord 1))
unfolding trying reading
after-word = refl

-- `@? x y`
short-word : Leads (λ b. 64 ∷ b ∷ text " x y") 2 [] (always (refused UnknownWord 1))
unfolding trying reading
short-word = refl

-- ---- the user column of a system table: user, `:group`, `/class`

-- letters, digits, `_` and `.`
abbrev account : List (Result Line Fault) → List (Range (List (Result Line Fault)))
account outcome = range 48 57 outcome ∷ range 65 90 outcome ∷ range 97 122 outcome ∷ one_of (text "_.") outcome

abbrev boot : ℕ → ℕ → List (Result Line Fault)
boot user system = by_table (Ok (Entry Reboot user)) (Ok (Entry Reboot system))

-- `@reboot u?v y`: `-` too may follow the first byte, and `:` and `/` lead to the next part
in-user : Leads (λ b. text "@reboot u" ++ b ∷ text "v y") 10
    (blank (boot 8 10) ++ account (boot 8 12) ++ one_of (text "-:/") (boot 8 12))
    (by_table (Ok (Entry Reboot 8)) (refused BadUser 9))
unfolding trying reading
in-user = refl

-- `@reboot u:? y`
first-of-group : Leads (λ b. text "@reboot u:" ++ b ∷ text " y") 11 (account (boot 8 12)) (by_table (Ok (Entry Reboot 8)) (refused BadUser 9))
unfolding trying reading
first-of-group = refl

-- `@reboot u:g?v y`
in_group : Leads (λ b. text "@reboot u:g" ++ b ∷ text "v y") 12
    (blank (boot 8 12) ++ account (boot 8 14) ++ one_of (text "-/") (boot 8 14))
    (by_table (Ok (Entry Reboot 8)) (refused BadUser 9))
unfolding trying reading
in_group = refl

-- `@reboot u/? y`
first-of-class : Leads (λ b. text "@reboot u/" ++ b ∷ text " y") 11 (account (boot 8 12)) (by_table (Ok (Entry Reboot 8)) (refused BadUser 9))
unfolding trying reading
first-of-class = refl

-- `@reboot u:g/c?v y`
in-class : Leads (λ b. text "@reboot u:g/c" ++ b ∷ text "v y") 14
    (blank (boot 8 14) ++ account (boot 8 16) ++ one 45 (boot 8 16) ∷ [])
    (by_table (Ok (Entry Reboot 8)) (refused BadUser 9))
unfolding trying reading
in-class = refl

-- ---- the command

-- `@reboot u ?`: of one byte, which isn't blank
command-first : Leads (λ b. text "@reboot u " ++ b ∷ []) 11 (blank (by_table (Ok (Entry Reboot 8)) (refused NoCommand 12))) (boot 8 10)
unfolding trying reading
command-first = refl

-- `@reboot ?`
command-only : Leads (λ b. text "@reboot " ++ b ∷ []) 9
    (blank (always (refused NoCommand 10)) ++ account (by_table (Ok (Entry Reboot 8)) (refused NoCommand 10)))
    (by_table (Ok (Entry Reboot 8)) (refused BadUser 9))
unfolding trying reading
command-only = refl

-- `@reboot u c?`: no byte ends it
in-command : Leads (λ b. text "@reboot u c" ++ b ∷ []) 12 [] (boot 8 10)
unfolding trying reading
in-command = refl

-- ---- `CRON_TZ`, and the six bytes of its value

sign : LeadsOnce (λ b. text "CRON_TZ=" ++ b ∷ text "01:30") 9
    (one 43 (zone 0 7 8 14 (pos 90))
    ∷ one 45 (zone 0 7 8 14 (negsuc 89))
    ∷ blank (refused BadOffset 10)
    ++ one_of (text "\"'") (refused BadSetting 1))
    (refused BadOffset 9)
unfolding trying reading
sign = refl

-- 00:30 and 10:30; 20:30 is too far
tens-of-hours : LeadsOnce (λ b. text "CRON_TZ=+" ++ b ∷ text "0:30") 10
    (one 48 (zone 0 7 8 14 (pos 30)) ∷ one 49 (zone 0 7 8 14 (pos 630)) ∷ [])
    (refused BadOffset 9)
unfolding trying reading
tens-of-hours = refl

-- up to 14 hours ahead, and to 12 behind
hours-ahead : LeadsOnce (λ b. text "CRON_TZ=+1" ++ b ∷ text ":00") 11
    (each 48 52 (λ b. (zone 0 7 8 14 (pos (600 + (b - 48) * 60)))) ∷ [])
    (refused BadOffset 9)
unfolding trying reading
hours-ahead = refl

hours-behind : LeadsOnce (λ b. text "CRON_TZ=-1" ++ b ∷ text ":00") 11
    (each 48 50 (λ b. (zone 0 7 8 14 (negsuc (599 + (b - 48) * 60)))) ∷ [])
    (refused BadOffset 9)
unfolding trying reading
hours-behind = refl

colon : LeadsOnce (λ b. text "CRON_TZ=+01" ++ b ∷ text "30") 12 (one 58 (zone 0 7 8 14 (pos 90)) ∷ []) (refused BadOffset 9)
unfolding trying reading
colon = refl

-- at most 59
tens-of-minutes : LeadsOnce (λ b. text "CRON_TZ=+01:" ++ b ∷ text "9") 13
    (each 48 53 (λ b. (zone 0 7 8 14 (pos (69 + (b - 48) * 10)))) ∷ [])
    (refused BadOffset 9)
unfolding trying reading
tens-of-minutes = refl

minutes-ones : LeadsOnce (λ b. text "CRON_TZ=+01:3" ++ b ∷ []) 14
    (each 48 57 (λ b. (zone 0 7 8 14 (pos (90 + (b - 48))))) ∷ [])
    (refused BadOffset 9)
unfolding trying reading
minutes-ones = refl

-- `CRON_TZ=+01:30?`
after-offset : LeadsOnce (λ b. text "CRON_TZ=+01:30" ++ b ∷ []) 15 (blank (zone 0 7 8 14 (pos 90))) (refused BadOffset 9)
unfolding trying reading
after-offset = refl

-- ---- the eight words, and no others

word-list : map (λ (n : Named). n.word) meanings
    ≡ text "@reboot" ∷ text "@yearly" ∷ text "@annually" ∷ text "@monthly" ∷ text "@weekly" ∷ text "@daily" ∷ text "@midnight" ∷ text "@hourly" ∷ []
unfolding meanings
word-list = refl

abbrev itself : List ℕ → List (List ℕ)
itself s = map (λ b. b ∷ []) s

-- a byte more, a byte less, other cases, and words of other crons
no_words : Hold lines
    (map (λ (s : List ℕ). (s ++ text " u x", always (refused UnknownWord 1)))
    (text "@" ∷ text "@@reboot" ∷ text "@reboo" ∷ text "@eboot" ∷ text "@reboot@" ∷ text "@reboot:" ∷ text "@REBOOT" ∷ text "@Yearly"
    ∷ text "@year" ∷ text "@yearl" ∷ text "@yearlyy" ∷ text "@annual" ∷ text "@annuall" ∷ text "@annuallyy" ∷ text "@anually"
    ∷ text "@month" ∷ text "@monthl" ∷ text "@monthlyy" ∷ text "@week" ∷ text "@weekl" ∷ text "@weeklyy" ∷ text "@dail" ∷ text "@dailyy" ∷ text "@day"
    ∷ text "@midnigh" ∷ text "@midnights" ∷ text "@noon" ∷ text "@hour" ∷ text "@hourl" ∷ text "@hourlyy"
    ∷ text "@every_minute" ∷ text "@every_second" ∷ text "@every" ∷ text "@minutely" ∷ text "@secondly" ∷ text "@quarterly" ∷ text "@biweekly"
    ∷ text "@shutdown" ∷ text "@startup" ∷ text "@never" ∷ text "@once" ∷ text "@15" ∷ text "@*"
    ∷ []))
unfolding reading
no_words = refl

-- ---- the one name with a meaning: of `CRON_TZ` with one byte changed, each is another name, or none

abbrev is_offset : Result Line Fault → Bool
is_offset (Ok Ignored) = false
is_offset (Ok (Entry when start)) = false
is_offset (Ok (Setting name value None)) = false
is_offset (Ok (Setting name value (Some minutes))) = true
is_offset (Err fault) = false

zone-letters : passing_at (λ s. is_offset (read_line in_first (s ++ text "=+01:00"))) (text "CRON_TZ") 0 7
    ≡ itself (text "CRON_TZ")
unfolding trying reading
zone-letters = refl

-- `CRON_TZ?=x`
zone-longer : LeadsOnce (λ b. text "CRON_TZ" ++ b ∷ text "=x") 8
    (blank (refused BadOffset 10) ++ one 61 (refused BadOffset 9) ∷ one_of (text "\"'") (refused BadSetting 1))
    (setting 0 8 9 10)
unfolding trying reading
zone-longer = refl

-- other names mean nothing
other-names : Hold lines
    ((text "TZ=x", always (setting 0 2 3 4))
    ∷ (text "RON_TZ=x", always (setting 0 6 7 8))
    ∷ (text "Cron_Tz=x", always (setting 0 7 8 9))
    ∷ (text "SHELL=x", always (setting 0 5 6 7))
    ∷ (text "MAILTO=x", always (setting 0 6 7 8))
    ∷ (text "PATH=x", always (setting 0 4 5 6))
    ∷ (text "HOME=x", always (setting 0 4 5 6))
    ∷ (text "LOGNAME=x", always (setting 0 7 8 9))
    ∷ (text "RANDOM_DELAY=x", always (setting 0 12 13 14))
    ∷ [])
unfolding reading
other-names = refl

-- ---- almost of the form

-- a field's text in each of the five places, the others being `1`
abbrev in_places : List ℕ → List (List (Result Line Fault))
in_places s =
    lines (s ++ text " 1 1 1 1 u x")
    ∷ lines (text "1 " ++ s ++ text " 1 1 1 u x")
    ∷ lines (text "1 1 " ++ s ++ text " 1 1 u x")
    ∷ lines (text "1 1 1 " ++ s ++ text " 1 u x")
    ∷ lines (text "1 1 1 1 " ++ s ++ text " u x")
    ∷ []

-- refused, so many bytes after the field's first
abbrev in_each : Refusal → ℕ → List (List (Result Line Fault))
in_each refusal n = map (λ column. always (refused refusal (column + n))) (1 ∷ 3 ∷ 5 ∷ 7 ∷ 9 ∷ [])

almost-fields : Hold in_places
    ((text "*/", in_each Malformed 0)
    ∷ (text "**", in_each Malformed 0)
    ∷ (text "1-", in_each Malformed 0)
    ∷ (text "1-5/", in_each Malformed 0)
    ∷ (text "1-2-3", in_each Malformed 0)
    ∷ (text "1/2", in_each Malformed 0)
    ∷ (text "1,,2", in_each Malformed 0)
    ∷ (text "1,", in_each Malformed 0)
    ∷ (text "1,*", in_each Malformed 0)
    ∷ (text "*,1", in_each Malformed 0)
    ∷ (text "1x", in_each Malformed 0)
    ∷ (text "00001", in_each Malformed 0)
    ∷ (text "*/00001", in_each Malformed 0)
    ∷ (text "60", in_each OutOfLimits 0)
    ∷ (text "1,60", in_each OutOfLimits 2)
    ∷ (text "1-60", in_each OutOfLimits 0)
    ∷ (text "1,1-60", in_each OutOfLimits 2)
    ∷ (text "*/0", in_each StepZero 0)
    ∷ (text "1,1-2/0", in_each StepZero 2)
    ∷ [])
unfolding reading
almost-fields = refl

-- those that no entry begins with, in the second field and in the fifth
almost-later : Hold (λ (s : List ℕ). lines (text "1 " ++ s ++ text " 1 1 1 u x") ++ lines (text "1 1 1 1 " ++ s ++ text " u x"))
    (map (λ (s : List ℕ). (s, always (refused Malformed 3) ++ always (refused Malformed 9)))
    (text ",1" ∷ text "-1" ∷ text "/1" ∷ text "+1" ∷ text "?" ∷ text "#" ∷ text "@1" ∷ text "=" ∷ text "\"1\"" ∷ []))
unfolding reading
almost-later = refl

-- and a line that begins with them, or is almost a setting, is none
no-settings : Hold lines
    (map (λ (s : List ℕ). (s, always (refused BadSetting 1)))
    (text "-1 1 1 1 1 u x" ∷ text "+1 1 1 1 1 u x" ∷ text ",1 1 1 1 1 u x" ∷ text "/1 1 1 1 1 u x" ∷ text "?" ∷ text "~1 1 1 1 1 u x" ∷ text "mon 1 1 1 1 u x"
    ∷ text "A" ∷ text "A " ∷ text "A b" ∷ text "A b=c" ∷ text "=" ∷ text "=c" ∷ text "= c" ∷ text "A'=c" ∷ text "A\"B\"=c"
    ∷ text "\"" ∷ text "\"A" ∷ text "\"A\"" ∷ text "\"A\"x=c" ∷ text "'A'x=c" ∷ text "\"A=c" ∷ text "'A\"=c" ∷ text "''=c" ∷ text "\"\" =c"
    ∷ text "A=\"" ∷ text "A='" ∷ text "A=\"b" ∷ text "A='b\"" ∷ text "A=\"b\"c" ∷ text "A=\"b\" c" ∷ text "A=''''" ∷ text "A='b'=" ∷ text "A= \"b\" \""
    ∷ text "export A=b" ∷ text "set A=b"
    ∷ []))
unfolding reading
no-settings = refl

-- too few fields, at the column after the last byte, and then no command
few : Hold lines
    ((text "1", always (refused TooFewFields 2))
    ∷ (text "1 ", always (refused TooFewFields 3))
    ∷ (text "1\t1", always (refused TooFewFields 4))
    ∷ (text "1 1 1", always (refused TooFewFields 6))
    ∷ (text "1 1 1 1", always (refused TooFewFields 8))
    ∷ (text "1 1 1 1 \t", always (refused TooFewFields 10))
    ∷ (text "1 1 1 1 1", always (refused NoCommand 10))
    ∷ (text "1 1 1 1 1 ", always (refused NoCommand 11))
    ∷ (text "1 1 1 1 1\t ", always (refused NoCommand 12))
    ∷ (text "@daily", always (refused NoCommand 7))
    ∷ (text "@daily\t", always (refused NoCommand 8))
    ∷ [])
unfolding reading
few = refl

-- offsets that lack a byte or have another
no-offsets : Hold (λ (s : List ℕ). lines (text "CRON_TZ=" ++ s))
    (map (λ (s : List ℕ). (s, always (refused BadOffset 9)))
    ([] ∷ text "+" ∷ text "0" ∷ text "+0" ∷ text "+00" ∷ text "+00:" ∷ text "+00:0" ∷ text "+1:00" ∷ text "+0100" ∷ text "00:00" ∷ text "01:00+" ∷ text "+001:00" ∷ text "+01:000"
    ∷ text "++01:00" ∷ text "+ 1:00" ∷ text "+01 :00" ∷ text "+01: 0" ∷ text "+00:60" ∷ text "+00:99" ∷ text "+13:60" ∷ text "+14:01" ∷ text "+14:59" ∷ text "+15:00" ∷ text "+24:00" ∷ text "+99:59"
    ∷ text "-12:01" ∷ text "-12:59" ∷ text "-13:00" ∷ text "-14:00" ∷ text "-11:60" ∷ text "-00:60" ∷ text "\"\"" ∷ text "'+1:00'" ∷ text "'+01:00 '" ∷ text "' +01:00'" ∷ text "+01:00 #"
    ∷ []))
unfolding reading
no-offsets = refl

-- ---- a line's length, for every kind of line: 1,000 bytes, and one more

-- with n bytes more
abbrev long : ℕ × List ℕ → List (Result Line Fault)
long (n, s) = lines (s ++ replicate n 120)

as_long : Hold long
    (((999, text "#"), always (Ok Ignored))
    ∷ ((998, text "A="), always (setting 0 1 2 1000))
    ∷ ((992, text "@reboot "), by_table (Ok (Entry Reboot 8)) (refused BadUser 9))
    ∷ ((990, text "@reboot u "), boot 8 10)
    ∷ ((988, text "0 0 1 1 1 u "), by_table (Ok (Entry new_year 10)) (Ok (Entry new_year 12)))
    -- a bad one keeps its own refusal
    ∷ ((1000, []), always (refused BadSetting 1))
    ∷ [])
unfolding reading
as_long = refl

too_long_lem : Hold long
    (((1000, text "#"), always (refused LineTooLong 1001))
    ∷ ((999, text "A="), always (refused LineTooLong 1001))
    ∷ ((993, text "@reboot "), always (refused LineTooLong 1001))
    ∷ ((991, text "@reboot u "), always (refused LineTooLong 1001))
    ∷ ((989, text "0 0 1 1 1 u "), always (refused LineTooLong 1001))
    ∷ ((1001, []), always (refused LineTooLong 1001))
    ∷ [])
unfolding reading
too_long_lem = refl

-- blanks count too
blank-lengths : Hold (λ (n : ℕ). lines (replicate n 9) ++ lines (replicate n 32))
    ((0, always (Ok Ignored) ++ always (Ok Ignored))
    ∷ (1, always (Ok Ignored) ++ always (Ok Ignored))
    ∷ (1000, always (Ok Ignored) ++ always (Ok Ignored))
    ∷ (1001, always (refused LineTooLong 1001) ++ always (refused LineTooLong 1001))
    ∷ [])
unfolding reading
blank-lengths = refl

-- those at the end of a setting and of an entry
trailing : Hold (λ (n : ℕ). lines (text "A=b" ++ replicate (n - 3) 32) ++ lines (text "@reboot u x" ++ replicate (n - 11) 32))
    ((1000, always (setting 0 1 2 3) ++ boot 8 10) ∷ (1001, always (refused LineTooLong 1001) ++ always (refused LineTooLong 1001)) ∷ [])
unfolding reading
trailing = refl

-- ---- the refusals of a line

refusals : map number_of (line_too_long ∷ nul_byte ∷ too_few_fields ∷ no_command ∷ unknown_word ∷ bad_setting ∷ bad_user ∷ bad_offset ∷ control_byte ∷ [])
    ≡ 2 ∷ 3 ∷ 4 ∷ 9 ∷ 10 ∷ 11 ∷ 20 ∷ 25 ∷ 27 ∷ []
unfolding number_of
refusals = refl
