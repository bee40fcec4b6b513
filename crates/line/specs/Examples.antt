-- Worked lines, checked by computing: rows of a text and what it is.
-- Assumes nothing.
use Rattle.std.specs.Prelude.{ℕ, ◌+◌, refl, Bool, true, false, List, [], ◌∷◌, ◌++◌, replicate, ℤ, pos, negsuc, Some, None, Ok, Err, Result}
use Rattle.refusal.specs.declared.Refusal.{Refusal}
use Rattle.refusal.specs.declared.Refusal.TheVariants.{LineTooLong, NulByte, TooFewFields, Malformed, OutOfLimits, Reversed, NoCommand, UnknownWord, BadSetting, BadUser, BadOffset, ControlByte}
use Rattle.octets.specs.Texts.{text}
use Rattle.octets.specs.Rows.{Hold}
use Rattle.octets.specs.Sets.{set_of, up_to}
use Rattle.line.specs.declared.Rules.{Rules}
use Rattle.field.specs.declared.Dialect.TheVariants.{Rising, Wrapping}
use Rattle.line.specs.declared.Kind.TheVariants.{User, System}
use Rattle.line.specs.declared.time.When.{When}
use Rattle.line.specs.declared.time.When.TheVariants.{Reboot, Timed}
use Rattle.line.specs.declared.Line.{Line}
use Rattle.line.specs.declared.Line.TheVariants.{Ignored, Setting, Entry}
use Rattle.line.specs.Limits.{max_line, max_account}
use Rattle.line.specs.Lines.{read_line}
use Rattle.line.specs.Computing.{reading}
use Rattle.field.specs.declared.Fault.{Fault}

-- ---- lines of a user's table

abbrev of_user : Rules
of_user = record { kind = User; dialect = Rising }

abbrev of_system : Rules
of_system = record { kind = System; dialect = Rising }

-- at midnight; whether the last three fields begin with `*`
abbrev midnight : List ℕ → List ℕ → List ℕ → Bool → Bool → Bool → When
midnight days months weekdays day month weekday =
    Timed
    (record {
      minutes = set_of (0 ∷ []);
      hours = set_of (0 ∷ []);
      days = set_of days;
      months = set_of months;
      weekdays = set_of weekdays;
      stars = record { minutes = false; hours = false; days = day; months = month; weekdays = weekday };
    })

abbrev hourly : When
hourly =
    Timed
    (record {
      minutes = set_of (0 ∷ []);
      hours = set_of (up_to 0 23);
      days = set_of (up_to 1 31);
      months = set_of (up_to 1 12);
      weekdays = set_of (up_to 0 6);
      stars = record { minutes = false; hours = true; days = true; months = true; weekdays = true };
    })

-- `*/30 0 1 1 0`
abbrev half_hours : When
half_hours =
    Timed
    (record {
      minutes = set_of (0 ∷ 30 ∷ []);
      hours = set_of (0 ∷ []);
      days = set_of (1 ∷ []);
      months = set_of (1 ∷ []);
      weekdays = set_of (0 ∷ []);
      stars = record { minutes = true; hours = false; days = false; months = false; weekdays = false };
    })

abbrev refused : Refusal → ℕ → Result Line Fault
refused refusal column = Err (record { refusal = refusal; column = column })

-- name and value from a place to before another
abbrev setting : ℕ → ℕ → ℕ → ℕ → Result Line Fault
setting n m v w = Ok (Setting (record { start = n; end = m }) (record { start = v; end = w }) None)

-- one of the offset, in minutes
abbrev zone : ℕ → ℕ → ℕ → ℕ → ℤ → Result Line Fault
zone n m v w minutes = Ok (Setting (record { start = n; end = m }) (record { start = v; end = w }) (Some minutes))

lines-read : Hold (read_line of_user)
    -- at the first field
    ((text "60 0 * * * x", refused OutOfLimits 1)
    -- Monday to Friday; and at the fifth field from high to low, and a name of another field
    ∷ (text "0 0 * * mon-fri x", Ok (Entry (midnight (up_to 1 31) (up_to 1 12) (up_to 1 5) true true false) 16))
    ∷ (text "0 0 * * fri-mon x", refused Reversed 9)
    ∷ (text "0 0 * * jan x", refused Malformed 9)
    -- names in any letter case
    ∷ (text "0 0 * JAN,feb Sat x", Ok (Entry (midnight (up_to 1 31) (1 ∷ 2 ∷ []) (6 ∷ []) true false false) 18))
    -- a day field that begins with a star and has some values only
    ∷ (text "0 0 */15 * 1 x", Ok (Entry (midnight (1 ∷ 16 ∷ 31 ∷ []) (up_to 1 12) (1 ∷ []) true true false) 13))
    -- a star has its field's flag
    ∷ (text "*/30 0 1 1 0 x", Ok (Entry half_hours 13))
    -- no command: after the last byte, blanks counted
    ∷ (text "0 0 * * * ", refused NoCommand 11)
    -- too few fields: after the last byte, blanks counted, but a bad field before it comes first
    ∷ (text "5 5", refused TooFewFields 4)
    ∷ (text "5 5 ", refused TooFewFields 5)
    ∷ (text "60 5", refused OutOfLimits 1)
    -- blanks before and after, and a comment
    ∷ (text "\t 0 0 1 1 *  a ", Ok (Entry (midnight (1 ∷ []) (1 ∷ []) (up_to 0 6) false false true) 13))
    ∷ (text " # 0", Ok Ignored)
    ∷ ([], Ok Ignored)
    -- an `@` word is the whole run of non-blank bytes, in this case only
    ∷ (text "@reboot x", Ok (Entry Reboot 8))
    ∷ (text "@Reboot x", refused UnknownWord 1)
    ∷ (text "@reboots x", refused UnknownWord 1)
    ∷ (text " @", refused UnknownWord 2)
    ∷ (text "@reboot ", refused NoCommand 9)
    -- the words that mean fields
    ∷ (text "@yearly x", Ok (Entry (midnight (1 ∷ []) (1 ∷ []) (up_to 0 6) false false true) 8))
    ∷ (text "@annually x", Ok (Entry (midnight (1 ∷ []) (1 ∷ []) (up_to 0 6) false false true) 10))
    ∷ (text "@monthly x", Ok (Entry (midnight (1 ∷ []) (up_to 1 12) (up_to 0 6) false true true) 9))
    ∷ (text "@weekly x", Ok (Entry (midnight (up_to 1 31) (up_to 1 12) (0 ∷ []) true true false) 8))
    ∷ (text "@daily x", Ok (Entry (midnight (up_to 1 31) (up_to 1 12) (up_to 0 6) true true true) 7))
    ∷ (text "@midnight x", Ok (Entry (midnight (up_to 1 31) (up_to 1 12) (up_to 0 6) true true true) 10))
    ∷ (text "@hourly x", Ok (Entry hourly 8))
    -- byte 0, in a comment too
    ∷ (35 ∷ 0 ∷ [], refused NulByte 2)
    -- R27: a control byte, in a comment and among blanks too; a byte 0 comes first, wherever it is
    ∷ (text "#" ++ 1 ∷ [], refused ControlByte 2)
    ∷ (text "# a" ++ 127 ∷ [], refused ControlByte 4)
    ∷ (32 ∷ 13 ∷ [], refused ControlByte 2)
    ∷ (8 ∷ 31 ∷ [], refused ControlByte 1)
    ∷ (1 ∷ 35 ∷ 0 ∷ 0 ∷ [], refused NulByte 3)
    ∷ (35 ∷ 0 ∷ 1 ∷ [], refused NulByte 2)
    -- before any other fault of the line, and in every part of it
    ∷ (text "60 * * * * x" ++ 27 ∷ [], refused ControlByte 13)
    ∷ (text "A" ++ 11 ∷ [], refused ControlByte 2)
    ∷ (text "A='b" ++ 12 ∷ text "'", refused ControlByte 5)
    ∷ (text "@reboot x" ++ 13 ∷ [], refused ControlByte 10)
    -- tab, space and all bytes from 128 on are allowed
    ∷ (text "@reboot x" ++ 9 ∷ 32 ∷ 126 ∷ 128 ∷ 159 ∷ 255 ∷ [], Ok (Entry Reboot 8))
    ∷ (128 ∷ text "=" ++ 255 ∷ [], setting 0 1 2 3)
    -- settings: without their quotes and the last blanks; a value may be empty
    ∷ (text "A = \"b c\" ", setting 0 1 5 8)
    ∷ (text "'A B'=c'd ", setting 1 4 6 9)
    ∷ (text "A =", setting 0 1 3 3)
    ∷ (text "A=\"\"", setting 0 1 3 3)
    ∷ (text "A=b=#c", setting 0 1 2 6)
    -- no comment may follow a value: it is part of a bare one, and R11 after a quoted one
    ∷ (text "A=b #c", setting 0 1 2 6)
    ∷ (text "A='b' #c", refused BadSetting 1)
    -- no settings: at the first byte that isn't blank
    ∷ (text " A\"B=c", refused BadSetting 2)
    ∷ (text "\"A'=c", refused BadSetting 1)
    ∷ (text "A=\"b\"c", refused BadSetting 1)
    ∷ (text "\"\"=c", refused BadSetting 1)
    ∷ (text "=c", refused BadSetting 1)
    ∷ (text " A b=c", refused BadSetting 2)
    ∷ (text " A=\"b", refused BadSetting 2)
    ∷ (text " 'A", refused BadSetting 2)
    -- as long as a line may be, and a byte more, which comes before byte 0 and a control byte
    ∷ (replicate max_line 32, Ok Ignored)
    ∷ (replicate (max_line + 1) 32, refused LineTooLong 1001)
    ∷ (0 ∷ replicate max_line 32, refused LineTooLong 1001)
    ∷ (1 ∷ replicate max_line 32, refused LineTooLong 1001)
    ∷ [])
unfolding reading
lines-read = refl

-- O2: settings of the offset
offsets-read : Hold (read_line of_user)
    -- from the furthest behind UTC to the furthest ahead of it, and a minute further
    ((text "CRON_TZ=+14:00", zone 0 7 8 14 (pos 840))
    ∷ (text "CRON_TZ=+14:01", refused BadOffset 9)
    ∷ (text "CRON_TZ=-12:00", zone 0 7 8 14 (negsuc 719))
    ∷ (text "CRON_TZ=-12:01", refused BadOffset 9)
    ∷ (text "CRON_TZ=-00:01", zone 0 7 8 14 (negsuc 0))
    ∷ (text "CRON_TZ=-00:00", zone 0 7 8 14 (pos 0))
    ∷ (text "CRON_TZ=+09:59", zone 0 7 8 14 (pos 599))
    -- the value without its quotes and the last blanks; the name too may be quoted
    ∷ (text "CRON_TZ = +01:00 ", zone 0 7 10 16 (pos 60))
    ∷ (text "\"CRON_TZ\"= '+01:00' ", zone 1 8 12 18 (pos 60))
    -- no offset: at the first byte after `=` and blanks, which may be a quote, or one past the line
    ∷ (text "CRON_TZ=+1:00", refused BadOffset 9)
    ∷ (text "CRON_TZ=01:00", refused BadOffset 9)
    ∷ (text "CRON_TZ= +01:60", refused BadOffset 10)
    ∷ (text "CRON_TZ=+01:00x", refused BadOffset 9)
    ∷ (text "CRON_TZ=+01.00", refused BadOffset 9)
    ∷ (text "CRON_TZ=+0a:00", refused BadOffset 9)
    ∷ (text "CRON_TZ=+a1:00", refused BadOffset 9)
    ∷ (text "CRON_TZ=+/1:00", refused BadOffset 9)
    ∷ (text "CRON_TZ=+1/:00", refused BadOffset 9)
    ∷ (text "CRON_TZ=+0::00", refused BadOffset 9)
    ∷ (text "CRON_TZ=+00:/9", refused BadOffset 9)
    ∷ (text "CRON_TZ=+00:0/", refused BadOffset 9)
    ∷ (text "CRON_TZ=+00:0:", refused BadOffset 9)
    ∷ (text "CRON_TZ=*01:00", refused BadOffset 9)
    ∷ (text "CRON_TZ=UTC", refused BadOffset 9)
    ∷ (text "CRON_TZ = \"+01:00 \"", refused BadOffset 11)
    ∷ (text "CRON_TZ=''", refused BadOffset 9)
    ∷ (text "CRON_TZ= ", refused BadOffset 10)
    ∷ (text " CRON_TZ=", refused BadOffset 10)
    -- a bad setting comes first
    ∷ (text " CRON_TZ=\"x", refused BadSetting 2)
    -- other names
    ∷ (text "cron_tz=x", setting 0 7 8 9)
    ∷ (text "CRON_TZX=x", setting 0 8 9 10)
    ∷ (text "CRON_T=x", setting 0 6 7 8)
    ∷ (text "' CRON_TZ'=x", setting 1 9 11 12)
    ∷ [])
unfolding reading
offsets-read = refl

-- U1, U2, U3: lines of a system table
system-lines-read : Hold (read_line of_system)
    -- the command comes after the user
    ((text "0 0 1 1 * root x", Ok (Entry (midnight (1 ∷ []) (1 ∷ []) (up_to 0 6) false false true) 15))
    ∷ (text "@reboot u:g/c  x", Ok (Entry Reboot 15))
    ∷ (text "@reboot A_1.-/c x", Ok (Entry Reboot 16))
    -- each part starts with any of its bytes but `-`
    ∷ (text "@reboot .1:_a/2 x", Ok (Entry Reboot 16))
    -- nothing after the time, or after the user: after the last byte
    ∷ (text "@reboot ", refused NoCommand 9)
    ∷ (text "* * * * * cmd", refused NoCommand 14)
    ∷ (text "@reboot u:g ", refused NoCommand 13)
    -- a bad user, at its first byte, comes before a missing command, and a bad field before it
    ∷ (text "@reboot -a", refused BadUser 9)
    ∷ (text "60 0 * * * -a x", refused OutOfLimits 1)
    -- each part in its place, once, of the bytes it may have, and not empty
    ∷ (text "@reboot a/c:b x", refused BadUser 9)
    ∷ (text "@reboot a:b:c x", refused BadUser 9)
    ∷ (text "@reboot a/b/c x", refused BadUser 9)
    ∷ (text "@reboot :b x", refused BadUser 9)
    ∷ (text "@reboot a: x", refused BadUser 9)
    ∷ (text "@reboot a:/c x", refused BadUser 9)
    ∷ (text "@reboot a/ x", refused BadUser 9)
    ∷ (text "@reboot a:b/ x", refused BadUser 9)
    ∷ (text "@reboot a:-b x", refused BadUser 9)
    ∷ (text "@reboot a/-c x", refused BadUser 9)
    ∷ (text "@reboot a$ x", refused BadUser 9)
    -- as long as a part may be, and a byte more
    ∷ (text "@reboot " ++ replicate max_account 97 ++ text " x", Ok (Entry Reboot 41))
    ∷ (text "@reboot " ++ replicate (max_account + 1) 97 ++ text " x", refused BadUser 9)
    ∷ (text "@reboot a:" ++ replicate (max_account + 1) 97 ++ text " x", refused BadUser 9)
    ∷ (text "@reboot a:" ++ replicate max_account 97 ++ text "/" ++ replicate max_account 98 ++ text " x", Ok (Entry Reboot 76))
    ∷ (text "@reboot a/" ++ replicate (max_account + 1) 97 ++ text " x", refused BadUser 9)
    -- settings and comments as in a user's
    ∷ (text "A=b", setting 0 1 2 3)
    ∷ (text "CRON_TZ=-01:30", zone 0 7 8 14 (negsuc 89))
    ∷ (text "CRON_TZ=1", refused BadOffset 9)
    ∷ (text "#", Ok Ignored)
    ∷ [])
unfolding reading
system-lines-read = refl

-- ---- W1: lines in the wrapping dialect

abbrev in_second : Rules
in_second = record { kind = User; dialect = Wrapping }

-- in both dialects, the first in front
abbrev both : List ℕ → Result Line Fault × Result Line Fault
both s = (read_line of_user s, read_line in_second s)

-- at the minute 0 of hours, on days of some weekdays
abbrev on_hours : List ℕ → List ℕ → Bool → When
on_hours hours weekdays weekday =
    Timed
    (record {
      minutes = set_of (0 ∷ []);
      hours = set_of hours;
      days = set_of (up_to 1 31);
      months = set_of (up_to 1 12);
      weekdays = set_of weekdays;
      stars = record { minutes = false; hours = false; days = true; months = true; weekdays = weekday };
    })

wrapped-lines : Hold both
    -- source 001, over midnight
    ((text "0 8-18/3,19-7 * * * x", (Err (record { refusal = Reversed; column = 10 }), Ok (Entry (on_hours (8 ∷ 11 ∷ 14 ∷ 17 ∷ up_to 19 23 ++ up_to 0 7) (up_to 0 6) true) 20)))
    ∷ (text "0 22-3/2 * * * x", (Err (record { refusal = Reversed; column = 3 }), Ok (Entry (on_hours (22 ∷ 0 ∷ 2 ∷ []) (up_to 0 6) true) 15)))
    -- weekdays: 7 is refused there at its own column, and `sun` is 0
    ∷ (text "0 0 * * 7 x", (Ok (Entry (on_hours (0 ∷ []) (0 ∷ []) false) 10), Err (record { refusal = OutOfLimits; column = 9 })))
    ∷ (text "0 0 * * 1,0-7 x", (Ok (Entry (on_hours (0 ∷ []) (1 ∷ up_to 0 6) false) 14), Err (record { refusal = OutOfLimits; column = 11 })))
    ∷ (text "0 0 * * 0-sun x", (Ok (Entry (on_hours (0 ∷ []) (up_to 0 6) false) 14), Ok (Entry (on_hours (0 ∷ []) (0 ∷ []) false) 14)))
    ∷ (text "0 0 * * fri-sun x", (Ok (Entry (on_hours (0 ∷ []) (5 ∷ 6 ∷ 0 ∷ []) false) 16), Ok (Entry (on_hours (0 ∷ []) (5 ∷ 6 ∷ 0 ∷ []) false) 16)))
    -- each of the five fields
    ∷ (text "0 0 1 1 sat-mon x", (Err (record { refusal = Reversed; column = 9 }), Ok (Entry (midnight (1 ∷ []) (1 ∷ []) (6 ∷ 0 ∷ 1 ∷ []) false false false) 16)))
    ∷ (text "0 0 31-1 dec-jan * x", (Err (record { refusal = Reversed; column = 5 }), Ok (Entry (midnight (31 ∷ 1 ∷ []) (12 ∷ 1 ∷ []) (up_to 0 6) false false true) 19)))
    -- words mean the same in both
    ∷ (text "@weekly x", (Ok (Entry (midnight (up_to 1 31) (up_to 1 12) (0 ∷ []) true true false) 8), Ok (Entry (midnight (up_to 1 31) (up_to 1 12) (0 ∷ []) true true false) 8)))
    ∷ [])
unfolding reading
wrapped-lines = refl

-- a minute field that wraps, in a user's table and in the system's
abbrev over_hour : When
over_hour =
    Timed
    (record {
      minutes = set_of (59 ∷ 0 ∷ []);
      hours = set_of (up_to 0 23);
      days = set_of (up_to 1 31);
      months = set_of (up_to 1 12);
      weekdays = set_of (up_to 0 6);
      stars = record { minutes = false; hours = true; days = true; months = true; weekdays = true };
    })

wrapped-minutes : Hold (λ (rules : Rules). read_line rules (text "59-0 * * * * x y"))
    ((of_user, Err (record { refusal = Reversed; column = 1 }))
    ∷ (of_system, Err (record { refusal = Reversed; column = 1 }))
    ∷ (in_second, Ok (Entry over_hour 13))
    ∷ (record { kind = System; dialect = Wrapping }, Ok (Entry over_hour 15))
    ∷ [])
unfolding reading
wrapped-minutes = refl
