-- The one text of a setting, of an entry (P3, P6, P7), and of a table (P2).
-- Assumes nothing.
use Rattle.std.specs.Prelude.{ℕ, Bool, true, not, cond, ◌&&◌, ◌||◌, List, [], ◌∷◌, ◌++◌, length, get_or, eqb, leb}
use Rattle.octets.specs.Texts.{text}
use Rattle.octets.specs.declared.class.Class.TheVariants.{Name, Not}
use Rattle.octets.specs.Classes.{newline, equals_sign, is_blank, is_quote}
use Rattle.octets.specs.Runs.{are_of, trimmed}
use Rattle.field.specs.Limits.{minute_limits, hour_limits, day_limits, month_limits, weekday_limits}
use Rattle.field.specs.Written.{field_text}
use Rattle.schedule.specs.declared.Schedule.{Schedule}
use Rattle.crontab.specs.Limits.{max_table}
use Rattle.line.specs.Limits.{max_line}
use Rattle.line.specs.Lines.{hash, starts_entry}
use Rattle.normal.specs.Meanings.{Item, setting, boot, timed}

-- ---- a setting

-- P7: the first choice
abbrev pub double_quote : ℕ
double_quote = 34

-- P7: the second choice
abbrev pub single_quote : ℕ
single_quote = 39

-- P7: a text between quotes
abbrev pub in_quotes : ℕ → List ℕ → List ℕ
in_quotes quote s = quote ∷ s ++ quote ∷ []

-- P7: in double quotes, or in single ones if it has a double one
unfoldable pub quoted : List ℕ → List ℕ
quoted s = cond (are_of (Not double_quote) s) (in_quotes double_quote s) (in_quotes single_quote s)

-- P6: a line that starts with it is a comment or an entry
unfoldable pub starts_other : ℕ → Bool
starts_other b = eqb b hash || starts_entry b

-- P6: a name that isn't quoted
unfoldable pub is_bare_name : List ℕ → Bool
is_bare_name s = are_of Name s && not (starts_other (get_or s 0 0))

-- P6: a value that isn't quoted; the empty one too
unfoldable pub is_bare_value : List ℕ → Bool
is_bare_value s = not (is_blank (get_or s 0 0) || is_quote (get_or s 0 0)) && eqb (trimmed s) (length s)

-- P6: a name, quoted or not
unfoldable pub name_text : List ℕ → List ℕ
name_text s = cond (is_bare_name s) s (quoted s)

-- P6: a value, quoted or not
unfoldable pub value_text : List ℕ → List ℕ
value_text s = cond (is_bare_value s) s (quoted s)

-- ---- an entry

-- P3: between the parts of an entry
abbrev pub space : ℕ
space = 32

-- P3: five fields
unfoldable pub schedule_text : Schedule → List ℕ
schedule_text s =
    field_text minute_limits s.minutes s.stars.minutes
    ++ space ∷ field_text hour_limits s.hours s.stars.hours
    ++ space ∷ field_text day_limits s.days s.stars.days
    ++ space ∷ field_text month_limits s.months s.stars.months
    ++ space ∷ field_text weekday_limits s.weekdays s.stars.weekdays

-- ---- an item, without its newline; and a table

-- P3, P6: a line, without its newline
unfoldable pub item_text : Item → List ℕ
item_text (setting name value) = name_text name ++ equals_sign ∷ value_text value
item_text (boot command) = text "@reboot " ++ command
item_text (timed s command) = schedule_text s ++ space ∷ command

-- P2: all lines
unfoldable pub normal_text : List Item → List ℕ
normal_text [] = []
normal_text (i ∷ items) = item_text i ++ newline ∷ normal_text items

-- ---- the limits

-- P8: no line is too long
unfoldable pub are_short : List Item → Bool
are_short [] = true
are_short (i ∷ items) = leb (length (item_text i)) max_line && are_short items

-- P8: no line is too long, nor the text
unfoldable pub fits : List Item → Bool
fits items = are_short items && leb (length (normal_text items)) max_table
