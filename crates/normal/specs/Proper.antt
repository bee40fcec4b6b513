-- What a line can mean, whatever its length (P11). The laws in `proofs.Theorems` say that this is all, and that each is read back from its
-- text.
-- Assumes nothing.
use Rattle.std.specs.Prelude.{ℕ, Bool, true, not, ◌&&◌, ◌||◌, List, [], ◌∷◌, length, get_or, leb}
use Rattle.octets.specs.declared.class.Class.TheVariants.{Not, InLine}
use Rattle.octets.specs.Classes.{is_blank}
use Rattle.octets.specs.Runs.{are_of}
use Rattle.field.specs.Limits.{minute_limits, hour_limits, day_limits, month_limits, weekday_limits}
use Rattle.field.specs.Written.{is_field}
use Rattle.schedule.specs.declared.Schedule.{Schedule}
use Rattle.line.specs.Offsets.{is_allowed_setting}
use Rattle.normal.specs.Meanings.{Item, setting, boot, timed}
use Rattle.normal.specs.Texts.{double_quote, single_quote, is_bare_name, is_bare_value}

-- P7, P11: one of the two quotes isn't in it
unfoldable pub is_quotable : List ℕ → Bool
is_quotable s = are_of (Not double_quote) s || are_of (Not single_quote) s

-- P11: a name
unfoldable pub is_name : List ℕ → Bool
is_name s = leb 1 (length s) && (are_of InLine s && (is_bare_name s || is_quotable s))

-- P11: a value
unfoldable pub is_value : List ℕ → Bool
is_value s = are_of InLine s && (is_bare_value s || is_quotable s)

-- P11: a command
unfoldable pub is_command : List ℕ → Bool
is_command s = leb 1 (length s) && (are_of InLine s && not (is_blank (get_or s 0 0)))

-- P11: five sets and star flags
unfoldable pub is_schedule : Schedule → Bool
is_schedule s =
    is_field minute_limits s.minutes s.stars.minutes
    && (is_field hour_limits s.hours s.stars.hours
    && (is_field day_limits s.days s.stars.days
    && (is_field month_limits s.months s.stars.months
    && is_field weekday_limits s.weekdays s.stars.weekdays)))

-- P11: a setting or an entry
unfoldable pub is_item : Item → Bool
is_item (setting name value) = is_name name && (is_value value && is_allowed_setting name value)
is_item (boot command) = is_command command
is_item (timed s command) = is_schedule s && is_command command

-- P11: all of some
unfoldable pub are_items : List Item → Bool
are_items [] = true
are_items (i ∷ items) = is_item i && are_items items
