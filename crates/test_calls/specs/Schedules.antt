-- A schedule by plain numbers, and its answers as plain numbers.
-- Assumes nothing.
use Rattle.std.specs.Prelude.{ℕ, ◌/◌, ◌%◌, false, cond, ◌||◌, eqb, leb, ℤ, pos, negsuc, Err}
use Rattle.std.specs.Int.Signed.{lt_z}
use Rattle.calendar.specs.Refusals.{not_on_calendar}
use Rattle.calendar.specs.Dates.{last_minute}
use Rattle.schedule.specs.declared.Schedule.{Schedule}
use Rattle.schedule.specs.Match.{is_due}
use Rattle.schedule.specs.Local.{biased_offset, next_after_in}
use Rattle.schedule.specs.Clocks.{clock_after_in}
use Rattle.test_calls.specs.Numbers.{number_of}

unfoldable pub schedule_of : ℕ → ℕ → ℕ → ℕ → ℕ → ℕ → Schedule
schedule_of minutes hours days months weekdays stars =
    record {
      minutes = minutes;
      hours = hours % 4294967296;
      days = days % 4294967296;
      months = months % 65536;
      weekdays = weekdays % 256;
      stars = record { minutes = false; hours = false; days = eqb (stars % 2) 1; months = false; weekdays = eqb (stars / 2 % 2) 1 };
    }

-- an offset from -12:00 to +14:00 is itself, any other is 0
unfoldable pub offset_of : ℤ → ℤ
offset_of z = cond (lt_z z (negsuc 719) || lt_z (pos 840) z) (pos 0) z

-- After a minute, by the search that answers entries, and by the clock. A minute off the calendar is refused first (R34).
unfoldable pub next_number : Schedule → ℤ → ℕ → ℕ
next_number s offset minute =
    cond (leb minute last_minute) (number_of (next_after_in s (biased_offset (offset_of offset)) minute)) (number_of (Err not_on_calendar))

unfoldable pub clock_number : Schedule → ℤ → ℕ → ℕ
clock_number s offset minute =
    cond (leb minute last_minute) (number_of (clock_after_in s (biased_offset (offset_of offset)) minute)) (number_of (Err not_on_calendar))

unfoldable pub match_number : Schedule → ℕ → ℕ
match_number s minute = cond (is_due s minute) 1 0
